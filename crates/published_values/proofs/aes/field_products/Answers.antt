use Rattle.std.proofs.Common.{refl}
use Rattle.aes_spec.specs.Field.{product, remainder, times}
use Rattle.published_values.proofs.aes.field_products.Goals as goal

pub returns-clause-by_83 : goal.returns-clause-by_83
unfolding product remainder times
returns-clause-by_83 c = refl

pub returns-clause-by_13 : goal.returns-clause-by_13
unfolding product remainder times
returns-clause-by_13 c = refl
