use Rattle.std.proofs.Common.{refl}
use Rattle.aes_spec.specs.Field.{product, remainder, times, first_from, inverse, affine_bit, byte_of, affine, sub_byte}
use Rattle.published_values.proofs.Substitutions.{forward, backward}
use Rattle.published_values.proofs.aes.substitution_tables.Goals as goal

pub returns-clause-of_53 : goal.returns-clause-of_53
unfolding product remainder times first_from inverse affine_bit byte_of affine sub_byte
returns-clause-of_53 c = refl

pub returns-clause-forward : goal.returns-clause-forward
returns-clause-forward c = forward

pub returns-clause-backward : goal.returns-clause-backward
returns-clause-backward c = backward
