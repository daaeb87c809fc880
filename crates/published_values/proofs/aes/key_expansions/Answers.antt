use Rattle.std.proofs.Common.{refl}
use Rattle.aes_spec.specs.Field.{product, remainder, times, first_from, inverse, affine_bit, byte_of, affine, sub_byte, power}
use Rattle.aes_spec.specs.Key.{key_expansion}
use Rattle.published_values.specs.Bytes.{bytes}
use Rattle.published_values.proofs.aes.key_expansions.Goals as goal

pub returns-clause-of_128 : goal.returns-clause-of_128
unfolding product remainder times first_from inverse affine_bit byte_of affine sub_byte power key_expansion bytes
returns-clause-of_128 c = refl

pub returns-clause-of_192 : goal.returns-clause-of_192
unfolding product remainder times first_from inverse affine_bit byte_of affine sub_byte power key_expansion bytes
returns-clause-of_192 c = refl

pub returns-clause-of_256 : goal.returns-clause-of_256
unfolding product remainder times first_from inverse affine_bit byte_of affine sub_byte power key_expansion bytes
returns-clause-of_256 c = refl
