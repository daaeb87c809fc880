use Rattle.std.proofs.Common.{◌≡◌, refl, ◌∙◌}
use Rattle.aes_spec.specs.Field.{product, remainder, times, first_from, inverse, affine_bit, byte_of, affine, sub_byte, inv_affine_bit, inv_affine, inv_sub_byte, power}
use Rattle.aes_spec.specs.Key.{key_expansion, key_rounds, schedule_words}
use Rattle.published_values.specs.Bytes.{bytes}
use Rattle.published_values.specs.Tables.{sbox}
use Rattle.published_values.proofs.Substitutions.{looked_up}
use Rattle.published_values.proofs.Schedules.{rounds_by, cipher_by, by_words, at_once}
use Rattle.aes_spec.specs.Key.{round_key}
use Rattle.aes_spec.specs.Aes.{unmixed_rounds, inverse_cipher}
use Rattle.published_values.proofs.aes.ciphers.Goals as goal

example : by_words (λ enciphered. enciphered (bytes 16 0x3243f6a8885a308d313198a2e0370734)) 10 (schedule_words (bytes 16 0x2b7e151628aed2a6abf7158809cf4f3c)) ≡ bytes 16 0x3925841d02dc09fbdc118597196a0b32
unfolding product remainder times first_from inverse affine_bit byte_of affine sub_byte power key_expansion bytes sbox looked_up rounds_by cipher_by by_words
example = refl

rounds_example : key_rounds (bytes 16 0x2b7e151628aed2a6abf7158809cf4f3c) ≡ 10
unfolding bytes
rounds_example = refl

pub returns-clause-example : goal.returns-clause-example
returns-clause-example c = at_once (λ enciphered. enciphered (bytes 16 0x3243f6a8885a308d313198a2e0370734)) (bytes 16 0x2b7e151628aed2a6abf7158809cf4f3c) 10 rounds_example ∙ example

under_128 : by_words (λ enciphered. enciphered (bytes 16 0x00112233445566778899aabbccddeeff)) 10 (schedule_words (bytes 16 0x000102030405060708090a0b0c0d0e0f)) ≡ bytes 16 0x69c4e0d86a7b0430d8cdb78070b4c55a
unfolding product remainder times first_from inverse affine_bit byte_of affine sub_byte power key_expansion bytes sbox looked_up rounds_by cipher_by by_words
under_128 = refl

rounds_under_128 : key_rounds (bytes 16 0x000102030405060708090a0b0c0d0e0f) ≡ 10
unfolding bytes
rounds_under_128 = refl

pub returns-clause-under_128 : goal.returns-clause-under_128
returns-clause-under_128 c = at_once (λ enciphered. enciphered (bytes 16 0x00112233445566778899aabbccddeeff)) (bytes 16 0x000102030405060708090a0b0c0d0e0f) 10 rounds_under_128 ∙ under_128

under_192 : by_words (λ enciphered. enciphered (bytes 16 0x00112233445566778899aabbccddeeff)) 12 (schedule_words (bytes 24 0x000102030405060708090a0b0c0d0e0f1011121314151617)) ≡ bytes 16 0xdda97ca4864cdfe06eaf70a0ec0d7191
unfolding product remainder times first_from inverse affine_bit byte_of affine sub_byte power key_expansion bytes sbox looked_up rounds_by cipher_by by_words
under_192 = refl

rounds_under_192 : key_rounds (bytes 24 0x000102030405060708090a0b0c0d0e0f1011121314151617) ≡ 12
unfolding bytes
rounds_under_192 = refl

pub returns-clause-under_192 : goal.returns-clause-under_192
returns-clause-under_192 c = at_once (λ enciphered. enciphered (bytes 16 0x00112233445566778899aabbccddeeff)) (bytes 24 0x000102030405060708090a0b0c0d0e0f1011121314151617) 12 rounds_under_192 ∙ under_192

under_256 : by_words (λ enciphered. enciphered (bytes 16 0x00112233445566778899aabbccddeeff)) 14 (schedule_words (bytes 32 0x000102030405060708090a0b0c0d0e0f101112131415161718191a1b1c1d1e1f)) ≡ bytes 16 0x8ea2b7ca516745bfeafc49904b496089
unfolding product remainder times first_from inverse affine_bit byte_of affine sub_byte power key_expansion bytes sbox looked_up rounds_by cipher_by by_words
under_256 = refl

rounds_under_256 : key_rounds (bytes 32 0x000102030405060708090a0b0c0d0e0f101112131415161718191a1b1c1d1e1f) ≡ 14
unfolding bytes
rounds_under_256 = refl

pub returns-clause-under_256 : goal.returns-clause-under_256
returns-clause-under_256 c = at_once (λ enciphered. enciphered (bytes 16 0x00112233445566778899aabbccddeeff)) (bytes 32 0x000102030405060708090a0b0c0d0e0f101112131415161718191a1b1c1d1e1f) 14 rounds_under_256 ∙ under_256

pub returns-clause-back_under_128 : goal.returns-clause-back_under_128
unfolding product remainder times first_from inverse affine_bit byte_of affine sub_byte inv_affine_bit inv_affine inv_sub_byte power unmixed_rounds inverse_cipher key_expansion round_key bytes
returns-clause-back_under_128 c = refl
