use Rattle.std.proofs.Common.{◌≡◌, ℕ, List, refl, ◌∙◌}
use Rattle.aes_spec.specs.Field.{product, remainder, times, first_from, inverse, affine_bit, byte_of, affine, sub_byte, inv_affine_bit, inv_affine, inv_sub_byte, power}
use Rattle.aes_spec.specs.Aes.{mixed_rounds, cipher, unmixed_rounds, inverse_cipher}
use Rattle.aes_spec.specs.Key.{key_expansion, round_key}
use Rattle.published_values.specs.Bytes.{bytes}
use Rattle.key_wrap.specs.Wrapping.{registers, row, wrapped, kw, kwp}
use Rattle.key_wrap.specs.Unwrapping.{first_registers, unwrapped, unkw, padded_text, unpadded, unkwp}
use Rattle.aes_spec.specs.Key.{key_rounds, schedule_words}
use Rattle.published_values.specs.Tables.{sbox}
use Rattle.published_values.proofs.Substitutions.{looked_up}
use Rattle.published_values.proofs.Schedules.{rounds_by, cipher_by, by_words, at_once}
use Rattle.published_values.proofs.wrapping.wrapped_keys.Goals as goal

abbrev key : List ℕ
key = bytes 16 0x000102030405060708090a0b0c0d0e0f

abbrev text : List ℕ
text = bytes 16 0x00112233445566778899aabbccddeeff

rounds : key_rounds key ≡ 10
unfolding bytes
rounds = refl

computed : by_words (λ enciphered. kw enciphered text) 10 (schedule_words key) ≡ bytes 24 0x1fa68b0a8112b447aef34bd8fb5a7b829d3e862371d2cfe5
unfolding product remainder times first_from inverse affine_bit byte_of affine sub_byte power key_expansion bytes sbox looked_up rounds_by cipher_by by_words registers row wrapped kw
computed = refl

pub returns-clause-kw : goal.returns-clause-kw
returns-clause-kw c = at_once (λ enciphered. kw enciphered text) key 10 rounds ∙ computed

pub returns-clause-padded : goal.returns-clause-padded
unfolding product remainder times first_from inverse affine_bit byte_of affine sub_byte inv_affine_bit inv_affine inv_sub_byte power mixed_rounds cipher unmixed_rounds inverse_cipher key_expansion round_key bytes registers row wrapped kw kwp first_registers unwrapped unkw padded_text unpadded unkwp
returns-clause-padded c = refl

pub returns-clause-kwp : goal.returns-clause-kwp
unfolding product remainder times first_from inverse affine_bit byte_of affine sub_byte inv_affine_bit inv_affine inv_sub_byte power mixed_rounds cipher unmixed_rounds inverse_cipher key_expansion round_key bytes registers row wrapped kw kwp first_registers unwrapped unkw padded_text unpadded unkwp
returns-clause-kwp c = refl

pub returns-clause-kwp_back : goal.returns-clause-kwp_back
unfolding product remainder times first_from inverse affine_bit byte_of affine sub_byte inv_affine_bit inv_affine inv_sub_byte power mixed_rounds cipher unmixed_rounds inverse_cipher key_expansion round_key bytes registers row wrapped kw kwp first_registers unwrapped unkw padded_text unpadded unkwp
returns-clause-kwp_back c = refl
