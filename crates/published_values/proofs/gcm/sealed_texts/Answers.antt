use Rattle.std.proofs.Common.{◌≡◌, ℕ, List, [], ◌∷◌, ◌++◌, refl, ◌∙◌, length}
use Rattle.bits_core.specs.ByteList.{zeros}
use Rattle.aes_spec.specs.Field.{product, remainder, times, first_from, inverse, affine_bit, byte_of, affine, sub_byte, power}
use Rattle.aes_spec.specs.Key.{key_expansion, key_rounds, schedule_words}
use Rattle.published_values.specs.Bytes.{bytes}
use Rattle.published_values.specs.Tables.{sbox}
use Rattle.published_values.proofs.Substitutions.{looked_up}
use Rattle.published_values.proofs.Schedules.{rounds_by, cipher_by, by_words, at_once}
use Rattle.aes_spec.specs.Gctr.{inc32, counter_block}
use Rattle.ghash_core.specs.Block.{bits, block_of, value_of_bits, first_bytes, bytes_of, plus, zero_block, one_block, reduction, by_x, ghash, first_blocks, blocks_in, blocks_of}
use Rattle.ghash_core.specs.Block as Block
use Rattle.gcm_mode.specs.Gcm.{bit_lengths}
use Rattle.published_values.proofs.CounterBlocks.{plus_stream}
use Rattle.published_values.proofs.Sealing.{added, hashed, seals, sealed_is}
use Rattle.aes_spec.specs.Key.{aes}
use Rattle.published_values.proofs.gcm.sealed_texts.Goals as goal

pub returns-clause-inc32 : goal.returns-clause-inc32
unfolding bytes
returns-clause-inc32 c = refl

-- test case 4, with the values that stand between
abbrev key : List ℕ
key = bytes 16 0xfeffe9928665731c6d6a8f9467308308

abbrev iv : List ℕ
iv = bytes 12 0xcafebabefacedbaddecaf888

abbrev counter : List ℕ
counter = iv ++ 0 ∷ 0 ∷ 0 ∷ 1 ∷ []

abbrev aad : List ℕ
aad = bytes 20 0xfeedfacedeadbeeffeedfacedeadbeefabaddad2

abbrev text : List ℕ
text = bytes 30 0xd9313225f88406e5a55909c5aff5269a86a7a9531534f7da2e4c303d8a31 ++ bytes 30 0x8a721c3c0c95956809532fcf0e2449a6b525b16aedf5aa0de657ba637b39

abbrev ciphertext : List ℕ
ciphertext = bytes 30 0x42831ec2217774244b7221b784d0d49ce3aa212f2c02a4e035c17e2329ac ++ bytes 30 0xa12e21d514b25466931c7d8f6a5aac84aa051ba30b396a0aac973d58e091

abbrev subkey : List ℕ
subkey = bytes 16 0xb83b533708bf535d0aa6e52980d53b78

abbrev sum : List ℕ
sum = bytes 16 0x698e57f70e6ecc7fd9463b7260a9ae5f

abbrev tag : List ℕ
tag = bytes 16 0x5bc94fbc3221a5db94fae95ae7121a47

long : length iv ≡ 12
unfolding bytes
long = refl

rounds : key_rounds key ≡ 10
unfolding bytes
rounds = refl

of_text : by_words (λ enciphered. added enciphered (inc32 counter) text) 10 (schedule_words key) ≡ ciphertext
unfolding product remainder times first_from inverse affine_bit byte_of affine sub_byte power key_expansion bytes sbox looked_up rounds_by cipher_by by_words counter_block plus_stream added
of_text = refl

of_zeros : by_words (λ enciphered. enciphered (zeros 16)) 10 (schedule_words key) ≡ subkey
unfolding product remainder times first_from inverse affine_bit byte_of affine sub_byte power key_expansion bytes sbox looked_up rounds_by cipher_by by_words
of_zeros = refl

of_parts : hashed subkey aad ciphertext ≡ sum
unfolding bytes bits block_of value_of_bits first_bytes bytes_of plus zero_block one_block reduction by_x Block.product Block.power ghash first_blocks blocks_in blocks_of bit_lengths hashed
of_parts = refl

of_sum : by_words (λ enciphered. added enciphered counter sum) 10 (schedule_words key) ≡ tag
unfolding product remainder times first_from inverse affine_bit byte_of affine sub_byte power key_expansion bytes sbox looked_up rounds_by cipher_by by_words counter_block plus_stream added
of_sum = refl

pub returns-clause-case_4 : goal.returns-clause-case_4
returns-clause-case_4 c =
    seals key iv aad text long
    ∙ sealed_is (aes key) counter aad text ciphertext subkey sum tag
    (at_once (λ enciphered. added enciphered (inc32 counter) text) key 10 rounds ∙ of_text)
    (at_once (λ enciphered. enciphered (zeros 16)) key 10 rounds ∙ of_zeros)
    of_parts
    (at_once (λ enciphered. added enciphered counter sum) key 10 rounds ∙ of_sum)
