-- KEYEXPANSION() (FIPS 197, section 5.2). A word is a list of four bytes, nk the number of words of the key.
use Rattle.std.specs.Prelude.{ℕ, zero, suc, ◌+◌, ◌-◌, ◌*◌, ◌/◌, ◌%◌, ◌==◌, ◌&&◌, nat_lt, cond, List, [], ◌∷◌, ◌++◌, map, length, bit_xor, slice_index, slice_index_or}
use Rattle.std.specs.List.{range_with_len}
use Rattle.aes_spec.specs.Field.{power, sub_byte}
use Rattle.aes_spec.specs.Aes.{state_by, cipher, inverse_cipher}

abbrev pub word_sum : List ℕ → List ℕ → List ℕ
word_sum a b = map (λ i. bit_xor (slice_index a i) (slice_index b i)) (range_with_len 0 4)

-- SUBWORD()
abbrev pub sub_word : List ℕ → List ℕ
sub_word a = map (λ i. sub_byte (slice_index a i)) (range_with_len 0 4)

-- ROTWORD()
abbrev pub rot_word : List ℕ → List ℕ
rot_word a = map (λ i. slice_index a ((i + 1) % 4)) (range_with_len 0 4)

-- the round constant j: x^(j-1) and three zeros
abbrev pub rcon : ℕ → List ℕ
rcon j = power 2 (j - 1) ∷ 0 ∷ 0 ∷ 0 ∷ []

-- word i of the key
abbrev pub key_word : List ℕ → ℕ → List ℕ
key_word key i = map (λ b. slice_index key (4 * i + b)) (range_with_len 0 4)

-- what word i adds to word i - nk, where `last` is word i - 1. The standard's second test is nk > 6 and i mod nk = 4; a key has 4, 6
-- or 8 words, and so it is nk = 8 and i mod 8 = 4.
abbrev pub added_word : ℕ → ℕ → List ℕ → List ℕ
added_word nk i last =
    cond (i % nk == 0) (word_sum (sub_word (rot_word last)) (rcon (i / nk)))
    (cond ((nk == 8) && (i % 8 == 4)) (sub_word last) last)

-- word n, from the words before it
abbrev pub next_word : List ℕ → ℕ → List (List ℕ) → ℕ → List ℕ
next_word key nk ws n =
    cond (nat_lt n nk) (key_word key n) (word_sum (slice_index_or ws (n - nk) []) (added_word nk n (slice_index_or ws (n - 1) [])))

-- the first n words
unfoldable pub key_expansion : List ℕ → ℕ → ℕ → List (List ℕ)
key_expansion key nk zero = []
key_expansion key nk (suc n) = let ws = key_expansion key nk n in ws ++ next_word key nk ws n ∷ []

-- Nk, the words of a key
abbrev pub key_words : List ℕ → ℕ
key_words key = length key / 4

-- Nr, the rounds under a key (section 5, table 3)
abbrev pub key_rounds : List ℕ → ℕ
key_rounds key = key_words key + 6

-- all words of the key schedule
abbrev pub schedule_words : List ℕ → List (List ℕ)
schedule_words key = key_expansion key (key_words key) (4 * (key_words key + 7))

-- round key r: four words, each a column
abbrev pub words_state : List (List ℕ) → ℕ → List ℕ
words_state ws r = state_by (λ row c. slice_index (slice_index_or ws (4 * r + c) []) row)

unfoldable pub round_key : List ℕ → ℕ → List ℕ
round_key key r = words_state (schedule_words key) r

-- the block that AES makes of a block under a key
abbrev pub aes : List ℕ → List ℕ → List ℕ
aes key block = cipher (round_key key) (key_rounds key) block

-- the block of which AES makes this block
abbrev pub aes_inverse : List ℕ → List ℕ → List ℕ
aes_inverse key block = inverse_cipher (round_key key) (key_rounds key) block
