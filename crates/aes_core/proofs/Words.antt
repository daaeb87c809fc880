-- The words of a schedule as the code fills them in.
use Rattle.std.proofs.Common.{◌≡◌, ℕ, zero, suc, ◌+◌, ◌-◌, ◌/◌, ◌%◌, ◌<◌, ◌≤◌, Bool, cond, List, [], ◌∷◌, ◌++◌, length, take, drop, set, map, refl, sym, ap, ◌∙◌, arith, inl, inr, add-one, eq-eqb, bit_xor, slice_index, slice_index_or}
use Rattle.std.specs.Prelude.{nat_lt, ◌==◌, ◌&&◌, IsTrue}
use Rattle.bits_core.specs.Parameters.{is_aes_length}
use Rattle.std.specs.List.{range_with_len}
use Rattle.std.specs.Int.Bits.{xor_zero_r}
use Rattle.std.proofs.lemmas.Bool.{cases_lt, lt-ltb}
use Rattle.std.proofs.lemmas.List.{length-append, drop-set-lt, drop-drop, drop-replicate, get_or-take, length-drop, length-replicate}
use Rattle.std.proofs.lemmas.Grind.{take-set_at, common_steps}
use Rattle.std.proofs.lemmas.List.FromFn.{get_or-map-range_with_len}
use Rattle.bits_core.specs.ByteList.{zeros}
use Rattle.aes_spec.specs.Field.{product, remainder, times, power, sub_byte}
use Rattle.aes_spec.specs.Key.{word_sum, sub_word, rot_word, rcon, key_word, added_word, next_word, key_expansion}
use Rattle.aes_core.specs.Schedules.{zero_words}
use Rattle.aes_core.specs.declared.expansion.TheConstants.{ROUND_CONSTANTS}

constants_table : map (slice_index ROUND_CONSTANTS) (range_with_len 0 15) ≡ map (λ j. power 2 (j - 1)) (range_with_len 0 15)
unfolding product remainder times power
constants_table = refl

pub round_constant_is : (j : ℕ) → j < 15 → slice_index ROUND_CONSTANTS j ≡ power 2 (j - 1)
round_constant_is j h =
    sym (get_or-map-range_with_len (slice_index ROUND_CONSTANTS) 0 15 j j 0 h (omega arith))
    ∙ ap (λ (t : List ℕ). slice_index t j) constants_table
    ∙ get_or-map-range_with_len (λ (j : ℕ). power 2 (j - 1)) 0 15 j j 0 h (omega arith)

-- the word added at a multiple of nk
pub added_at_multiple : (nk i : ℕ) (last : List ℕ) (s1 s2 s3 s0 k : ℕ) → i % nk ≡ 0
    → s1 ≡ sub_byte (slice_index last 1) → s2 ≡ sub_byte (slice_index last 2) → s3 ≡ sub_byte (slice_index last 3) → s0 ≡ sub_byte (slice_index last 0)
    → k ≡ power 2 (i / nk - 1) → bit_xor s1 k ∷ s2 ∷ s3 ∷ s0 ∷ [] ≡ added_word nk i last
added_at_multiple nk i last s1 s2 s3 s0 k multiple e1 e2 e3 e0 ek =
    let z : (a b : ℕ) → a ≡ b → a ≡ bit_xor b 0 = λ a b e. e ∙ sym (xor_zero_r b) in
    let f2 = z s2 (sub_byte (slice_index last 2)) e2 in
    let f3 = z s3 (sub_byte (slice_index last 3)) e3 in
    let f0 = z s0 (sub_byte (slice_index last 0)) e0 in
    (λ j. bit_xor (e1 j) (ek j) ∷ f2 j ∷ f3 j ∷ f0 j ∷ [])
    ∙ sym (ap (λ (b : Bool). cond b (word_sum (sub_word (rot_word last)) (rcon (i / nk))) (cond ((nk == 8) && (i % 8 == 4)) (sub_word last) last)) (eq-eqb (i % nk) 0 multiple))

-- a word depends on the words before it alone
next_word-take : (key : List ℕ) (nk : ℕ) (ws : List (List ℕ)) (i : ℕ) → 0 < nk → next_word key nk ws i ≡ next_word key nk (take i ws) i
next_word-take key nk ws i some =
    let other : List (List ℕ) → List ℕ = λ vs. word_sum (slice_index_or vs (i - nk) []) (added_word nk i (slice_index_or vs (i - 1) [])) in
    elim (cases_lt i nk) [
      | inl below ↦
          ap (λ (b : Bool). cond b (key_word key i) (other ws)) (lt-ltb i nk below)
          ∙ sym (ap (λ (b : Bool). cond b (key_word key i) (other (take i ws))) (lt-ltb i nk below))
      | inr above ↦
          let first : slice_index_or ws (i - nk) [] ≡ slice_index_or (take i ws) (i - nk) [] = sym (get_or-take i ws (i - nk) [] (omega arith)) in
          let last : slice_index_or ws (i - 1) [] ≡ slice_index_or (take i ws) (i - 1) [] = sym (get_or-take i ws (i - 1) [] (omega arith)) in
          λ j. cond (nat_lt i nk) (key_word key i) (word_sum (first j) (added_word nk i (last j)))
    ]

pub key_expansion-more : (key : List ℕ) (nk : ℕ) (ws : List (List ℕ)) (i : ℕ) (v : List ℕ) → 0 < nk → i < length ws
    → take i ws ≡ key_expansion key nk i → v ≡ next_word key nk ws i → take (i + 1) (set ws i v) ≡ key_expansion key nk (i + 1)
unfolding key_expansion
key_expansion-more key nk ws i v some within so_far is =
    take-set_at ws i (i + 1) v refl within
    ∙ (λ j. so_far j ++ (is ∙ next_word-take key nk ws i some ∙ ap (λ (vs : List (List ℕ)). next_word key nk vs i) so_far) j ∷ [])
    ∙ ap (key_expansion key nk) (sym (add-one i))

pub rest_stays_zero : (ws : List (List ℕ)) (i : ℕ) (v : List ℕ) → drop i ws ≡ zero_words (60 - i) → drop (i + 1) (set ws i v) ≡ zero_words (60 - (i + 1))
rest_stays_zero ws i v rest =
    drop-set-lt (i + 1) ws i v (omega arith)
    ∙ sym (drop-drop 1 i ws)
    ∙ ap (drop 1) rest
    ∙ drop-replicate 1 (60 - i) (zeros 4)
    ∙ ap zero_words (let e : 60 - i - 1 ≡ 60 - (i + 1) = omega arith in e)

pub length-key_expansion : (key : List ℕ) (nk n : ℕ) → length (key_expansion key nk n) ≡ n
unfolding key_expansion
length-key_expansion key nk zero = refl
length-key_expansion key nk (suc n) =
    let ws : List (List ℕ) = key_expansion key nk n in
    length-append ws (next_word key nk ws n ∷ []) ∙ omega (arith, length-key_expansion key nk n)

pub few_words : (n : ℕ) → IsTrue (is_aes_length n) → (16 ≤ n) × (n ≤ 32)
few_words n fits = (grind (arith, common_steps), grind (arith, common_steps))

-- a word that is still zero is there
pub word_is_there : (ws : List (List ℕ)) (i : ℕ) → drop i ws ≡ zero_words (60 - i) → i < 60 → i < length ws
word_is_there ws i rest low = omega (arith, ap length rest, length-drop i ws, length-replicate (60 - i) (zeros 4))
