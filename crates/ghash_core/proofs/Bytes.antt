-- Blocks of bytes, one after the other.
use Rattle.ghash_core.specs.Block.{blocks_in}
use Rattle.ghash_core.specs.Number.{horner, numbers, number_of, number_product}
use Rattle.std.proofs.Common.{◌≡◌, ℕ, suc, ◌+◌, ◌-◌, ◌/◌, ◌<◌, ◌≤◌, List, ◌++◌, length, take, drop, get_or, bit_xor, sym, ap, ◌∙◌, arith, inl, inr}
use Rattle.std.specs.Prelude.{replicate}
use Rattle.std.proofs.lemmas.List.{take-append-le, get_or-take, get_or_append_left, get_or-replicate, get_or_past, length-take, length-append, length-replicate}
use Rattle.std.proofs.Math.Seq.{get_or-append_right}
use Rattle.std.proofs.lemmas.Bool.{cases_lt}
use Rattle.std.proofs.lemmas.Grind.{same_number_lists}

pub whole_block : (h y : ℕ) (rest block after : List ℕ) → block ≡ take 16 rest → after ≡ drop 16 rest → length after + 16 ≡ length rest →
    horner h y (numbers (blocks_in (length rest)) rest) ≡ horner h (number_product (bit_xor y (number_of block)) h) (numbers (blocks_in (length after)) after)
unfolding horner numbers blocks_in
whole_block h y rest block after e d l =
    let count : (length rest + 15) / 16 ≡ suc ((length after + 15) / 16) = omega arith in
    let front : take 16 (rest ++ replicate 16 0) ≡ block = take-append-le 16 rest (replicate 16 0) (omega arith) ∙ sym e in
    ap (λ (n : ℕ). horner h y (numbers n rest)) count
    ∙ ap (λ (b : List ℕ). horner h (number_product (bit_xor y (number_of b)) h) (numbers ((length after + 15) / 16) (drop 16 rest))) front
    ∙ ap (λ (b : List ℕ). horner h (number_product (bit_xor y (number_of block)) h) (numbers ((length after + 15) / 16) b)) (sym d)

pub no_block : (h y : ℕ) (rest : List ℕ) → length rest ≡ 0 → horner h y (numbers (blocks_in (length rest)) rest) ≡ y
unfolding horner numbers blocks_in
no_block h y rest l = ap (λ (n : ℕ). horner h y (numbers ((n + 15) / 16) rest)) l

pub last_block : (h y : ℕ) (rest : List ℕ) → 0 < length rest → length rest < 16 →
    horner h y (numbers (blocks_in (length rest)) rest) ≡ number_product (bit_xor y (number_of (take 16 (rest ++ replicate 16 0)))) h
unfolding horner numbers blocks_in
last_block h y rest p l =
    let count : (length rest + 15) / 16 ≡ 1 = omega arith in
    ap (λ (n : ℕ). horner h y (numbers n rest)) count

abbrev pub zeros16 : List ℕ
zeros16 = replicate 16 0

pub zeros_at : (j : ℕ) → get_or zeros16 j 0 ≡ 0
zeros_at j = elim (cases_lt j 16) [ inl h ↦ get_or-replicate 16 j 0 0 h | inr h ↦ get_or_past zeros16 j 0 h ]

pub padded_is : (block bytes : List ℕ) → length block ≡ 16 → length bytes ≤ 16 → ((k : ℕ) → k < length bytes → get_or block k 0 ≡ get_or bytes k 0)
    → ((k : ℕ) → length bytes ≤ k → get_or block k 0 ≡ 0) → block ≡ take 16 (bytes ++ replicate 16 0)
padded_is block bytes size fits copied zeros =
    same_number_lists block (take 16 (bytes ++ replicate 16 0)) (size ∙ sym (taken_length bytes)) (λ k h.
    elim (cases_lt k (length bytes)) [
      | inl below ↦ copied k below ∙ sym (get_or-take 16 (bytes ++ replicate 16 0) k 0 (omega arith) ∙ get_or_append_left bytes zeros16 0 k below)
      | inr above ↦ zeros k above ∙ sym (get_or-take 16 (bytes ++ replicate 16 0) k 0 (omega arith) ∙ get_or-append_right bytes zeros16 k 0 above ∙ zeros_at (k - length bytes))
    ])
  where
    taken_length : (xs : List ℕ) → length (take 16 (xs ++ replicate 16 0)) ≡ 16
    taken_length xs = simp (length-take, length-append, length-replicate) (omega arith)
