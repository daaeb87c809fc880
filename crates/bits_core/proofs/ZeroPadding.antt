-- Lists of zeros, and lists padded with them.
use Rattle.bits_core.specs.ByteList.{zeros, zero_padded}
use Rattle.std.proofs.Common.{◌≡◌, ℕ, ◌+◌, ◌-◌, ◌<◌, ◌≤◌, List, ◌++◌, length, take, get_or, sym, ap, ◌∙◌, arith, inl, inr}
use Rattle.std.proofs.lemmas.List.{get_or_append_left, get_or-replicate, get_or_past, length-append, length-replicate, take-append-le, take_all, append_assoc, replicate-append-replicate}
use Rattle.std.proofs.Math.Seq.{get_or-append_right}
use Rattle.std.proofs.lemmas.Bool.{cases_lt}
use Rattle.std.proofs.lemmas.Grind.{same_number_lists}

-- each place of a list of zeros is zero, also past its end
pub get_or-zeros : (n j : ℕ) → get_or (zeros n) j 0 ≡ 0
get_or-zeros n j =
    elim (cases_lt j n) [
      | inl within ↦ get_or-replicate n j 0 0 within
      | inr past ↦ get_or_past (zeros n) j 0 (omega (arith, length-replicate {A = ℕ} n 0))
    ]

pub length-zeros : (n : ℕ) → length (zeros n) ≡ n
length-zeros n = length-replicate {A = ℕ} n 0

pub zeros-append-zeros : (n m : ℕ) → zeros n ++ zeros m ≡ zeros (n + m)
zeros-append-zeros n m = replicate-append-replicate n m 0

pub length-zero_padded : (n : ℕ) (bytes : List ℕ) → length bytes ≤ n → length (zero_padded n bytes) ≡ n
length-zero_padded n bytes fits =
    length-append bytes (zeros (n - length bytes)) ∙ omega (arith, length-zeros (n - length bytes))

-- a list is a padded one where its places are
pub is_zero_padded : (n : ℕ) (block bytes : List ℕ) → length block ≡ n → length bytes ≤ n
    → ((k : ℕ) → k < length bytes → get_or block k 0 ≡ get_or bytes k 0)
    → ((k : ℕ) → length bytes ≤ k → get_or block k 0 ≡ 0) → block ≡ zero_padded n bytes
is_zero_padded n block bytes long fits copied rest =
    let tail : List ℕ = zeros (n - length bytes) in
    same_number_lists block (zero_padded n bytes) (long ∙ sym (length-zero_padded n bytes fits)) (λ k h.
    elim (cases_lt k (length bytes)) [
      | inl below ↦ copied k below ∙ sym (get_or_append_left bytes tail 0 k below)
      | inr above ↦ rest k above ∙ sym (get_or-append_right bytes tail k 0 above ∙ get_or-zeros (n - length bytes) (k - length bytes))
    ])

-- the front of two joined lists
pub take_front : (n : ℕ) (xs ys : List ℕ) → length xs ≡ n → take n (xs ++ ys) ≡ xs
take_front n xs ys long = take-append-le n xs ys (omega arith) ∙ take_all n xs (omega arith)

-- padding further and then cutting is padding
pub take-zero_padded : (n m : ℕ) (bytes : List ℕ) → length bytes ≤ n → n ≤ m → take n (zero_padded m bytes) ≡ zero_padded n bytes
take-zero_padded n m bytes fits below =
    let a : List ℕ = zeros (n - length bytes) in
    let b : List ℕ = zeros (m - n) in
    let parts : zeros (m - length bytes) ≡ a ++ b =
    ap zeros (let e : m - length bytes ≡ (n - length bytes) + (m - n) = omega arith in e)
    ∙ sym (zeros-append-zeros (n - length bytes) (m - n)) in
    ap (λ (z : List ℕ). take n (bytes ++ z)) parts
    ∙ ap (take n) (sym (append_assoc bytes a b))
    ∙ take_front n (bytes ++ a) b (length-zero_padded n bytes fits)
