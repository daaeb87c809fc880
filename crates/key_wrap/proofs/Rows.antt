-- The registers of the standard in a row.
use Rattle.std.proofs.Common.{◌≡◌, ℕ, zero, suc, ◌+◌, ◌-◌, ◌*◌, ◌/◌, ◌<◌, ◌≤◌, ◌==◌, List, ◌++◌, length, take, drop, refl, sym, ap, ap₂, ◌∙◌, arith, inl, inr, cond, Bool, eq-eqb}
use Rattle.std.specs.Int.{w64, to_be_bytes}
use Rattle.std.proofs.lemmas.Bool.{cases_eq, ne_eqb}
use Rattle.std.proofs.lemmas.List.{length-take-le, length-drop, drop-drop, drop-take, take-append-drop, take-take, take_all, append_assoc, append-nil}
use Rattle.bits_core.specs.ByteList.{xor_bytes}
use Rattle.key_wrap.specs.Wrapping.{Registers, semiblock, next_registers, registers, row}
use Rattle.key_wrap.proofs.Undone.{sum-half, drop-half}
use Rattle.key_wrap.proofs.RegisterOrder.{forward, forward_parts}

abbrev pub in_row : Registers → ℕ → List ℕ
in_row now m = now.a ++ row now.r m

pub at_last : (i n : ℕ) (x y : List ℕ) → i ≡ n → cond (i == n) x y ≡ x
at_last i n x y e = ap (λ (b : Bool). cond b x y) (eq-eqb i n e)

pub before_last : (i n : ℕ) (x y : List ℕ) → (i ≡ n → ⊥) → cond (i == n) x y ≡ y
before_last i n x y ne = ap (λ (b : Bool). cond b x y) (ne_eqb i n ne)

row_same : (r s : ℕ → List ℕ) (k : ℕ) → ((i : ℕ) → i < k + 2 → r i ≡ s i) → row r k ≡ row s k
unfolding row
row_same r s zero same = refl
row_same r s (suc k) same = ap₂ (λ (u v : List ℕ). u ++ v) (row_same r s k (λ i h. same i (omega arith))) (same (k + 2) (omega arith))

-- the first register and then those moved down by one
row_first : (r : ℕ → List ℕ) (k : ℕ) → r 2 ++ row (λ i. r (i + 1)) k ≡ row r (suc k)
unfolding row
row_first r zero = append-nil (r 2)
row_first r (suc k) =
    sym (append_assoc (r 2) (row (λ i. r (i + 1)) k) (r (k + 2 + 1)))
    ∙ ap₂ (λ (u v : List ℕ). u ++ v) (row_first r k) (ap r (let e : k + 2 + 1 ≡ suc k + 2 = omega arith in e))

-- a step of the registers is one of the row
pub row_step : (enciphered : List ℕ → List ℕ) (t k : ℕ) (now : Registers) → length now.a ≡ 8 → length (now.r 2) ≡ 8
    → in_row (next_registers enciphered (suc k + 1) t now) (suc k) ≡ forward enciphered t (in_row now (suc k))
unfolding row
row_step enciphered t k now la lr =
    let n : ℕ = suc k + 1 in
    let b : List ℕ = enciphered (now.a ++ now.r 2) in
    let f : List ℕ = xor_bytes (take 8 b) (to_be_bytes w64 t) in
    let new : ℕ → List ℕ = λ i. cond (i == n) (drop 8 b) (now.r (i + 1)) in
    let moved : ℕ → List ℕ = λ i. now.r (i + 1) in
    let fore : row new k ≡ row moved k =
    row_same new moved k (λ i h. before_last i n (drop 8 b) (now.r (i + 1)) (λ e. absurd (omega arith))) in
    let last : new (k + 2) ≡ drop 8 b = at_last (k + 2) n (drop 8 b) (now.r (k + 2 + 1)) (omega arith) in
    ap₂ (λ (u v : List ℕ). f ++ (u ++ v)) fore last
    ∙ sym (forward_parts enciphered t now.a (now.r 2) (row moved k) la lr)
    ∙ ap (λ (v : List ℕ). forward enciphered t (now.a ++ v)) (row_first now.r k)

-- each of n registers is a semiblock
pub record AreSemiblocks (now : Registers) (n : ℕ) : Type 0 where
  pub first : length now.a ≡ 8
  pub others : (i : ℕ) → 2 ≤ i → i ≤ n → length (now.r i) ≡ 8

others_next : (enciphered : List ℕ → List ℕ) → ((b : List ℕ) → length (enciphered b) ≡ 16) → (n t : ℕ) (now : Registers) → AreSemiblocks now n
    → (i : ℕ) → 2 ≤ i → i ≤ n → length ((next_registers enciphered n t now).r i) ≡ 8
others_next enciphered blocks n t now h i low high =
    let b : List ℕ = enciphered (now.a ++ now.r 2) in
    elim (cases_eq i n) [
      | inl same ↦ ap (length {A = ℕ}) (at_last i n (drop 8 b) (now.r (i + 1)) same) ∙ drop-half b (blocks (now.a ++ now.r 2))
      | inr other ↦ ap (length {A = ℕ}) (before_last i n (drop 8 b) (now.r (i + 1)) other) ∙ h.others (i + 1) (omega arith) (omega arith)
    ]

pub semiblocks_at : (enciphered : List ℕ → List ℕ) → ((b : List ℕ) → length (enciphered b) ≡ 16) → (m : ℕ) (s : List ℕ) → 0 < m → length s ≡ 8 * m + 8
    → (t : ℕ) → AreSemiblocks (registers enciphered s t) (m + 1)
unfolding registers
semiblocks_at enciphered blocks m s some long zero = record {
  first = length-take-le 8 s (omega arith);
  others = λ i low high. length-take-le 8 (drop (8 * (i - 1)) s) (omega (arith, length-drop (8 * (i - 1)) s));
}
semiblocks_at enciphered blocks m s some long (suc t) =
    let before : Registers = registers enciphered s t in
    let h : AreSemiblocks before (m + 1) = semiblocks_at enciphered blocks m s some long t in
    let n : ℕ = length s / 8 in
    let e : n ≡ m + 1 = omega arith in
    let b : List ℕ = enciphered (before.a ++ before.r 2) in
    record {
      first = sum-half b (t + 1) (blocks (before.a ++ before.r 2));
      others = λ i low high. ap (λ (k : ℕ). length ((next_registers enciphered k (t + 1) before).r i)) e ∙ others_next enciphered blocks (m + 1) (t + 1) before h i low high;
    }

-- the semiblocks of a list in a row are the list
row_semiblocks : (s : List ℕ) (k : ℕ) → row (semiblock s) k ≡ take (8 * k) (drop 8 s)
unfolding row
row_semiblocks s zero = refl
row_semiblocks s (suc k) =
    let rest : List ℕ = drop 8 s in
    let more : ℕ = 8 * k + 8 in
    ap₂ (λ (u v : List ℕ). u ++ v) (row_semiblocks s k) (ap (λ (n : ℕ). take 8 (drop n s)) (let e : 8 * (k + 2 - 1) ≡ 8 + 8 * k = omega arith in e) ∙ ap (take 8) (sym (drop-drop (8 * k) 8 s)))
    ∙ ap₂ (λ (u v : List ℕ). u ++ v) (sym (take-take (8 * k) more rest (omega arith))) (sym (drop-take (8 * k) 8 rest))
    ∙ take-append-drop (8 * k) (take more rest)
    ∙ ap (λ (n : ℕ). take n rest) (let e : more ≡ 8 * suc k = omega arith in e)

pub row_of_list : (enciphered : List ℕ → List ℕ) (m : ℕ) (s : List ℕ) → length s ≡ 8 * m + 8 → in_row (registers enciphered s 0) m ≡ s
unfolding registers
row_of_list enciphered m s long =
    ap (λ (v : List ℕ). take 8 s ++ v) (row_semiblocks s m ∙ take_all (8 * m) (drop 8 s) (omega (arith, length-drop 8 s)))
    ∙ take-append-drop 8 s
