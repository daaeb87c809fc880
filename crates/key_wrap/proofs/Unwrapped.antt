-- W^-1 undoes W, and W undoes W^-1.
use Rattle.std.proofs.Common.{◌≡◌, ℕ, zero, suc, ◌+◌, ◌-◌, ◌*◌, ◌/◌, ◌%◌, ◌<◌, ◌≤◌, List, ◌++◌, length, take, drop, refl, sym, ap, ap₂, ◌∙◌, subst, arith, inl, inr}
use Rattle.std.specs.Int.{w64, to_be_bytes}
use Rattle.std.proofs.lemmas.Bool.{cases_lt, cases_eq}
use Rattle.std.proofs.lemmas.List.{length-append, length-drop, take_at, drop_at, take_all, take-append-le, drop-append-le, take-append-drop}
use Rattle.std.proofs.Math.Seq.{drop-append-add}
use Rattle.bits_core.specs.ByteList.{IsBytes, xor_bytes}
use Rattle.bits_core.proofs.Bytes.{IsBytes-take, IsBytes-drop}
use Rattle.aes_core.specs.Aes.{IsState}
use Rattle.aes_core.specs.Key.{aes, aes_inverse}
use Rattle.aes_spec.proofs.EncryptionUndoes.{aes-aes_inverse}
use Rattle.key_wrap.specs.Wrapping.{Registers, semiblock, next_registers, registers, row, wrapped}
use Rattle.key_wrap.specs.Unwrapping.{previous_registers, first_registers, unwrapped}
use Rattle.key_wrap.specs.InPlace.{steps}
use Rattle.key_wrap.proofs.BlockBytes.{bytes-xor, bytes-number, xor_twice, two_semiblocks}
use Rattle.key_wrap.proofs.Undone.{Inverses, HasRegisters, take-half, unsteps, steps-unsteps}
use Rattle.key_wrap.proofs.Rows.{at_last, before_last, AreSemiblocks, semiblocks_at, in_row, row_of_list}
use Rattle.key_wrap.proofs.Wraps.{wrapped-steps}
use Rattle.key_wrap.proofs.Cipher.{aes-long, aes_inverses}
use Rattle.key_wrap.proofs.Injective.{wrapped-long}
use Rattle.key_wrap.proofs.InverseStates.{aes_inverse-state}

-- both hold the same in the first n registers
record AreSame (x y : Registers) (n : ℕ) : Type 0 where
  pub first : x.a ≡ y.a
  pub others : (i : ℕ) → 2 ≤ i → i ≤ n → x.r i ≡ y.r i

joined_same : (x y z : Registers) (n : ℕ) → AreSame x y n → AreSame y z n → AreSame x z n
joined_same x y z n p q = record {
  first = p.first ∙ q.first;
  others = λ i low high. p.others i low high ∙ q.others i low high;
}

previous_same : (deciphered : List ℕ → List ℕ) (n t : ℕ) (x y : Registers) → 2 ≤ n → AreSame x y n
    → AreSame (previous_registers deciphered n t x) (previous_registers deciphered n t y) n
previous_same deciphered n t x y some h =
    let f : List ℕ → List ℕ → List ℕ = λ a r. deciphered (xor_bytes a (to_be_bytes w64 t) ++ r) in
    let block : f x.a (x.r n) ≡ f y.a (y.r n) = ap₂ f h.first (h.others n some (omega arith)) in
    record {
      first = ap (take 8) block;
      others = λ i low high.
          elim (cases_eq i 2) [
            | inl second ↦
                at_last i 2 (drop 8 (f x.a (x.r n))) (x.r (i - 1)) second ∙ ap (drop 8) block
                ∙ sym (at_last i 2 (drop 8 (f y.a (y.r n))) (y.r (i - 1)) second)
            | inr past ↦
                before_last i 2 (drop 8 (f x.a (x.r n))) (x.r (i - 1)) past ∙ h.others (i - 1) (omega (arith, past)) (omega arith)
                ∙ sym (before_last i 2 (drop 8 (f y.a (y.r n))) (y.r (i - 1)) past)
          ];
    }

first_same : (deciphered : List ℕ → List ℕ) (n t : ℕ) (x y : Registers) → 2 ≤ n → AreSame x y n
    → AreSame (first_registers deciphered n t x) (first_registers deciphered n t y) n
unfolding first_registers
first_same deciphered n zero x y some h = h
first_same deciphered n (suc t) x y some h =
    first_same deciphered n t (previous_registers deciphered n (t + 1) x) (previous_registers deciphered n (t + 1) y) some
    (previous_same deciphered n (t + 1) x y some h)

-- each of n registers is a semiblock of bytes
record AreByteSemiblocks (now : Registers) (n : ℕ) : Type 0 where
  pub long : AreSemiblocks now n
  pub first : IsBytes now.a
  pub others : (i : ℕ) → 2 ≤ i → i ≤ n → IsBytes (now.r i)

block_of : (now : Registers) (n : ℕ) → 2 ≤ n → AreByteSemiblocks now n → IsState (now.a ++ now.r 2)
block_of now n some h = two_semiblocks now.a (now.r 2) h.long.first (h.long.others 2 (omega arith) some) h.first (h.others 2 (omega arith) some)

previous_next : (enciphered deciphered : List ℕ → List ℕ) → Inverses enciphered deciphered → (n t : ℕ) (now : Registers) → 2 ≤ n → AreByteSemiblocks now n
    → AreSame (previous_registers deciphered n t (next_registers enciphered n t now)) now n
previous_next enciphered deciphered inv n t now some h =
    let state : IsState (now.a ++ now.r 2) = block_of now n some h in
    let b : List ℕ = enciphered (now.a ++ now.r 2) in
    let long : length b ≡ 16 = (inv.states (now.a ++ now.r 2) state).long in
    let number : List ℕ = to_be_bytes w64 t in
    let next : Registers = next_registers enciphered n t now in
    let fore : xor_bytes next.a number ≡ take 8 b = xor_twice (take 8 b) number (sym (take-half b long)) in
    let aft : next.r n ≡ drop 8 b = at_last n n (drop 8 b) (now.r (n + 1)) refl in
    let back : List ℕ = deciphered (xor_bytes next.a number ++ next.r n) in
    let opened : back ≡ now.a ++ now.r 2 =
    ap deciphered (ap₂ (λ (u v : List ℕ). u ++ v) fore aft ∙ take-append-drop 8 b) ∙ inv.undone (now.a ++ now.r 2) state in
    record {
      first = ap (take 8) opened ∙ take_at now.a (now.r 2) 8 h.long.first;
      others = λ i low high.
          elim (cases_eq i 2) [
            | inl second ↦
                at_last i 2 (drop 8 back) (next.r (i - 1)) second ∙ ap (drop 8) opened ∙ drop_at now.a (now.r 2) 8 h.long.first ∙ ap now.r (sym second)
            | inr past ↦
                before_last i 2 (drop 8 back) (next.r (i - 1)) past
                ∙ before_last (i - 1) n (drop 8 b) (now.r (i - 1 + 1)) (λ e. absurd (omega (arith, e, low, high)))
                ∙ ap now.r (let e : i - 1 + 1 ≡ i = omega (arith, low) in e)
          ];
    }

bytes_next : (enciphered deciphered : List ℕ → List ℕ) → Inverses enciphered deciphered → (n t : ℕ) (now : Registers) → 2 ≤ n → AreByteSemiblocks now n
    → AreSemiblocks (next_registers enciphered n t now) n → AreByteSemiblocks (next_registers enciphered n t now) n
bytes_next enciphered deciphered inv n t now some h long =
    let b : List ℕ = enciphered (now.a ++ now.r 2) in
    let state : IsState b = inv.states (now.a ++ now.r 2) (block_of now n some h) in
    record {
      long = long;
      first = bytes-xor (take 8 b) (to_be_bytes w64 t) (sym (take-half b state.long)) (IsBytes-take 8 b state.small) (bytes-number t);
      others = λ i low high.
          elim (cases_eq i n) [
            | inl last ↦ subst IsBytes (sym (at_last i n (drop 8 b) (now.r (i + 1)) last)) (IsBytes-drop 8 b state.small)
            | inr before ↦ subst IsBytes (sym (before_last i n (drop 8 b) (now.r (i + 1)) before)) (h.others (i + 1) (omega arith) (omega (arith, before)))
          ];
    }

bytes_at : (enciphered deciphered : List ℕ → List ℕ) → Inverses enciphered deciphered → ((b : List ℕ) → length (enciphered b) ≡ 16)
    → (m : ℕ) (s : List ℕ) → 0 < m → length s ≡ 8 * m + 8 → IsBytes s → (t : ℕ) → AreByteSemiblocks (registers enciphered s t) (m + 1)
unfolding registers
bytes_at enciphered deciphered inv blocks m s some long small zero = record {
  long = semiblocks_at enciphered blocks m s some long 0;
  first = IsBytes-take 8 s small;
  others = λ i low high. IsBytes-take 8 (drop (8 * (i - 1)) s) (IsBytes-drop (8 * (i - 1)) s small);
}
bytes_at enciphered deciphered inv blocks m s some long small (suc t) =
    let before : Registers = registers enciphered s t in
    let count : length s / 8 ≡ m + 1 = omega arith in
    let are : AreSemiblocks (next_registers enciphered (length s / 8) (t + 1) before) (m + 1) = semiblocks_at enciphered blocks m s some long (suc t) in
    let moved = subst (λ (k : ℕ). AreSemiblocks (next_registers enciphered k (t + 1) before) (m + 1)) count are in
    subst (λ (k : ℕ). AreByteSemiblocks (next_registers enciphered k (t + 1) before) (m + 1)) (sym count)
    (bytes_next enciphered deciphered inv (m + 1) (t + 1) before (omega arith) (bytes_at enciphered deciphered inv blocks m s some long small t) moved)

-- the steps undone lead back to the first registers
back_to_first : (enciphered deciphered : List ℕ → List ℕ) → Inverses enciphered deciphered → ((b : List ℕ) → length (enciphered b) ≡ 16)
    → (m : ℕ) (s : List ℕ) → 0 < m → length s ≡ 8 * m + 8 → IsBytes s → (t : ℕ)
    → AreSame (first_registers deciphered (m + 1) t (registers enciphered s t)) (registers enciphered s 0) (m + 1)
unfolding registers first_registers
back_to_first enciphered deciphered inv blocks m s some long small zero = record { first = refl; others = λ i low high. refl }
back_to_first enciphered deciphered inv blocks m s some long small (suc t) =
    let n : ℕ = m + 1 in
    let before : Registers = registers enciphered s t in
    let count : length s / 8 ≡ m + 1 = omega arith in
    let back : AreSame (previous_registers deciphered n (t + 1) (next_registers enciphered n (t + 1) before)) before n =
    previous_next enciphered deciphered inv n (t + 1) before (omega arith) (bytes_at enciphered deciphered inv blocks m s some long small t) in
    let here : AreSame (previous_registers deciphered n (t + 1) (next_registers enciphered (length s / 8) (t + 1) before)) before n =
    subst (λ (k : ℕ). AreSame (previous_registers deciphered n (t + 1) (next_registers enciphered k (t + 1) before)) before n) (sym count) back in
    joined_same (first_registers deciphered n t (previous_registers deciphered n (t + 1) (next_registers enciphered (length s / 8) (t + 1) before)))
    (first_registers deciphered n t before) (registers enciphered s 0) n
    (first_same deciphered n t (previous_registers deciphered n (t + 1) (next_registers enciphered (length s / 8) (t + 1) before)) before (omega arith) here)
    (back_to_first enciphered deciphered inv blocks m s some long small t)

length-row : (r : ℕ → List ℕ) (m : ℕ) → ((i : ℕ) → 2 ≤ i → i ≤ m + 1 → length (r i) ≡ 8) → length (row r m) ≡ 8 * m
unfolding row
length-row r zero each = refl
length-row r (suc m) each =
    length-append (row r m) (r (m + 2)) ∙ omega (arith, length-row r m (λ i low high. each i low (omega arith)), each (m + 2) (omega arith) (omega arith))

-- what stands at a register's place in a row
row_at : (r : ℕ → List ℕ) (m i : ℕ) → ((i : ℕ) → 2 ≤ i → i ≤ m + 1 → length (r i) ≡ 8) → 2 ≤ i → i ≤ m + 1 → take 8 (drop (8 * (i - 2)) (row r m)) ≡ r i
unfolding row
row_at r zero i each low high = absurd (omega arith)
row_at r (suc m) i each low high =
    let long : length (row r m) ≡ 8 * m = length-row r m (λ j l h. each j l (omega arith)) in
    elim (cases_lt i (m + 2)) [
      | inl before ↦
          ap (take 8) (drop-append-le (8 * (i - 2)) (row r m) (r (m + 2)) (omega arith))
          ∙ take-append-le 8 (drop (8 * (i - 2)) (row r m)) (r (m + 2)) (omega (arith, length-drop (8 * (i - 2)) (row r m)))
          ∙ row_at r m i (λ j l h. each j l (omega arith)) low (omega arith)
      | inr past ↦
          let last : m + 2 ≡ i = omega arith in
          ap (take 8) (drop_at (row r m) (r (m + 2)) (8 * (i - 2)) (long ∙ omega arith))
          ∙ take_all 8 (r (m + 2)) (omega (arith, each (m + 2) (omega arith) (omega arith)))
          ∙ ap r last
    ]

row_agrees : (r s : ℕ → List ℕ) (m : ℕ) → ((i : ℕ) → 2 ≤ i → i ≤ m + 1 → r i ≡ s i) → row r m ≡ row s m
unfolding row
row_agrees r s zero same = refl
row_agrees r s (suc m) same =
    ap₂ (λ (u v : List ℕ). u ++ v) (row_agrees r s m (λ i low high. same i low (omega arith))) (same (m + 2) (omega arith) (omega arith))

-- the semiblocks of registers in a row are the registers
semiblocks_of_row : (now : Registers) (m : ℕ) → AreSemiblocks now (m + 1)
    → AreSame (record { a = semiblock (in_row now m) 1; r = semiblock (in_row now m) }) now (m + 1)
semiblocks_of_row now m h = record {
  first = take_at now.a (row now.r m) 8 h.first;
  others = λ i low high.
      let place : 8 * (i - 1) ≡ length now.a + 8 * (i - 2) = omega (arith, h.first) in
      ap (take 8) (ap (λ (k : ℕ). drop k (in_row now m)) place ∙ drop-append-add now.a (row now.r m) (8 * (i - 2)))
      ∙ row_at now.r m i h.others low high;
}

unwrapped-by : (enciphered deciphered : List ℕ → List ℕ) → Inverses enciphered deciphered → ((b : List ℕ) → length (enciphered b) ≡ 16)
    → (m : ℕ) (s : List ℕ) → 0 < m → length s ≡ 8 * m + 8 → IsBytes s → length (in_row (registers enciphered s (6 * m)) m) ≡ 8 * m + 8
    → unwrapped deciphered (in_row (registers enciphered s (6 * m)) m) ≡ s
unfolding unwrapped
unwrapped-by enciphered deciphered inv blocks m s some long small same =
    let last : Registers = registers enciphered s (6 * m) in
    let w : List ℕ = in_row last m in
    let start : Registers = record { a = semiblock w 1; r = semiblock w } in
    let zeroth : Registers = registers enciphered s 0 in
    let first : AreSame (first_registers deciphered (m + 1) (6 * m) start) zeroth (m + 1) =
    joined_same (first_registers deciphered (m + 1) (6 * m) start) (first_registers deciphered (m + 1) (6 * m) last) zeroth (m + 1)
    (first_same deciphered (m + 1) (6 * m) start last (omega arith) (semiblocks_of_row last m (semiblocks_at enciphered blocks m s some long (6 * m))))
    (back_to_first enciphered deciphered inv blocks m s some long small (6 * m)) in
    let count : length w / 8 - 1 ≡ m = omega arith in
    let got : Registers = first_registers deciphered (m + 1) (6 * m) start in
    ap (λ (k : ℕ). in_row (first_registers deciphered (k + 1) (6 * k) start) k) count
    ∙ ap₂ (λ (u v : List ℕ). u ++ v) first.first (row_agrees got.r zeroth.r m first.others)
    ∙ row_of_list enciphered m s long

pub unwrapped-wrapped : (key s : List ℕ) → IsBytes key → IsBytes s → 24 ≤ length s → length s % 8 ≡ 0 → unwrapped (aes_inverse key) (wrapped (aes key) s) ≡ s
unfolding wrapped
unwrapped-wrapped key s hk hs least whole =
    let m : ℕ = length s / 8 - 1 in
    let long : length s ≡ 8 * m + 8 = omega arith in
    unwrapped-by (aes key) (aes_inverse key) (aes_inverses key hk) (aes-long key) m s (omega arith) long hs (wrapped-long (aes key) (aes-long key) s least whole ∙ long)

-- W^-1 of 3 or more semiblocks of bytes: bytes of the same length, of which W makes these
pub record IsUnwrapped (key c s : List ℕ) : Type 0 where
  pub same : length s ≡ length c
  pub bytes : IsBytes s
  pub is : c ≡ wrapped (aes key) s

pub unwrapped_is : (key c : List ℕ) → IsBytes key → IsBytes c → 24 ≤ length c → length c % 8 ≡ 0 → IsUnwrapped key c (unwrapped (aes_inverse key) c)
unwrapped_is key c hk hc least whole =
    let m : ℕ = length c / 8 - 1 in
    let n : ℕ = 6 * m in
    let backward : Inverses (aes_inverse key) (aes key) = record {
      states = λ b hb. aes_inverse-state key b hk hb;
      undone = λ b hb. aes-aes_inverse key b hk hb;
    } in
    let h : HasRegisters c m = record { bytes = hc; some = omega arith; within = omega arith } in
    let s : List ℕ = unsteps (aes_inverse key) m n c in
    let redone = steps-unsteps (aes key) (aes_inverse key) backward m n c h in
    let same : length s ≡ length c = redone.1.1 in
    let wraps : c ≡ wrapped (aes key) s =
    sym redone.0
    ∙ ap (λ (k : ℕ). steps (aes key) (k / 8 - 1) (6 * (k / 8 - 1)) s) (sym same)
    ∙ sym (wrapped-steps (aes key) (aes-long key) s (omega arith) (omega arith)) in
    let shown : s ≡ unwrapped (aes_inverse key) c =
    sym (unwrapped-wrapped key s hk redone.1.0 (omega arith) (omega arith)) ∙ ap (unwrapped (aes_inverse key)) (sym wraps) in
    subst (IsUnwrapped key c) shown (record { same = same; bytes = redone.1.0; is = wraps })
