-- The steps in place are W.
use Rattle.std.proofs.Common.{◌≡◌, ℕ, zero, suc, ◌+◌, ◌-◌, ◌*◌, ◌/◌, ◌%◌, ◌<◌, ◌≤◌, List, ◌++◌, length, take, drop, refl, sym, ap, ◌∙◌, arith}
use Rattle.std.proofs.Math.Nat.{mul-mod_left}
use Rattle.key_wrap.specs.Wrapping.{Registers, next_registers, registers, wrapped}
use Rattle.key_wrap.specs.InPlace.{stepped, steps}
use Rattle.key_wrap.proofs.RegisterWrites.{length-laid}
use Rattle.key_wrap.proofs.Undone.{turn_below, fits_sum}
use Rattle.key_wrap.proofs.RegisterOrder.{forward, turned, turned_step, turned_none, turned_next}
use Rattle.key_wrap.proofs.Rows.{in_row, row_step, AreSemiblocks, semiblocks_at, row_of_list}

stepped-long : (enciphered : List ℕ → List ℕ) → ((b : List ℕ) → length (enciphered b) ≡ 16) → (t i : ℕ) (x : List ℕ) → 8 * i + 16 ≤ length x
    → length (stepped enciphered t i x) ≡ length x
unfolding stepped
stepped-long enciphered blocks t i x within =
    let b : List ℕ = enciphered (take 8 x ++ take 8 (drop (8 * i + 8) x)) in
    length-laid _ i (drop 8 b) x (fits_sum b x t i (blocks (take 8 x ++ take 8 (drop (8 * i + 8) x))) within)

pub steps-long : (enciphered : List ℕ → List ℕ) → ((b : List ℕ) → length (enciphered b) ≡ 16) → (m : ℕ) (x : List ℕ) → 0 < m → 8 * m + 8 ≤ length x
    → (t : ℕ) → length (steps enciphered m t x) ≡ length x
unfolding steps
steps-long enciphered blocks m x some within zero = refl
steps-long enciphered blocks m x some within (suc t) =
    let y : List ℕ = steps enciphered m t x in
    let long : length y ≡ length x = steps-long enciphered blocks m x some within t in
    stepped-long enciphered blocks (t + 1) (t % m) y (omega (arith, turn_below t m some, long)) ∙ long

-- after t steps the registers of the standard stand in place, turned
turned_steps : (enciphered : List ℕ → List ℕ) → ((b : List ℕ) → length (enciphered b) ≡ 16) → (k : ℕ) (s : List ℕ) → length s ≡ 8 * suc k + 8
    → (t : ℕ) → in_row (registers enciphered s t) (suc k) ≡ turned (t % suc k) (steps enciphered (suc k) t s)
unfolding registers steps
turned_steps enciphered blocks k s long zero = row_of_list enciphered (suc k) s long ∙ sym (turned_none s) ∙ ap (λ (i : ℕ). turned i s) (let e : 0 ≡ 0 % suc k = omega arith in e)
turned_steps enciphered blocks k s long (suc t) =
    let m : ℕ = suc k in
    let now : Registers = registers enciphered s t in
    let y : List ℕ = steps enciphered m t s in
    let size : length y ≡ length s = steps-long enciphered blocks m s (omega arith) (omega arith) t in
    let below : t % m < m = turn_below t m (omega arith) in
    let within : 8 * (t % m) + 16 ≤ length y = omega (arith, below, size, long) in
    let are : AreSemiblocks now (m + 1) = semiblocks_at enciphered blocks m s (omega arith) long t in
    let count : length s / 8 ≡ m + 1 = omega arith in
    ap (λ (n : ℕ). in_row (next_registers enciphered n (t + 1) now) m) count
    ∙ row_step enciphered (t + 1) k now are.first (are.others 2 (omega arith) (omega arith))
    ∙ ap (forward enciphered (t + 1)) (turned_steps enciphered blocks k s long t)
    ∙ sym (turned_step enciphered blocks (t + 1) (t % m) y within)
    ∙ sym (turned_next m t (stepped enciphered (t + 1) (t % m) y) (omega arith) (stepped-long enciphered blocks (t + 1) (t % m) y within ∙ size ∙ long))

wrapped_by : (enciphered : List ℕ → List ℕ) → ((b : List ℕ) → length (enciphered b) ≡ 16) → (m : ℕ) (s : List ℕ) → 0 < m → length s ≡ 8 * m + 8
    → in_row (registers enciphered s (6 * m)) m ≡ steps enciphered m (6 * m) s
wrapped_by enciphered blocks zero s some long = absurd (omega arith)
wrapped_by enciphered blocks (suc k) s some long =
    let m : ℕ = suc k in
    turned_steps enciphered blocks k s long (6 * m)
    ∙ ap (λ (i : ℕ). turned i (steps enciphered m (6 * m) s)) (mul-mod_left 6 m)
    ∙ turned_none (steps enciphered m (6 * m) s)

pub wrapped-steps : (enciphered : List ℕ → List ℕ) → ((b : List ℕ) → length (enciphered b) ≡ 16) → (s : List ℕ) → 24 ≤ length s → length s % 8 ≡ 0
    → (let m : ℕ = length s / 8 - 1 in wrapped enciphered s ≡ steps enciphered m (6 * m) s)
unfolding wrapped
wrapped-steps enciphered blocks s least whole = wrapped_by enciphered blocks (length s / 8 - 1) s (omega arith) (omega arith)
