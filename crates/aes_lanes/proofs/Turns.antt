-- The transposition of 16 by 16 bytes.
use Rattle.std.proofs.Common.{◌≡◌, ℕ, zero, suc, ◌+◌, ◌*◌, ◌/◌, ◌%◌, ◌<◌, List, [], ◌∷◌, ◌++◌, map, length, get_or, refl, sym, ap, ap₂, ◌∙◌, arith}
use Rattle.std.proofs.Math.ListN.{get_or-append}
use Rattle.std.specs.List.{range_with_len}
use Rattle.aes_spec.proofs.EveryByte.{on_bytes}

pub below_8 : (P : ℕ → Type 0) → P 0 → P 1 → P 2 → P 3 → P 4 → P 5 → P 6 → P 7 → (r : ℕ) → r < 8 → P r
below_8 P p0 p1 p2 p3 p4 p5 p6 p7 zero h = p0
below_8 P p0 p1 p2 p3 p4 p5 p6 p7 (suc zero) h = p1
below_8 P p0 p1 p2 p3 p4 p5 p6 p7 (suc (suc zero)) h = p2
below_8 P p0 p1 p2 p3 p4 p5 p6 p7 (suc (suc (suc zero))) h = p3
below_8 P p0 p1 p2 p3 p4 p5 p6 p7 (suc (suc (suc (suc zero)))) h = p4
below_8 P p0 p1 p2 p3 p4 p5 p6 p7 (suc (suc (suc (suc (suc zero))))) h = p5
below_8 P p0 p1 p2 p3 p4 p5 p6 p7 (suc (suc (suc (suc (suc (suc zero)))))) h = p6
below_8 P p0 p1 p2 p3 p4 p5 p6 p7 (suc (suc (suc (suc (suc (suc (suc zero))))))) h = p7
below_8 P p0 p1 p2 p3 p4 p5 p6 p7 (suc (suc (suc (suc (suc (suc (suc (suc r)))))))) h = absurd (omega arith)

pub left_at : (a b : List ℕ) (n : ℕ) → length a ≡ 16 → n < 16 → get_or (a ++ b) n 0 ≡ get_or a n 0
left_at a b n long h = get_or-append a b 0 n (omega (arith, long))

skip : (a b : List ℕ) (k n : ℕ) → k ≡ length a + n → get_or (a ++ b) k 0 ≡ get_or b n 0
skip [] b k n e =
    let q : k ≡ n = omega (arith, e) in
    ap (λ (m : ℕ). get_or b m 0) q
skip (x ∷ xs) b zero n e = absurd (omega (arith, e))
skip (x ∷ xs) b (suc k) n e = skip xs b k n (omega (arith, e))

pub right_at : (a b : List ℕ) (n : ℕ) → length a ≡ 16 → get_or (a ++ b) (16 + n) 0 ≡ get_or b n 0
right_at a b n long = skip a b (16 + n) n (omega (arith, long))

-- the vector and the lane to which lane l of vector v goes
abbrev pub next_vector : ℕ → ℕ → ℕ
next_vector v l = (2 * v + l / 8) % 16

abbrev pub next_lane : ℕ → ℕ → ℕ
next_lane v l = (2 * l + v / 8) % 16

on_pairs : (f g : ℕ → ℕ → ℕ) → map (λ n. f (n / 16) (n % 16)) (range_with_len 0 256) ≡ map (λ n. g (n / 16) (n % 16)) (range_with_len 0 256)
    → (x y : ℕ) → x < 16 → y < 16 → f x y ≡ g x y
on_pairs f g e x y hx hy =
    let n : ℕ = 16 * x + y in
    let p : x ≡ n / 16 = omega arith in
    let q : y ≡ n % 16 = omega arith in
    ap₂ f p q ∙ on_bytes (λ n. f (n / 16) (n % 16)) (λ n. g (n / 16) (n % 16)) e n (omega arith) ∙ sym (ap₂ g p q)

abbrev pub vector_2 : ℕ → ℕ → ℕ
vector_2 v l = next_vector (next_vector v l) (next_lane v l)

abbrev pub lane_2 : ℕ → ℕ → ℕ
lane_2 v l = next_lane (next_vector v l) (next_lane v l)

abbrev pub vector_3 : ℕ → ℕ → ℕ
vector_3 v l = next_vector (vector_2 v l) (lane_2 v l)

abbrev pub lane_3 : ℕ → ℕ → ℕ
lane_3 v l = next_lane (vector_2 v l) (lane_2 v l)

pub vector_4 : (v l : ℕ) → v < 16 → l < 16 → next_vector (vector_3 v l) (lane_3 v l) ≡ l
vector_4 = on_pairs (λ v l. next_vector (vector_3 v l) (lane_3 v l)) (λ v l. l) refl

pub lane_4 : (v l : ℕ) → v < 16 → l < 16 → next_lane (vector_3 v l) (lane_3 v l) ≡ v
lane_4 = on_pairs (λ v l. next_lane (vector_3 v l) (lane_3 v l)) (λ v l. v) refl
