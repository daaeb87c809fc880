-- The registers in place are those of the standard, turned.
use Rattle.std.proofs.Common.{◌≡◌, ℕ, suc, ◌+◌, ◌*◌, ◌%◌, ◌<◌, ◌≤◌, List, ◌++◌, length, take, drop, sym, ap, ap₂, ◌∙◌, arith, inl, inr, add-one}
use Rattle.std.specs.Int.{w64, to_be_bytes}
use Rattle.std.proofs.Math.Nat.{suc-mod, mod-eq_of_lt, mod_self}
use Rattle.std.proofs.lemmas.Bool.{cases_lt}
use Rattle.std.proofs.lemmas.List.{length-append, length-take-le, length-drop, take_at, drop_at, take_all, drop_all, drop-drop, take-append-drop, append_assoc, append-nil}
use Rattle.bits_core.specs.ByteList.{xor_bytes}
use Rattle.key_wrap.specs.InPlace.{laid, stepped}
use Rattle.key_wrap.proofs.RegisterWrites.{Fits, take-laid, between-laid, rest-laid}
use Rattle.key_wrap.proofs.Undone.{fits_sum, turn_below}

-- A and R(2) to R(n) in a row, after step t
abbrev pub forward : (List ℕ → List ℕ) → ℕ → List ℕ → List ℕ
forward enciphered t x =
    let block = enciphered (take 16 x) in
    xor_bytes (take 8 block) (to_be_bytes w64 t) ++ (drop 16 x ++ drop 8 block)

-- the registers from i on, and then those before
abbrev pub turned : ℕ → List ℕ → List ℕ
turned i x = take 8 x ++ (drop (8 * i + 8) x ++ take (8 * i) (drop 8 x))

pub forward_parts : (enciphered : List ℕ → List ℕ) (t : ℕ) (a r rest : List ℕ) → length a ≡ 8 → length r ≡ 8
    → forward enciphered t (a ++ (r ++ rest)) ≡ xor_bytes (take 8 (enciphered (a ++ r))) (to_be_bytes w64 t) ++ (rest ++ drop 8 (enciphered (a ++ r)))
forward_parts enciphered t a r rest la lr =
    let long : length (a ++ r) ≡ 16 = length-append a r ∙ omega arith in
    let fore : take 16 (a ++ (r ++ rest)) ≡ a ++ r = ap (take 16) (sym (append_assoc a r rest)) ∙ take_at (a ++ r) rest 16 long in
    let aft : drop 16 (a ++ (r ++ rest)) ≡ rest = ap (drop 16) (sym (append_assoc a r rest)) ∙ drop_at (a ++ r) rest 16 long in
    ap₂ (λ (u v : List ℕ). xor_bytes (take 8 (enciphered u)) (to_be_bytes w64 t) ++ (v ++ drop 8 (enciphered u))) fore aft

pub turned_step : (enciphered : List ℕ → List ℕ) → ((b : List ℕ) → length (enciphered b) ≡ 16) → (t i : ℕ) (x : List ℕ) → 8 * i + 16 ≤ length x
    → turned (i + 1) (stepped enciphered t i x) ≡ forward enciphered t (turned i x)
unfolding stepped
turned_step enciphered blocks t i x within =
    let a : List ℕ = take 8 x in
    let p : List ℕ = take (8 * i) (drop 8 x) in
    let r : List ℕ = take 8 (drop (8 * i + 8) x) in
    let q : List ℕ = drop (8 * i + 16) x in
    let b : List ℕ = enciphered (a ++ r) in
    let f : List ℕ = xor_bytes (take 8 b) (to_be_bytes w64 t) in
    let g : List ℕ = drop 8 b in
    let y : List ℕ = laid f i g x in
    let fits : Fits f g x i = fits_sum b x t i (blocks (a ++ r)) within in
    let la : length a ≡ 8 = length-take-le 8 x (omega arith) in
    let lr : length r ≡ 8 = length-take-le 8 (drop (8 * i + 8) x) (omega (arith, length-drop (8 * i + 8) x)) in
    let lp : length p ≡ 8 * i = length-take-le (8 * i) (drop 8 x) (omega (arith, length-drop 8 x)) in
    let past : drop (8 * (i + 1) + 8) y ≡ q =
    ap (λ (n : ℕ). drop n y) (let e : 8 * (i + 1) + 8 ≡ 8 * i + 16 = omega arith in e) ∙ rest-laid f i g x fits in
    let lpg : length (p ++ g) ≡ 8 * (i + 1) = length-append p g ∙ omega (arith, lp, fits.aft) in
    let before : take (8 * (i + 1)) (drop 8 y) ≡ p ++ g =
    ap (take (8 * (i + 1))) (between-laid f i g x fits ∙ sym (append_assoc p g q)) ∙ take_at (p ++ g) q (8 * (i + 1)) lpg in
    let split : drop (8 * i + 8) x ≡ r ++ q =
    sym (take-append-drop 8 (drop (8 * i + 8) x))
    ∙ ap (λ (v : List ℕ). r ++ v) (drop-drop 8 (8 * i + 8) x ∙ ap (λ (n : ℕ). drop n x) (let e : (8 * i + 8) + 8 ≡ 8 * i + 16 = omega arith in e)) in
    let left : turned (i + 1) y ≡ f ++ (q ++ (p ++ g)) =
    ap₂ (λ (u v : List ℕ). u ++ v) (take-laid f i g x fits) (ap₂ (λ (u v : List ℕ). u ++ v) past before) in
    let right : turned i x ≡ a ++ (r ++ (q ++ p)) =
    ap (λ (v : List ℕ). a ++ v) (ap (λ (v : List ℕ). v ++ p) split ∙ append_assoc r q p) in
    left
    ∙ ap (λ (v : List ℕ). f ++ v) (sym (append_assoc q p g))
    ∙ sym (forward_parts enciphered t a r (q ++ p) la lr)
    ∙ ap (forward enciphered t) (sym right)

pub turned_none : (x : List ℕ) → turned 0 x ≡ x
turned_none x = ap (λ (v : List ℕ). take 8 x ++ v) (append-nil (drop 8 x)) ∙ take-append-drop 8 x

pub turned_whole : (m : ℕ) (x : List ℕ) → length x ≡ 8 * m + 8 → turned m x ≡ x
turned_whole m x long =
    ap₂ (λ (u v : List ℕ). take 8 x ++ (u ++ v)) (drop_all (8 * m + 8) x (omega arith)) (take_all (8 * m) (drop 8 x) (omega (arith, length-drop 8 x)))
    ∙ take-append-drop 8 x

-- the next turn
pub turned_next : (m t : ℕ) (x : List ℕ) → 0 < m → length x ≡ 8 * m + 8 → turned (suc t % m) x ≡ turned (t % m + 1) x
turned_next m t x some long =
    let below : t % m < m = turn_below t m some in
    elim (cases_lt (suc (t % m)) m) [
      | inl within ↦ ap (λ (i : ℕ). turned i x) (suc-mod t m ∙ mod-eq_of_lt within ∙ sym (add-one (t % m)))
      | inr past ↦
          let last : suc (t % m) ≡ m = omega arith in
          ap (λ (i : ℕ). turned i x) (suc-mod t m ∙ ap (λ (i : ℕ). i % m) last ∙ mod_self m)
          ∙ turned_none x ∙ sym (turned_whole m x long)
          ∙ ap (λ (i : ℕ). turned i x) (sym last ∙ sym (add-one (t % m)))
    ]
