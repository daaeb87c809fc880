-- The steps that are still to come after some.
use Rattle.std.proofs.Common.{◌≡◌, ℕ, zero, suc, ◌+◌, ◌-◌, ◌%◌, ◌<◌, List, refl, sym, ap, ◌∙◌, arith, add-one}
use Rattle.key_wrap.specs.InPlace.{stepped, steps}

-- x after the steps k + 1 to k + n
pub later : (List ℕ → List ℕ) → ℕ → ℕ → ℕ → List ℕ → List ℕ
later enciphered m k zero x = x
later enciphered m k (suc n) x = later enciphered m (k + 1) n (stepped enciphered (k + 1) (k % m) x)

pub later-steps : (enciphered : List ℕ → List ℕ) (m k n : ℕ) (x : List ℕ) → later enciphered m k n (steps enciphered m k x) ≡ steps enciphered m (k + n) x
unfolding later steps
later-steps enciphered m k zero x = ap (λ (t : ℕ). steps enciphered m t x) (let e : k ≡ k + 0 = omega arith in e)
later-steps enciphered m k (suc n) x =
    ap (λ (t : ℕ). later enciphered m (k + 1) n (steps enciphered m t x)) (let e : suc k ≡ k + 1 = omega arith in e)
    ∙ later-steps enciphered m (k + 1) n x
    ∙ ap (λ (t : ℕ). steps enciphered m t x) (let e : k + 1 + n ≡ k + suc n = omega arith in e)

pub later-none : (enciphered : List ℕ → List ℕ) (m k : ℕ) (x : List ℕ) → later enciphered m k 0 x ≡ x
unfolding later
later-none enciphered m k x = refl

-- one step more to come
pub later-more : (enciphered : List ℕ → List ℕ) (m t n : ℕ) (x y start : List ℕ) → 0 < t → x ≡ stepped enciphered t ((t - 1) % m) y
    → later enciphered m t n x ≡ start → later enciphered m (t - 1) (n + 1) y ≡ start
unfolding later
later-more enciphered m t n x y start some is rest =
    let back : t - 1 + 1 ≡ t = omega arith in
    ap (λ (k : ℕ). later enciphered m (t - 1) k y) (add-one n)
    ∙ ap (λ (k : ℕ). later enciphered m k n (stepped enciphered k ((t - 1) % m) y)) back
    ∙ ap (later enciphered m t n) (sym is)
    ∙ rest

pub later-all : (enciphered : List ℕ → List ℕ) (m n : ℕ) (x : List ℕ) → later enciphered m 0 n x ≡ steps enciphered m n x
unfolding steps
later-all enciphered m n x =
    later-steps enciphered m 0 n x ∙ ap (λ (t : ℕ). steps enciphered m t x) (let e : 0 + n ≡ n = omega arith in e)

pub steps-none : (enciphered : List ℕ → List ℕ) (m : ℕ) (x : List ℕ) → steps enciphered m 0 x ≡ x
unfolding steps
steps-none enciphered m x = refl

pub steps-more : (enciphered : List ℕ → List ℕ) (m t : ℕ) (x start : List ℕ) → x ≡ steps enciphered m t start
    → stepped enciphered (t + 1) (t % m) x ≡ steps enciphered m (t + 1) start
unfolding steps
steps-more enciphered m t x start is =
    ap (stepped enciphered (t + 1) (t % m)) is ∙ ap (λ (k : ℕ). steps enciphered m k start) (sym (add-one t))
