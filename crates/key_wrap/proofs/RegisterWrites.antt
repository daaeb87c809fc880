-- A list with other semiblocks at its front and at one register.
use Rattle.std.proofs.Common.{◌≡◌, ℕ, ◌+◌, ◌*◌, ◌≤◌, List, ◌++◌, length, take, drop, sym, ap, ap₂, ◌∙◌, arith}
use Rattle.std.proofs.lemmas.List.{length-append, length-take-le, length-drop, take_at, drop_at, take-append-le, drop-drop, drop-take, take-append-drop, take-take, append_assoc}
use Rattle.bits_core.specs.ByteList.{IsBytes}
use Rattle.key_wrap.specs.InPlace.{laid}
use Rattle.bits_core.proofs.Bytes.{IsBytes-append, IsBytes-take, IsBytes-drop}

-- what is laid has the length of a semiblock, and register i is there
pub record Fits (front register x : List ℕ) (i : ℕ) : Type 0 where
  pub fore : length front ≡ 8
  pub aft : length register ≡ 8
  pub within : 8 * i + 16 ≤ length x

between-length : (i : ℕ) (x : List ℕ) → 8 * i + 16 ≤ length x → length (take (8 * i) (drop 8 x)) ≡ 8 * i
between-length i x within = length-take-le (8 * i) (drop 8 x) (omega (arith, length-drop 8 x))

front-length : (front : List ℕ) (i : ℕ) (x : List ℕ) → length front ≡ 8 → 8 * i + 16 ≤ length x → length (front ++ take (8 * i) (drop 8 x)) ≡ 8 * i + 8
front-length front i x e within = length-append front (take (8 * i) (drop 8 x)) ∙ omega (arith, between-length i x within)

pub length-laid : (front : List ℕ) (i : ℕ) (register x : List ℕ) → Fits front register x i → length (laid front i register x) ≡ length x
length-laid front i register x fits =
    length-append (front ++ take (8 * i) (drop 8 x)) (register ++ drop (8 * i + 16) x)
    ∙ omega (arith, fits.fore, fits.aft, fits.within, front-length front i x fits.fore fits.within, length-append register (drop (8 * i + 16) x), length-drop (8 * i + 16) x)

pub take-laid : (front : List ℕ) (i : ℕ) (register x : List ℕ) → Fits front register x i → take 8 (laid front i register x) ≡ front
take-laid front i register x fits =
    let p : List ℕ = take (8 * i) (drop 8 x) in
    let rest : List ℕ = register ++ drop (8 * i + 16) x in
    take-append-le 8 (front ++ p) rest (omega (arith, front-length front i x fits.fore fits.within)) ∙ take_at front p 8 fits.fore

-- what stands between the front and the register
pub between-laid : (front : List ℕ) (i : ℕ) (register x : List ℕ) → Fits front register x i
    → drop 8 (laid front i register x) ≡ take (8 * i) (drop 8 x) ++ (register ++ drop (8 * i + 16) x)
between-laid front i register x fits =
    let p : List ℕ = take (8 * i) (drop 8 x) in
    let rest : List ℕ = register ++ drop (8 * i + 16) x in
    ap (drop 8) (append_assoc front p rest) ∙ drop_at front (p ++ rest) 8 fits.fore

pub register-laid : (front : List ℕ) (i : ℕ) (register x : List ℕ) → Fits front register x i
    → drop (8 * i + 8) (laid front i register x) ≡ register ++ drop (8 * i + 16) x
register-laid front i register x fits =
    drop_at (front ++ take (8 * i) (drop 8 x)) (register ++ drop (8 * i + 16) x) (8 * i + 8) (front-length front i x fits.fore fits.within)

pub take_register-laid : (front : List ℕ) (i : ℕ) (register x : List ℕ) → Fits front register x i
    → take 8 (drop (8 * i + 8) (laid front i register x)) ≡ register
take_register-laid front i register x fits =
    ap (take 8) (register-laid front i register x fits) ∙ take_at register (drop (8 * i + 16) x) 8 fits.aft

past : (i : ℕ) (x : List ℕ) → drop (8 * i + 16) x ≡ drop 8 (drop (8 * i + 8) x)
past i x =
    ap (λ (n : ℕ). drop n x) (let e : 8 * i + 16 ≡ (8 * i + 8) + 8 = omega arith in e) ∙ sym (drop-drop 8 (8 * i + 8) x)

pub rest-laid : (front : List ℕ) (i : ℕ) (register x : List ℕ) → Fits front register x i
    → drop (8 * i + 16) (laid front i register x) ≡ drop (8 * i + 16) x
rest-laid front i register x fits =
    past i (laid front i register x) ∙ ap (drop 8) (register-laid front i register x fits) ∙ drop_at register (drop (8 * i + 16) x) 8 fits.aft

-- what was laid is laid over
pub laid-laid : (front : List ℕ) (i : ℕ) (register old_front old_register x : List ℕ) → Fits old_front old_register x i
    → laid front i register (laid old_front i old_register x) ≡ laid front i register x
laid-laid front i register old_front old_register x fits =
    let p : List ℕ = take (8 * i) (drop 8 x) in
    let rest : List ℕ = old_register ++ drop (8 * i + 16) x in
    let same : take (8 * i) (drop 8 (laid old_front i old_register x)) ≡ p =
    ap (take (8 * i)) (between-laid old_front i old_register x fits) ∙ take_at p rest (8 * i) (between-length i x fits.within) in
    ap₂ (λ (u v : List ℕ). (front ++ u) ++ (register ++ v)) same (rest-laid old_front i old_register x fits)

-- its own semiblocks
pub laid-self : (i : ℕ) (x : List ℕ) → 8 * i + 16 ≤ length x → laid (take 8 x) i (take 8 (drop (8 * i + 8) x)) x ≡ x
laid-self i x within =
    let at : ℕ = 8 * i + 8 in
    let whole : ℕ = 8 + 8 * i in
    let e : whole ≡ at = omega arith in
    let fore : take 8 x ++ take (8 * i) (drop 8 x) ≡ take at x =
    ap₂ (λ (u v : List ℕ). u ++ v) (sym (take-take 8 whole x (omega arith))) (sym (drop-take 8 (8 * i) x))
    ∙ take-append-drop 8 (take whole x) ∙ ap (λ (n : ℕ). take n x) e in
    let aft : take 8 (drop at x) ++ drop (8 * i + 16) x ≡ drop at x =
    ap (λ (v : List ℕ). take 8 (drop at x) ++ v) (past i x) ∙ take-append-drop 8 (drop at x) in
    ap₂ (λ (u v : List ℕ). u ++ v) fore aft ∙ take-append-drop at x

pub bytes-laid : (front : List ℕ) (i : ℕ) (register x : List ℕ) → IsBytes front → IsBytes register → IsBytes x → IsBytes (laid front i register x)
bytes-laid front i register x hf hr hx =
    IsBytes-append (front ++ take (8 * i) (drop 8 x)) (register ++ drop (8 * i + 16) x)
    (IsBytes-append front (take (8 * i) (drop 8 x)) hf (IsBytes-take (8 * i) (drop 8 x) (IsBytes-drop 8 x hx)))
    (IsBytes-append register (drop (8 * i + 16) x) hr (IsBytes-drop (8 * i + 16) x hx))
