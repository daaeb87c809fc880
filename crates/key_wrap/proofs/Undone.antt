-- The inverse of each step of W undoes it, and so do all of them.
use Rattle.std.proofs.Common.{◌≡◌, ℕ, zero, suc, ◌+◌, ◌*◌, ◌%◌, ◌<◌, ◌≤◌, List, ◌++◌, length, take, drop, refl, sym, ap, ap₂, ◌∙◌, arith}
use Rattle.std.specs.Int.{w64, to_be_bytes}
use Rattle.std.proofs.lemmas.List.{length-append, length-take-le, length-drop, take_at, drop_at, take-append-drop}
use Rattle.bits_core.specs.ByteList.{IsBytes, xor_bytes}
use Rattle.bits_core.proofs.XorBytes.{length-xor_bytes}
use Rattle.aes_core.specs.Aes.{IsState}
use Rattle.key_wrap.specs.InPlace.{laid, block_at, stepped, steps}
use Rattle.bits_core.proofs.Bytes.{IsBytes-take, IsBytes-drop}
use Rattle.key_wrap.proofs.BlockBytes.{bytes-xor, bytes-number, xor_twice, two_semiblocks}
use Rattle.key_wrap.proofs.RegisterWrites.{Fits, length-laid, take-laid, take_register-laid, laid-laid, laid-self, bytes-laid}

-- a map of blocks of bytes, and one that undoes it
pub record Inverses (enciphered deciphered : List ℕ → List ℕ) : Type 0 where
  pub states : (b : List ℕ) → IsState b → IsState (enciphered b)
  pub undone : (b : List ℕ) → IsState b → deciphered (enciphered b) ≡ b

-- x before step t
unstepped : (List ℕ → List ℕ) → ℕ → ℕ → List ℕ → List ℕ
unstepped deciphered t i x =
    let block = deciphered (xor_bytes (take 8 x) (to_be_bytes w64 t) ++ take 8 (drop (8 * i + 8) x)) in
    laid (take 8 block) i (drop 8 block) x

-- x before steps 1 to t over m registers
pub unsteps : (List ℕ → List ℕ) → ℕ → ℕ → List ℕ → List ℕ
unsteps deciphered m zero x = x
unsteps deciphered m (suc t) x = unsteps deciphered m t (unstepped deciphered (t + 1) (t % m) x)

-- a list of bytes with room for register i
pub record HasRegister (x : List ℕ) (i : ℕ) : Type 0 where
  pub bytes : IsBytes x
  pub within : 8 * i + 16 ≤ length x

front-long : (x : List ℕ) (i : ℕ) → HasRegister x i → length (take 8 x) ≡ 8
front-long x i h = length-take-le 8 x (omega (arith, h.within))

register-long : (x : List ℕ) (i : ℕ) → HasRegister x i → length (take 8 (drop (8 * i + 8) x)) ≡ 8
register-long x i h = length-take-le 8 (drop (8 * i + 8) x) (omega (arith, h.within, length-drop (8 * i + 8) x))

block-state : (x : List ℕ) (i : ℕ) → HasRegister x i → IsState (block_at i x)
block-state x i h =
    two_semiblocks (take 8 x) (take 8 (drop (8 * i + 8) x)) (front-long x i h) (register-long x i h)
    (IsBytes-take 8 x h.bytes) (IsBytes-take 8 (drop (8 * i + 8) x) (IsBytes-drop (8 * i + 8) x h.bytes))

pub block-long : (i : ℕ) (x : List ℕ) → 8 * i + 16 ≤ length x → length (block_at i x) ≡ 16
block-long i x within =
    length-append (take 8 x) (take 8 (drop (8 * i + 8) x))
    ∙ omega (arith, length-take-le 8 x (omega arith), length-take-le 8 (drop (8 * i + 8) x) (omega (arith, length-drop (8 * i + 8) x)))

-- what is made of the halves of a block is made of the front and the register
pub block-halves : (f : List ℕ → List ℕ → List ℕ) (i : ℕ) (x block : List ℕ) → 8 * i + 16 ≤ length x → block ≡ block_at i x
    → f (take 8 block) (drop 8 block) ≡ f (take 8 x) (take 8 (drop (8 * i + 8) x))
block-halves f i x block within is =
    let long : length (take 8 x) ≡ 8 = length-take-le 8 x (omega arith) in
    let r : List ℕ = take 8 (drop (8 * i + 8) x) in
    ap (λ (b : List ℕ). f (take 8 b) (drop 8 b)) is ∙ ap₂ f (take_at (take 8 x) r 8 long) (drop_at (take 8 x) r 8 long)

pub take-half : (b : List ℕ) → length b ≡ 16 → length (take 8 b) ≡ 8
take-half b e = length-take-le 8 b (omega arith)

pub drop-half : (b : List ℕ) → length b ≡ 16 → length (drop 8 b) ≡ 8
drop-half b e = length-drop 8 b ∙ omega arith

pub sum-half : (b : List ℕ) (t : ℕ) → length b ≡ 16 → length (xor_bytes (take 8 b) (to_be_bytes w64 t)) ≡ 8
sum-half b t e = length-xor_bytes (take 8 b) (to_be_bytes w64 t) (sym (take-half b e)) ∙ take-half b e

-- the halves of a block fit, also after a number was added to the first
pub fits_block : (b x : List ℕ) (i : ℕ) → length b ≡ 16 → 8 * i + 16 ≤ length x → Fits (take 8 b) (drop 8 b) x i
fits_block b x i e within = record { fore = take-half b e; aft = drop-half b e; within = within }

pub fits_sum : (b x : List ℕ) (t i : ℕ) → length b ≡ 16 → 8 * i + 16 ≤ length x → Fits (xor_bytes (take 8 b) (to_be_bytes w64 t)) (drop 8 b) x i
fits_sum b x t i e within = record { fore = sum-half b t e; aft = drop-half b e; within = within }

-- the two semiblocks of a block at the front and the register of x give x
relaid : (block x y : List ℕ) (i : ℕ) → HasRegister x i → block ≡ block_at i x
    → laid (take 8 x) i (take 8 (drop (8 * i + 8) x)) y ≡ laid (take 8 x) i (take 8 (drop (8 * i + 8) x)) x
    → laid (take 8 block) i (drop 8 block) y ≡ x
relaid block x y i h is over =
    let f : List ℕ = take 8 x in
    let r : List ℕ = take 8 (drop (8 * i + 8) x) in
    ap₂ (λ (u v : List ℕ). laid u i v y) (ap (take 8) is ∙ take_at f r 8 (front-long x i h)) (ap (drop 8) is ∙ drop_at f r 8 (front-long x i h))
    ∙ over ∙ laid-self i x h.within

unstepped-stepped : (enciphered deciphered : List ℕ → List ℕ) → Inverses enciphered deciphered → (t i : ℕ) (x : List ℕ) → HasRegister x i
    → unstepped deciphered t i (stepped enciphered t i x) ≡ x
unfolding stepped unstepped
unstepped-stepped enciphered deciphered inv t i x h =
    let b : List ℕ = enciphered (block_at i x) in
    let long : length b ≡ 16 = (inv.states (block_at i x) (block-state x i h)).long in
    let n : List ℕ = to_be_bytes w64 t in
    let f : List ℕ = xor_bytes (take 8 b) n in
    let r : List ℕ = drop 8 b in
    let y : List ℕ = laid f i r x in
    let fits : Fits f r x i = fits_sum b x t i long h.within in
    let fore : xor_bytes (take 8 y) n ≡ take 8 b = ap (λ (u : List ℕ). xor_bytes u n) (take-laid f i r x fits) ∙ xor_twice (take 8 b) n (sym (take-half b long)) in
    let opened : deciphered (xor_bytes (take 8 y) n ++ take 8 (drop (8 * i + 8) y)) ≡ block_at i x =
    ap deciphered (ap₂ (λ (u v : List ℕ). u ++ v) fore (take_register-laid f i r x fits) ∙ take-append-drop 8 b)
    ∙ inv.undone (block_at i x) (block-state x i h) in
    relaid (deciphered (xor_bytes (take 8 y) n ++ take 8 (drop (8 * i + 8) y))) x y i h opened
    (laid-laid (take 8 x) i (take 8 (drop (8 * i + 8) x)) f r x fits)

-- the step after what its inverse left
pub stepped_again : (enciphered : List ℕ → List ℕ) (t i : ℕ) (x b : List ℕ) → 8 * i + 16 ≤ length x → length b ≡ 16
    → enciphered b ≡ xor_bytes (take 8 x) (to_be_bytes w64 t) ++ take 8 (drop (8 * i + 8) x)
    → stepped enciphered t i (laid (take 8 b) i (drop 8 b) x) ≡ x
unfolding stepped
stepped_again enciphered t i x b within long is =
    let n : List ℕ = to_be_bytes w64 t in
    let r : List ℕ = take 8 (drop (8 * i + 8) x) in
    let fore_long : length (take 8 x) ≡ 8 = length-take-le 8 x (omega arith) in
    let sum : List ℕ = xor_bytes (take 8 x) n in
    let sum_long : length sum ≡ 8 = length-xor_bytes (take 8 x) n (sym fore_long) ∙ fore_long in
    let y : List ℕ = laid (take 8 b) i (drop 8 b) x in
    let fits : Fits (take 8 b) (drop 8 b) x i = fits_block b x i long within in
    let closed : enciphered (block_at i y) ≡ sum ++ r =
    ap enciphered (ap₂ (λ (u v : List ℕ). u ++ v) (take-laid (take 8 b) i (drop 8 b) x fits) (take_register-laid (take 8 b) i (drop 8 b) x fits) ∙ take-append-drop 8 b)
    ∙ is in
    let fore : xor_bytes (take 8 (enciphered (block_at i y))) n ≡ take 8 x =
    ap (λ (u : List ℕ). xor_bytes (take 8 u) n) closed ∙ ap (λ (u : List ℕ). xor_bytes u n) (take_at sum r 8 sum_long) ∙ xor_twice (take 8 x) n (sym fore_long) in
    let aft : drop 8 (enciphered (block_at i y)) ≡ r = ap (drop 8) closed ∙ drop_at sum r 8 sum_long in
    ap₂ (λ (u v : List ℕ). laid u i v y) fore aft
    ∙ laid-laid (take 8 x) i r (take 8 b) (drop 8 b) x fits
    ∙ laid-self i x within

stepped-keeps : (enciphered deciphered : List ℕ → List ℕ) → Inverses enciphered deciphered → (t i : ℕ) (x : List ℕ) → HasRegister x i
    → IsBytes (stepped enciphered t i x) × (length (stepped enciphered t i x) ≡ length x)
unfolding stepped
stepped-keeps enciphered deciphered inv t i x h =
    let b : List ℕ = enciphered (block_at i x) in
    let state : IsState b = inv.states (block_at i x) (block-state x i h) in
    let n : List ℕ = to_be_bytes w64 t in
    let f : List ℕ = xor_bytes (take 8 b) n in (
      bytes-laid f i (drop 8 b) x (bytes-xor (take 8 b) n (sym (take-half b state.long)) (IsBytes-take 8 b state.small) (bytes-number t)) (IsBytes-drop 8 b state.small) h.bytes,
      length-laid f i (drop 8 b) x (fits_sum b x t i state.long h.within),
    )

-- a list of bytes with room for m registers, at least one
pub record HasRegisters (x : List ℕ) (m : ℕ) : Type 0 where
  pub bytes : IsBytes x
  pub some : 0 < m
  pub within : 8 * m + 8 ≤ length x

pub turn_below : (t m : ℕ) → 0 < m → t % m < m
turn_below t m some = omega arith

register_of : (x : List ℕ) (m : ℕ) → HasRegisters x m → (t : ℕ) → HasRegister x (t % m)
register_of x m h t = record { bytes = h.bytes; within = omega (arith, h.within, turn_below t m h.some) }

kept : (x y : List ℕ) (m : ℕ) → HasRegisters x m → IsBytes y × (length y ≡ length x) → HasRegisters y m
kept x y m h k = record { bytes = k.0; some = h.some; within = omega (arith, h.within, k.1) }

pub steps-keep : (enciphered deciphered : List ℕ → List ℕ) → Inverses enciphered deciphered → (m t : ℕ) (x : List ℕ) → HasRegisters x m → HasRegisters (steps enciphered m t x) m
unfolding steps
steps-keep enciphered deciphered inv m zero x h = h
steps-keep enciphered deciphered inv m (suc t) x h =
    let y : List ℕ = steps enciphered m t x in
    let hy : HasRegisters y m = steps-keep enciphered deciphered inv m t x h in
    kept y (stepped enciphered (t + 1) (t % m) y) m hy (stepped-keeps enciphered deciphered inv (t + 1) (t % m) y (register_of y m hy t))

pub unsteps-steps : (enciphered deciphered : List ℕ → List ℕ) → Inverses enciphered deciphered → (m t : ℕ) (x : List ℕ) → HasRegisters x m
    → unsteps deciphered m t (steps enciphered m t x) ≡ x
unfolding steps unsteps
unsteps-steps enciphered deciphered inv m zero x h = refl
unsteps-steps enciphered deciphered inv m (suc t) x h =
    let y : List ℕ = steps enciphered m t x in
    let hy : HasRegisters y m = steps-keep enciphered deciphered inv m t x h in
    ap (unsteps deciphered m t) (unstepped-stepped enciphered deciphered inv (t + 1) (t % m) y (register_of y m hy t))
    ∙ unsteps-steps enciphered deciphered inv m t x h

-- the other way round: each step after its inverse gives the list again
unstepped-keeps : (enciphered deciphered : List ℕ → List ℕ) → Inverses deciphered enciphered → (t i : ℕ) (x : List ℕ) → HasRegister x i
    → (stepped enciphered t i (unstepped deciphered t i x) ≡ x) × (IsBytes (unstepped deciphered t i x) × (length (unstepped deciphered t i x) ≡ length x))
unfolding unstepped
unstepped-keeps enciphered deciphered inv t i x h =
    let n : List ℕ = to_be_bytes w64 t in
    let fore : List ℕ = take 8 x in
    let r : List ℕ = take 8 (drop (8 * i + 8) x) in
    let fore_long : length fore ≡ 8 = front-long x i h in
    let given : List ℕ = xor_bytes fore n ++ r in
    let state : IsState given =
    two_semiblocks (xor_bytes fore n) r (length-xor_bytes fore n (sym fore_long) ∙ fore_long) (register-long x i h)
    (bytes-xor fore n (sym fore_long) (IsBytes-take 8 x h.bytes) (bytes-number t)) (IsBytes-take 8 (drop (8 * i + 8) x) (IsBytes-drop (8 * i + 8) x h.bytes)) in
    let b : List ℕ = deciphered given in
    let opened : IsState b = inv.states given state in (
      stepped_again enciphered t i x b h.within opened.long (inv.undone given state),
      (
        bytes-laid (take 8 b) i (drop 8 b) x (IsBytes-take 8 b opened.small) (IsBytes-drop 8 b opened.small) h.bytes,
        length-laid (take 8 b) i (drop 8 b) x (fits_block b x i opened.long h.within),
      ),
    )

pub steps-unsteps : (enciphered deciphered : List ℕ → List ℕ) → Inverses deciphered enciphered → (m t : ℕ) (x : List ℕ) → HasRegisters x m
    → (steps enciphered m t (unsteps deciphered m t x) ≡ x) × (IsBytes (unsteps deciphered m t x) × (length (unsteps deciphered m t x) ≡ length x))
unfolding steps unsteps
steps-unsteps enciphered deciphered inv m zero x h = (refl, (h.bytes, refl))
steps-unsteps enciphered deciphered inv m (suc t) x h =
    let y : List ℕ = unstepped deciphered (t + 1) (t % m) x in
    let one = unstepped-keeps enciphered deciphered inv (t + 1) (t % m) x (register_of x m h t) in
    let rest = steps-unsteps enciphered deciphered inv m t y (kept x y m h one.1) in
    (ap (stepped enciphered (t + 1) (t % m)) rest.0 ∙ one.0, (rest.1.0, rest.1.1 ∙ one.1.1))
