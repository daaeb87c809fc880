-- Sums over the bytes of a block.
use Rattle.ghash_core.specs.Number.{shift_by, shift_by_x}
use Rattle.ghash_core.proofs.Field.{swap_middle, shift_by_x-lt}
use Rattle.ghash_core.proofs.Groups.{shift_by-xor, shift_by-multiple, xor-multiples}
use Rattle.ghash_core.specs.ByBytes.{by_bytes, first_byte, polynomial, reduced}
use Rattle.std.proofs.Common.{◌≡◌, ℕ, zero, suc, ◌+◌, ◌*◌, ◌^◌, ◌<◌, List, [], ◌∷◌, map, length, take, get_or, refl, sym, ap, ◌∙◌, arith, w8, Fits, lit<}
use Rattle.std.specs.Int.Bits.{bit_xor, xor_assoc, xor_comm, xor_zero_r, xor_lt}
use lib.Lanes.{zip2, Each1}
use Rattle.std.proofs.lemmas.List.{length-take}

abbrev pub AreBytes : List ℕ → Type 0
AreBytes = Each1 (Fits w8)

-- ---- shifts
pub shift_by_x-shift_by : (n v : ℕ) → shift_by n (shift_by_x v) ≡ shift_by_x (shift_by n v)
unfolding shift_by
shift_by_x-shift_by zero v = refl
shift_by_x-shift_by (suc n) v = shift_by_x-shift_by n (shift_by_x v)

pub shift_by-add : (m n v : ℕ) → shift_by m (shift_by n v) ≡ shift_by (n + m) v
unfolding shift_by
shift_by-add m zero v = ap (λ (k : ℕ). shift_by k v) (let e : m ≡ 0 + m = omega arith in e)
shift_by-add m (suc n) v = shift_by-add m n (shift_by_x v) ∙ ap (λ (k : ℕ). shift_by k v) (let e : suc (n + m) ≡ suc n + m = omega arith in e)

pub shift_by-lt : (n v : ℕ) → v < 2 ^ 128 → shift_by n v < 2 ^ 128
unfolding shift_by
shift_by-lt zero v h = h
shift_by-lt (suc n) v h = shift_by-lt n (shift_by_x v) (shift_by_x-lt v h)

pub shift_by-zero : (n : ℕ) → shift_by n 0 ≡ 0
unfolding shift_by shift_by_x
shift_by-zero zero = refl
shift_by-zero (suc n) = shift_by-zero n

-- ---- sums over bytes
pub by_bytes-step : (g g' f : ℕ → ℕ) → ((b : ℕ) → b < 256 → g' b ≡ bit_xor (shift_by 8 (g b)) (f b)) → (xs : List ℕ) → AreBytes xs →
    by_bytes g' xs ≡ bit_xor (shift_by 8 (by_bytes g xs)) (by_bytes f xs)
unfolding by_bytes
by_bytes-step g g' f p [] h = sym (xor_zero_r (shift_by 8 0) ∙ shift_by-zero 8)
by_bytes-step g g' f p (b ∷ xs) h =
    let old = by_bytes g xs in
    let new = by_bytes f xs in
    ap (λ (x : ℕ). bit_xor x (shift_by 8 (by_bytes g' xs))) (p b h.0.fits)
    ∙ ap (λ (x : ℕ). bit_xor (bit_xor (shift_by 8 (g b)) (f b)) (shift_by 8 x)) (by_bytes-step g g' f p xs h.1)
    ∙ ap (bit_xor (bit_xor (shift_by 8 (g b)) (f b))) (shift_by-xor 8 (shift_by 8 old) new)
    ∙ swap_middle (shift_by 8 (g b)) (f b) (shift_by 8 (shift_by 8 old)) (shift_by 8 new)
    ∙ ap (λ (x : ℕ). bit_xor x (bit_xor (f b) (shift_by 8 new))) (sym (shift_by-xor 8 (g b) (shift_by 8 old)))

pub by_bytes-same : (g g' : ℕ → ℕ) → ((b : ℕ) → b < 256 → g b ≡ g' b) → (xs : List ℕ) → AreBytes xs → by_bytes g xs ≡ by_bytes g' xs
unfolding by_bytes
by_bytes-same g g' p [] h = refl
by_bytes-same g g' p (b ∷ xs) h =
    ap (λ (x : ℕ). bit_xor x (shift_by 8 (by_bytes g xs))) (p b h.0.fits) ∙ ap (λ (x : ℕ). bit_xor (g' b) (shift_by 8 x)) (by_bytes-same g g' p xs h.1)

pub by_bytes-map : (g f : ℕ → ℕ) (xs : List ℕ) → by_bytes g (map f xs) ≡ by_bytes (λ b. g (f b)) xs
unfolding by_bytes
by_bytes-map g f [] = refl
by_bytes-map g f (b ∷ xs) = ap (λ (x : ℕ). bit_xor (g (f b)) (shift_by 8 x)) (by_bytes-map g f xs)

pub by_bytes-shift : (n : ℕ) (g : ℕ → ℕ) (xs : List ℕ) → shift_by n (by_bytes g xs) ≡ by_bytes (λ b. shift_by n (g b)) xs
unfolding by_bytes
by_bytes-shift n g [] = shift_by-zero n
by_bytes-shift n g (b ∷ xs) =
    let turned : 8 + n ≡ n + 8 = omega arith in
    let y = by_bytes g xs in
    shift_by-xor n (g b) (shift_by 8 y)
    ∙ ap (bit_xor (shift_by n (g b))) (shift_by-add n 8 y ∙ ap (λ (k : ℕ). shift_by k y) turned ∙ sym (shift_by-add 8 n y) ∙ ap (shift_by 8) (by_bytes-shift n g xs))

zero_shift : (v : ℕ) → v ≡ shift_by (8 * 0) v
unfolding shift_by
zero_shift v = refl

pub by_bytes-last : (g : ℕ → ℕ) (n : ℕ) (xs : List ℕ) → length xs ≡ suc n → by_bytes g xs ≡ bit_xor (by_bytes g (take n xs)) (shift_by (8 * n) (g (get_or xs n 0)))
unfolding by_bytes
by_bytes-last g n [] l = absurd (omega arith)
by_bytes-last g zero (x ∷ []) l = ap (bit_xor (g x)) (shift_by-zero 8) ∙ xor_zero_r (g x) ∙ zero_shift (g x)
by_bytes-last g zero (x ∷ y ∷ xs) l = absurd (omega arith)
by_bytes-last g (suc n) (x ∷ xs) l =
    let last = g (get_or xs n 0) in
    let front = by_bytes g (take n xs) in
    let more : 8 * n + 8 ≡ 8 * suc n = omega arith in
    ap (λ (y : ℕ). bit_xor (g x) (shift_by 8 y)) (by_bytes-last g n xs (omega arith))
    ∙ ap (bit_xor (g x)) (shift_by-xor 8 front (shift_by (8 * n) last) ∙ ap (bit_xor (shift_by 8 front)) (shift_by-add 8 (8 * n) last ∙ ap (λ (k : ℕ). shift_by k last) more))
    ∙ sym (xor_assoc (g x) (shift_by 8 front) (shift_by (8 * suc n) last))

-- ---- blocks
pub polynomial-xor : (xs ys : List ℕ) → length xs ≡ length ys → polynomial (zip2 bit_xor xs ys) ≡ bit_xor (polynomial xs) (polynomial ys)
unfolding polynomial by_bytes
polynomial-xor [] [] l = refl
polynomial-xor [] (y ∷ ys) l = absurd (omega arith)
polynomial-xor (x ∷ xs) [] l = absurd (omega arith)
polynomial-xor (x ∷ xs) (y ∷ ys) l =
    let a = by_bytes first_byte xs in
    let b = by_bytes first_byte ys in
    ap (λ (v : ℕ). bit_xor v (shift_by 8 (by_bytes first_byte (zip2 bit_xor xs ys)))) (sym (xor-multiples 120 x y))
    ∙ ap (λ (v : ℕ). bit_xor (bit_xor (first_byte x) (first_byte y)) (shift_by 8 v)) (polynomial-xor xs ys (omega arith))
    ∙ ap (bit_xor (bit_xor (first_byte x) (first_byte y))) (shift_by-xor 8 a b)
    ∙ swap_middle (first_byte x) (first_byte y) (shift_by 8 a) (shift_by 8 b)

pub polynomial-lt : (xs : List ℕ) → AreBytes xs → polynomial xs < 2 ^ 128
unfolding polynomial by_bytes
polynomial-lt [] h = lit< tt
polynomial-lt (x ∷ xs) h =
    let below : x < 2 ^ 8 = h.0.fits in
    xor_lt 128 (first_byte x) (shift_by 8 (by_bytes first_byte xs)) (omega arith) (shift_by-lt 8 (by_bytes first_byte xs) (polynomial-lt xs h.1))

-- a block whose last byte is zero, moved by one byte
pub polynomial-up : (xs : List ℕ) → length xs ≡ 16 → shift_by 8 (polynomial xs) ≡ bit_xor (polynomial (0 ∷ take 15 xs)) (shift_by 8 (get_or xs 15 0))
unfolding polynomial by_bytes
polynomial-up xs l =
    let last = get_or xs 15 0 in
    ap (shift_by 8) (by_bytes-last first_byte 15 xs l ∙ ap (bit_xor (by_bytes first_byte (take 15 xs))) (shift_by-multiple 120 last))
    ∙ shift_by-xor 8 (by_bytes first_byte (take 15 xs)) last

-- sixteen bytes and those that follow, moved by one byte
pub carried : (xs over vs : List ℕ) → length xs ≡ 16 → length over ≡ 16 → length vs ≡ 16 → get_or over 15 0 ≡ 0 →
    reduced (zip2 bit_xor (0 ∷ take 15 xs) vs) (get_or xs 15 0 ∷ take 15 over) ≡ bit_xor (shift_by 8 (reduced xs over)) (polynomial vs)
unfolding reduced polynomial by_bytes
carried xs over vs l m n z =
    let s = get_or xs 15 0 in
    let front = polynomial (0 ∷ take 15 xs) in
    let rest = by_bytes first_byte (take 15 over) in
    let tail = shift_by 8 (shift_by 128 rest) in
    let v = polynomial vs in
    let same : length (0 ∷ take 15 xs) ≡ length vs = omega (arith, length-take 15 xs) in
    let first : shift_by 128 (first_byte s) ≡ shift_by 8 s = sym (shift_by-add 8 120 (first_byte s)) ∙ ap (shift_by 8) (shift_by-multiple 120 s) in
    let second : shift_by 128 (shift_by 8 rest) ≡ tail = shift_by-add 128 8 rest ∙ sym (shift_by-add 8 128 rest) in
    let none : polynomial over ≡ rest =
    by_bytes-last first_byte 15 over m ∙ ap (λ (x : ℕ). bit_xor rest (shift_by 120 (first_byte x))) z ∙ ap (bit_xor rest) (shift_by-zero 120) ∙ xor_zero_r rest in
    ap (λ (x : ℕ). bit_xor x (shift_by 128 (bit_xor (first_byte s) (shift_by 8 rest)))) (polynomial-xor (0 ∷ take 15 xs) vs same)
    ∙ ap (bit_xor (bit_xor front v)) (shift_by-xor 128 (first_byte s) (shift_by 8 rest) ∙ ap (λ (x : ℕ). bit_xor x (shift_by 128 (shift_by 8 rest))) first ∙ ap (bit_xor (shift_by 8 s)) second)
    ∙ turned front v (shift_by 8 s) tail
    ∙ ap (λ (x : ℕ). bit_xor x v)
    (ap (λ (x : ℕ). bit_xor x tail) (sym (polynomial-up xs l))
    ∙ sym (shift_by-xor 8 (polynomial xs) (shift_by 128 rest))
    ∙ ap (λ (x : ℕ). shift_by 8 (bit_xor (polynomial xs) (shift_by 128 x))) (sym none))
  where
    turned : (a v b c : ℕ) → bit_xor (bit_xor a v) (bit_xor b c) ≡ bit_xor (bit_xor (bit_xor a b) c) v
    turned a v b c =
        xor_assoc a v (bit_xor b c) ∙ ap (bit_xor a) (xor_comm v (bit_xor b c)) ∙ sym (xor_assoc a (bit_xor b c) v) ∙ ap (λ (x : ℕ). bit_xor x v) (sym (xor_assoc a b c))
