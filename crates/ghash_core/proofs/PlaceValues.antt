-- What the places of a block hold.
use Rattle.ghash_core.specs.Number.{shift_by_x, when, digits, digits_product}
use Rattle.ghash_core.proofs.Field.{digits_product-digits-xor}
use Rattle.ghash_core.proofs.Sums.{pow256}
use Rattle.ghash_core.specs.Places.{value_at, IsPlace}
use Rattle.ghash_core.specs.declared.place.Place.{Place}
use Rattle.ghash_core.specs.ByBytes.{product_byte}
use Rattle.std.proofs.Common.{◌≡◌, ℕ, zero, suc, ◌+◌, ◌-◌, ◌*◌, ◌/◌, ◌%◌, ◌^◌, ◌<◌, List, [], ◌∷◌, map, get_or, bit_and, refl, sym, ap, ◌∙◌, arith, lit<}
use Rattle.std.specs.List.{range_with_len}
use Rattle.std.specs.Int.{bytes_high_first, byte_at}
use Rattle.std.specs.Int.Bits.{bit_xor, xor_assoc, xor_zero_r, xor_shr, xor_mod, xor_shifted, and_comm}
use Rattle.std.proofs.lemmas.Nat.{and_mask}
use Rattle.std.proofs.lemmas.List.FromFn.{get_or-map-range_with_len}
use Rattle.std.proofs.Math.Nat.{mod-eq_of_lt}

-- ---- the sums that the bits of n pick
abbrev pub picked : ℕ → ℕ → ℕ → ℕ → ℕ → ℕ
picked a b c d n = bit_xor (when (n / 8 % 2) a) (bit_xor (when (n / 4 % 2) b) (bit_xor (when (n / 2 % 2) c) (when (n % 2) d)))

all_ones : (a : ℕ) → a < 256 → bit_and 255 a ≡ a
all_ones a h = and_comm 255 a ∙ and_mask a 8 ∙ mod-eq_of_lt h

pub picks : (a b c d n : ℕ) → a < 256 → b < 256 → c < 256 → d < 256 → n < 16 →
    get_or (map (picked (bit_and 255 a) (bit_and 255 b) (bit_and 255 c) (bit_and 255 d)) (range_with_len 0 16)) n 0 ≡ picked a b c d n
picks a b c d n ha hb hc hd h =
    get_or-map-range_with_len (picked (bit_and 255 a) (bit_and 255 b) (bit_and 255 c) (bit_and 255 d)) 0 16 n n 0 h (omega arith)
    ∙ ap (λ (x : ℕ). picked x (bit_and 255 b) (bit_and 255 c) (bit_and 255 d) n) (all_ones a ha)
    ∙ ap (λ (x : ℕ). picked a x (bit_and 255 c) (bit_and 255 d) n) (all_ones b hb)
    ∙ ap (λ (x : ℕ). picked a b x (bit_and 255 d) n) (all_ones c hc)
    ∙ ap (λ (x : ℕ). picked a b c x n) (all_ones d hd)

-- ---- byte k of a number
abbrev pub byte_of : ℕ → ℕ → ℕ
byte_of k n = n / 2 ^ (8 * (15 - k)) % 2 ^ 8

byte-xor : (k a b : ℕ) → byte_of k (bit_xor a b) ≡ bit_xor (byte_of k a) (byte_of k b)
byte-xor k a b = ap (λ (x : ℕ). x % 2 ^ 8) (xor_shr a b (8 * (15 - k))) ∙ xor_mod (a / 2 ^ (8 * (15 - k))) (b / 2 ^ (8 * (15 - k))) 8

byte-none : (m : ℕ) → 0 / 2 ^ m % 2 ^ 8 ≡ 0
byte-none m = omega arith

byte-when : (k b v : ℕ) → byte_of k (when b v) ≡ when b (byte_of k v)
byte-when k zero v = byte-none (8 * (15 - k))
byte-when k (suc b) v = refl

-- the bytes k of a product, digit by digit
sum_of_bytes : ℕ → List ℕ → ℕ → ℕ
sum_of_bytes k [] v = 0
sum_of_bytes k (b ∷ bs) v = bit_xor (when b (byte_of k v)) (sum_of_bytes k bs (shift_by_x v))

product_of_bytes : (k : ℕ) (bs : List ℕ) (v : ℕ) → byte_of k (digits_product bs v) ≡ sum_of_bytes k bs v
unfolding digits_product sum_of_bytes
product_of_bytes k [] v = byte-none (8 * (15 - k))
product_of_bytes k (b ∷ bs) v =
    byte-xor k (when b v) (digits_product bs (shift_by_x v))
    ∙ ap (λ (x : ℕ). bit_xor x (byte_of k (digits_product bs (shift_by_x v)))) (byte-when k b v)
    ∙ ap (bit_xor (when b (byte_of k v))) (product_of_bytes k bs (shift_by_x v))

next_bit : (k b v w byte rest : ℕ) (bs : List ℕ) → w ≡ shift_by_x v → byte ≡ byte_of k v → rest ≡ sum_of_bytes k bs w → bit_xor (when b byte) rest ≡ sum_of_bytes k (b ∷ bs) v
unfolding sum_of_bytes
next_bit k b v w byte rest bs e f g =
    ap (λ (x : ℕ). bit_xor (when b x) rest) f ∙ ap (bit_xor (when b (byte_of k v))) (g ∙ ap (sum_of_bytes k bs) e)

last_bit : (k b v byte : ℕ) → byte ≡ byte_of k v → when b byte ≡ sum_of_bytes k (b ∷ []) v
unfolding sum_of_bytes
last_bit k b v byte f = ap (when b) f ∙ sym (xor_zero_r (when b (byte_of k v)))

eight : (a b c d e f g h : ℕ) → bit_xor (bit_xor a (bit_xor b (bit_xor c d))) (bit_xor e (bit_xor f (bit_xor g h))) ≡ bit_xor a (bit_xor b (bit_xor c (bit_xor d (bit_xor e (bit_xor f (bit_xor g h))))))
eight a b c d e f g h =
    let low = bit_xor e (bit_xor f (bit_xor g h)) in
    xor_assoc a (bit_xor b (bit_xor c d)) low ∙ ap (bit_xor a) (xor_assoc b (bit_xor c d) low ∙ ap (bit_xor b) (xor_assoc c d low))

bits_are : (b : ℕ) → b < 256 → digits 8 b ≡ (b / 16 / 8 % 2) ∷ (b / 16 / 4 % 2) ∷ (b / 16 / 2 % 2) ∷ (b / 16 % 2) ∷ (b % 16 / 8 % 2) ∷ (b % 16 / 4 % 2) ∷ (b % 16 / 2 % 2) ∷ (b % 16 % 2) ∷ []
unfolding digits
bits_are b h =
    let e7 : b / 128 % 2 ≡ b / 16 / 8 % 2 = omega arith in
    let e6 : b / 64 % 2 ≡ b / 16 / 4 % 2 = omega arith in
    let e5 : b / 32 % 2 ≡ b / 16 / 2 % 2 = omega arith in
    let e3 : b / 8 % 2 ≡ b % 16 / 8 % 2 = omega arith in
    let e2 : b / 4 % 2 ≡ b % 16 / 4 % 2 = omega arith in
    let e1 : b / 2 % 2 ≡ b % 16 / 2 % 2 = omega arith in
    let e0 : b / 1 % 2 ≡ b % 16 % 2 = omega arith in
    listed _ _ _ _ _ _ _ _ _ _ _ _ _ _ e7 e6 e5 e3 e2 e1 e0
  where
    listed : (a b c e f g h a' b' c' e' f' g' h' : ℕ) {d : ℕ} → a ≡ a' → b ≡ b' → c ≡ c' → e ≡ e' → f ≡ f' → g ≡ g' → h ≡ h' → ◌≡◌ {A = List ℕ} (a ∷ b ∷ c ∷ d ∷ e ∷ f ∷ g ∷ h ∷ []) (a' ∷ b' ∷ c' ∷ d ∷ e' ∷ f' ∷ g' ∷ h' ∷ [])
    listed a b c e f g h a' b' c' e' f' g' h' p q r s t u v = cc

-- the value at b of a place whose halves are the sums of the bytes k of v0 to v7
place_value : (k b v0 v1 v2 v3 v4 v5 v6 v7 b0 b1 b2 b3 b4 b5 b6 b7 high low : ℕ) → b < 256 →
    v1 ≡ shift_by_x v0 → v2 ≡ shift_by_x v1 → v3 ≡ shift_by_x v2 → v4 ≡ shift_by_x v3 → v5 ≡ shift_by_x v4 → v6 ≡ shift_by_x v5 → v7 ≡ shift_by_x v6 →
    b0 ≡ byte_of k v0 → b1 ≡ byte_of k v1 → b2 ≡ byte_of k v2 → b3 ≡ byte_of k v3 → b4 ≡ byte_of k v4 → b5 ≡ byte_of k v5 → b6 ≡ byte_of k v6 → b7 ≡ byte_of k v7 →
    high ≡ picked b0 b1 b2 b3 (b / 16) → low ≡ picked b4 b5 b6 b7 (b % 16) → bit_xor high low ≡ product_byte v0 k b
unfolding product_byte
place_value k b v0 v1 v2 v3 v4 v5 v6 v7 b0 b1 b2 b3 b4 b5 b6 b7 high low below e1 e2 e3 e4 e5 e6 e7 f0 f1 f2 f3 f4 f5 f6 f7 hi lo =
    ap (λ (x : ℕ). bit_xor x low) hi ∙ ap (bit_xor (picked b0 b1 b2 b3 (b / 16))) lo
    ∙ eight (when (b / 16 / 8 % 2) b0) (when (b / 16 / 4 % 2) b1) (when (b / 16 / 2 % 2) b2) (when (b / 16 % 2) b3)
    (when (b % 16 / 8 % 2) b4) (when (b % 16 / 4 % 2) b5) (when (b % 16 / 2 % 2) b6) (when (b % 16 % 2) b7)
    ∙ next_bit k (b / 16 / 8 % 2) v0 v1 b0 _ _ e1 f0 (next_bit k (b / 16 / 4 % 2) v1 v2 b1 _ _ e2 f1 (next_bit k (b / 16 / 2 % 2) v2 v3 b2 _ _ e3 f2 (next_bit k (b / 16 % 2) v3 v4 b3 _ _ e4 f3
    (next_bit k (b % 16 / 8 % 2) v4 v5 b4 _ _ e5 f4 (next_bit k (b % 16 / 4 % 2) v5 v6 b5 _ _ e6 f5 (next_bit k (b % 16 / 2 % 2) v6 v7 b6 _ _ e7 f6 (last_bit k (b % 16 % 2) v7 b7 f7)))))))
    ∙ sym (ap (λ (bs : List ℕ). byte_of k (digits_product bs v0)) (bits_are b below) ∙ product_of_bytes k _ v0)

by_one : (h : ℕ) → digits_product (digits 8 128) h ≡ h
unfolding digits_product digits
by_one h = xor_zero_r h

-- both halves of a place
pub place_is : (place : Place) (k v0 v1 v2 v3 v4 v5 v6 v7 b0 b1 b2 b3 b4 b5 b6 b7 : ℕ) →
    v1 ≡ shift_by_x v0 → v2 ≡ shift_by_x v1 → v3 ≡ shift_by_x v2 → v4 ≡ shift_by_x v3 → v5 ≡ shift_by_x v4 → v6 ≡ shift_by_x v5 → v7 ≡ shift_by_x v6 →
    b0 ≡ byte_of k v0 → b1 ≡ byte_of k v1 → b2 ≡ byte_of k v2 → b3 ≡ byte_of k v3 → b4 ≡ byte_of k v4 → b5 ≡ byte_of k v5 → b6 ≡ byte_of k v6 → b7 ≡ byte_of k v7 →
    ((n : ℕ) → n < 16 → get_or place.high n 0 ≡ picked b0 b1 b2 b3 n) → ((n : ℕ) → n < 16 → get_or place.low n 0 ≡ picked b4 b5 b6 b7 n) → IsPlace place v0 k
place_is place k v0 v1 v2 v3 v4 v5 v6 v7 b0 b1 b2 b3 b4 b5 b6 b7 e1 e2 e3 e4 e5 e6 e7 f0 f1 f2 f3 f4 f5 f6 f7 hi lo = record {
  high = λ n h.
      let up : n ≡ n * 16 / 16 = omega arith in
      let none : 0 ≡ n * 16 % 16 = omega arith in
      sym (xor_zero_r (get_or place.high n 0))
      ∙ place_value k (n * 16) v0 v1 v2 v3 v4 v5 v6 v7 b0 b1 b2 b3 b4 b5 b6 b7 (get_or place.high n 0) 0 (omega arith) e1 e2 e3 e4 e5 e6 e7 f0 f1 f2 f3 f4 f5 f6 f7
      (hi n h ∙ ap (picked b0 b1 b2 b3) up) (ap (picked b4 b5 b6 b7) none);
  low = λ n h.
      let none : 0 ≡ n / 16 = omega arith in
      let same : n ≡ n % 16 = omega arith in
      place_value k n v0 v1 v2 v3 v4 v5 v6 v7 b0 b1 b2 b3 b4 b5 b6 b7 0 (get_or place.low n 0) (omega arith) e1 e2 e3 e4 e5 e6 e7 f0 f1 f2 f3 f4 f5 f6 f7
      (ap (picked b0 b1 b2 b3) none) (lo n h ∙ ap (picked b4 b5 b6 b7) same);
}

-- what both halves give
product_byte-xor : (h k a b : ℕ) → bit_xor (product_byte h k a) (product_byte h k b) ≡ product_byte h k (bit_xor a b)
unfolding product_byte
product_byte-xor h k a b =
    sym (ap (byte_of k) (digits_product-digits-xor 8 a b h) ∙ byte-xor k (digits_product (digits 8 a) h) (digits_product (digits 8 b) h))

pub value_is : (place : Place) (h k b : ℕ) → IsPlace place h k → b < 256 → value_at place b ≡ product_byte h k b
value_is place h k b is l =
    let whole : b / 16 * 2 ^ 4 + b % 16 ≡ b = omega arith in
    ap (λ (x : ℕ). bit_xor x (get_or place.low (b % 16) 0)) (is.high (b / 16) (omega arith))
    ∙ ap (bit_xor (product_byte h k (b / 16 * 16))) (is.low (b % 16) (omega arith))
    ∙ product_byte-xor h k (b / 16 * 16) (b % 16)
    ∙ ap (product_byte h k) (xor_shifted (b / 16) 4 (b % 16) (omega arith) ∙ whole)

-- the byte of the block itself
pub own_byte : (place : Place) (h k : ℕ) → IsPlace place h k → get_or place.high 8 0 ≡ byte_of k h
unfolding product_byte
own_byte place h k is = is.high 8 (lit< tt) ∙ ap (byte_of k) (by_one h)

-- ---- the bytes of a number, in order
pub byte_is : (j n : ℕ) → byte_at j n ≡ n / 2 ^ (8 * j) % 2 ^ 8
byte_is zero n = let e : n % 256 ≡ n / 1 % 256 = omega arith in e
byte_is (suc j) n = ap (λ (p : ℕ). n / p % 256) (pow256 (suc j))

nth : (m n i j : ℕ) → i + j + 1 ≡ m → get_or (bytes_high_first m n) i 0 ≡ byte_at j n
nth zero n i j e = absurd (omega arith)
nth (suc m) n zero j e = let same : m ≡ j = omega arith in ap (λ (x : ℕ). byte_at x n) same
nth (suc m) n (suc i) j e = nth m n i j (omega arith)

pub nth_byte : (bytes : List ℕ) (n k : ℕ) → bytes ≡ bytes_high_first 16 n → k < 16 → get_or bytes k 0 ≡ byte_of k n
nth_byte bytes n k e h = ap (λ (l : List ℕ). get_or l k 0) e ∙ nth 16 n k (15 - k) (omega arith) ∙ byte_is (15 - k) n
