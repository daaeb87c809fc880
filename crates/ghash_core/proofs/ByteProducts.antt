-- The product by h from the last byte of the products of single bytes on.
use Rattle.ghash_core.specs.Number.{shift_by, shift_by_x, when, digits, digits_product, number_product}
use Rattle.ghash_core.proofs.Field.{swap_middle, digits_product-lt, number_product_comm, number_product-xor_left}
use Rattle.ghash_core.proofs.Groups.{shift_by-xor, shift_by-multiple, digits_product-shift_by, product_group, digits-mod}
use Rattle.ghash_core.specs.ByBytes.{by_bytes, first_byte, polynomial, product_byte, byte_products, four_sum}
use Rattle.ghash_core.specs.Places.{value_at, ArePlaces}
use Rattle.ghash_core.specs.declared.place.Place.{Place}
use Rattle.ghash_core.proofs.PlaceValues.{value_is}
use Rattle.ghash_core.proofs.ByteSums.{AreBytes, shift_by-lt, by_bytes-map, by_bytes-same, by_bytes-step, polynomial-lt, polynomial-xor}
use Rattle.std.proofs.Common.{◌≡◌, ℕ, zero, suc, ◌+◌, ◌-◌, ◌*◌, ◌/◌, ◌%◌, ◌^◌, ◌<◌, ◌≤◌, List, [], ◌∷◌, map, length, refl, sym, ap, ◌∙◌, arith, subst}
use Rattle.std.specs.Prelude.{slice_index_or}
use Rattle.std.specs.Int.Bits.{bit_xor, xor_comm, xor_zero_r, xor_shifted}
use Rattle.std.proofs.lemmas.Nat.{pow-add, mod-pow-add, mod_below, pow_pos, shl_below}
use Rattle.std.proofs.Math.Nat.{mul_assoc, add-mul}
use Rattle.std.proofs.lemmas.List.{length-map}
use Rattle.std.proofs.lemmas.Simd.{length-zip2}
use lib.Lanes.{zip2}

-- the last s bytes of the product of h by a block whose first byte is b, as the first bytes
unfoldable pub last_bytes : ℕ → ℕ → ℕ → ℕ
last_bytes s h b = digits_product (digits 8 b) h % 2 ^ (8 * s) * 2 ^ (128 - 8 * s)

-- one byte more, of a number p
more_bytes : (p s : ℕ) → s ≤ 15 → p % 2 ^ (8 * (s + 1)) * 2 ^ (128 - 8 * (s + 1)) ≡ bit_xor (shift_by 8 (p % 2 ^ (8 * s) * 2 ^ (128 - 8 * s))) (first_byte (p / 2 ^ (8 * (15 - (15 - s))) % 256))
more_bytes p s h =
    let k = 8 * s in
    let n = 120 - k in
    let q = p % 2 ^ k in
    let byte = p / 2 ^ k % 2 ^ 8 in
    let whole : 8 * (s + 1) ≡ 8 + k = omega arith in
    let left : 128 - 8 * (s + 1) ≡ n = omega arith in
    let room : 128 - k ≡ n + 8 = omega arith in
    let place : 8 * (15 - (15 - s)) ≡ k = omega arith in
    let sum : k + n ≡ 120 = omega arith in
    let low : q * 2 ^ n < 2 ^ 120 = subst (λ (e : ℕ). q * 2 ^ n < 2 ^ e) sum (shl_below q k n (mod_below p (2 ^ k) (pow_pos k))) in
    let shifted : shift_by 8 (q * 2 ^ (128 - k)) ≡ q * 2 ^ n =
    ap (λ (e : ℕ). shift_by 8 (q * 2 ^ e)) room ∙ ap (λ (x : ℕ). shift_by 8 (q * x)) (pow-add 2 n 8) ∙ ap (shift_by 8) (sym (mul_assoc q (2 ^ n) (2 ^ 8))) ∙ shift_by-multiple 8 (q * 2 ^ n) in
    ap (λ (e : ℕ). p % 2 ^ e * 2 ^ (128 - 8 * (s + 1))) whole
    ∙ ap (λ (e : ℕ). p % 2 ^ (8 + k) * 2 ^ e) left
    ∙ ap (λ (x : ℕ). x * 2 ^ n) (mod-pow-add p 8 k)
    ∙ add-mul (byte * 2 ^ k) q (2 ^ n)
    ∙ ap (λ (x : ℕ). x + q * 2 ^ n) (mul_assoc byte (2 ^ k) (2 ^ n) ∙ ap (λ (x : ℕ). byte * x) (sym (pow-add 2 k n) ∙ ap (λ (e : ℕ). 2 ^ e) sum))
    ∙ sym (xor_shifted byte 120 (q * 2 ^ n) low)
    ∙ xor_comm (byte * 2 ^ 120) (q * 2 ^ n)
    ∙ ap (λ (x : ℕ). bit_xor x (byte * 2 ^ 120)) (sym shifted)
    ∙ ap (λ (e : ℕ). bit_xor (shift_by 8 (q * 2 ^ (128 - k))) (first_byte (p / 2 ^ e % 256))) (sym place)

-- the values at place k
pub values_are : (places : List Place) (h k : ℕ) (d : Place) (x : List ℕ) → ArePlaces places h → k < 16 → AreBytes x →
    polynomial (map (value_at (slice_index_or places k d)) x) ≡ byte_products k h x
unfolding polynomial byte_products
values_are places h k d x are l bytes =
    by_bytes-map first_byte (value_at (slice_index_or places k d)) x
    ∙ by_bytes-same (λ b. first_byte (value_at (slice_index_or places k d) b)) (λ b. first_byte (product_byte h k b)) (λ b below. ap first_byte (value_is (slice_index_or places k d) h k b (are.each k d l) below)) x bytes

pub starts : (h : ℕ) (x : List ℕ) → AreBytes x → byte_products 15 h x ≡ by_bytes (last_bytes 1 h) x
unfolding product_byte byte_products last_bytes
starts h x bytes = by_bytes-same (λ b. first_byte (product_byte h 15 b)) (last_bytes 1 h) (λ b below. ap (λ (y : ℕ). y % 256 * 2 ^ 120) (one (digits_product (digits 8 b) h))) x bytes
  where
    one : (n : ℕ) → n / 2 ^ 0 ≡ n
    one n = omega arith

pub goes_on : (h s : ℕ) (x : List ℕ) → s < 15 → AreBytes x →
    bit_xor (shift_by 8 (by_bytes (last_bytes (s + 1) h) x)) (byte_products (14 - s) h x) ≡ by_bytes (last_bytes (s + 1 + 1) h) x
unfolding product_byte byte_products last_bytes
goes_on h s x l bytes =
    sym (by_bytes-step (last_bytes (s + 1) h) (last_bytes (s + 1 + 1) h) (λ b. first_byte (product_byte h (14 - s) b)) (λ b below.
    more_bytes (digits_product (digits 8 b) h) (s + 1) (omega arith) ∙ ap (λ (k : ℕ). bit_xor (shift_by 8 (last_bytes (s + 1) h b)) (first_byte (product_byte h k b))) (let e : 15 - (s + 1) ≡ 14 - s = omega arith in e)) x bytes)

-- ---- all sixteen bytes
digits_product-none : (k v : ℕ) → digits_product (digits k 0) v ≡ 0
unfolding digits digits_product
digits_product-none zero v = refl
digits_product-none (suc k) v =
    let none : 0 / 2 ^ k % 2 ≡ 0 = omega arith in
    ap (λ (b : ℕ). bit_xor (when b v) (digits_product (digits k 0) (shift_by_x v))) none ∙ digits_product-none k (shift_by_x v)

no_shift : (x : ℕ) → bit_xor x (shift_by 8 0) ≡ x
unfolding shift_by shift_by_x
no_shift x = xor_zero_r x

product_of_first : (b h : ℕ) → number_product (first_byte b) h ≡ digits_product (digits 8 b) h
unfolding number_product
product_of_first b h =
    let n = b * 2 ^ 120 in
    let top : n / 2 ^ 120 ≡ b = omega arith in
    let none : n % 2 ^ 120 ≡ 0 = omega arith in
    product_group 8 120 n h
    ∙ ap (λ (x : ℕ). bit_xor (digits_product (digits 8 x) h) (shift_by 8 (digits_product (digits 120 n) h))) top
    ∙ ap (λ (bs : List ℕ). bit_xor (digits_product (digits 8 b) h) (shift_by 8 (digits_product bs h))) (sym (digits-mod 120 120 n (omega arith)) ∙ ap (digits 120) none)
    ∙ ap (λ (x : ℕ). bit_xor (digits_product (digits 8 b) h) (shift_by 8 x)) (digits_product-none 120 h)
    ∙ no_shift (digits_product (digits 8 b) h)

product-shift : (y h : ℕ) → y < 2 ^ 128 → h < 2 ^ 128 → number_product (shift_by 8 y) h ≡ shift_by 8 (number_product y h)
unfolding number_product
product-shift y h l m =
    number_product_comm (shift_by 8 y) h (shift_by-lt 8 y l) m
    ∙ digits_product-shift_by (digits 128 h) 8 y
    ∙ ap (shift_by 8) (number_product_comm h y m l)

product-none : (v : ℕ) → number_product 0 v ≡ 0
unfolding number_product
product-none v = digits_product-none 128 v

products : (h : ℕ) (x : List ℕ) → h < 2 ^ 128 → AreBytes x → by_bytes (λ b. digits_product (digits 8 b) h) x ≡ number_product (polynomial x) h
unfolding by_bytes polynomial
products h [] l bytes = sym (product-none h)
products h (b ∷ x) l bytes =
    let y = polynomial x in
    ap (λ (v : ℕ). bit_xor v (shift_by 8 (by_bytes (λ b. digits_product (digits 8 b) h) x))) (sym (product_of_first b h))
    ∙ ap (λ (v : ℕ). bit_xor (number_product (first_byte b) h) v) (ap (shift_by 8) (products h x l bytes.1) ∙ sym (product-shift y h (polynomial-lt x bytes.1) l))
    ∙ sym (number_product-xor_left (first_byte b) (shift_by 8 y) h)

pub ends : (h : ℕ) (x : List ℕ) → h < 2 ^ 128 → AreBytes x → by_bytes (last_bytes 16 h) x ≡ number_product (polynomial x) h
unfolding last_bytes
ends h x l bytes =
    by_bytes-same (last_bytes 16 h) (λ b. digits_product (digits 8 b) h) (λ b below. all (digits_product (digits 8 b) h) (digits_product-lt (digits 8 b) h l)) x bytes
    ∙ products h x l bytes
  where
    all : (p : ℕ) → p < 2 ^ 128 → p % 2 ^ 128 * 2 ^ 0 ≡ p
    all p m = omega arith

-- ---- four at once
pub four_like : (f g : ℕ → List ℕ → ℕ) (l m n o : ℕ) (x y z w : List ℕ) → f l x ≡ g l x → f m y ≡ g m y → f n z ≡ g n z → f o w ≡ g o w →
    four_sum f l x m y n z o w ≡ four_sum g l x m y n z o w
four_like f g l m n o x y z w ex ey ez ew = cc

pub four_starts : (l m n o : ℕ) (x y z w : List ℕ) → AreBytes x → AreBytes y → AreBytes z → AreBytes w →
    four_sum (byte_products 15) l x m y n z o w ≡ four_sum (λ h v. by_bytes (last_bytes 1 h) v) l x m y n z o w
four_starts l m n o x y z w bx by bz bw = four_like (byte_products 15) (λ h v. by_bytes (last_bytes 1 h) v) l m n o x y z w (starts l x bx) (starts m y by) (starts n z bz) (starts o w bw)

both : (u v a b p q : ℕ) → bit_xor (shift_by 8 u) a ≡ p → bit_xor (shift_by 8 v) b ≡ q → bit_xor (shift_by 8 (bit_xor u v)) (bit_xor a b) ≡ bit_xor p q
both u v a b p q d e =
    ap (λ (x : ℕ). bit_xor x (bit_xor a b)) (shift_by-xor 8 u v) ∙ swap_middle (shift_by 8 u) (shift_by 8 v) a b
    ∙ ap (λ (x : ℕ). bit_xor x (bit_xor (shift_by 8 v) b)) d ∙ ap (bit_xor p) e

pub four_go_on : (s l m n o : ℕ) (x y z w : List ℕ) → s < 15 → AreBytes x → AreBytes y → AreBytes z → AreBytes w →
    bit_xor (shift_by 8 (four_sum (λ h v. by_bytes (last_bytes (s + 1) h) v) l x m y n z o w)) (four_sum (byte_products (14 - s)) l x m y n z o w)
    ≡ four_sum (λ h v. by_bytes (last_bytes (s + 1 + 1) h) v) l x m y n z o w
four_go_on s l m n o x y z w below bx by bz bw =
    both _ _ _ _ _ _ (both _ _ _ _ _ _ (goes_on m s y below by) (both _ _ _ _ _ _ (goes_on n s z below bz) (goes_on o s w below bw))) (goes_on l s x below bx)

pub four_end : (l m n o : ℕ) (x y z w : List ℕ) → l < 2 ^ 128 → m < 2 ^ 128 → n < 2 ^ 128 → o < 2 ^ 128 → AreBytes x → AreBytes y → AreBytes z → AreBytes w →
    four_sum (λ h v. by_bytes (last_bytes 16 h) v) l x m y n z o w
    ≡ bit_xor (number_product (polynomial x) l) (bit_xor (number_product (polynomial y) m) (bit_xor (number_product (polynomial z) n) (number_product (polynomial w) o)))
four_end l m n o x y z w hl hm hn ho bx by bz bw =
    four_like (λ h v. by_bytes (last_bytes 16 h) v) (λ h v. number_product (polynomial v) h) l m n o x y z w (ends l x hl bx) (ends m y hm by) (ends n z hn bz) (ends o w ho bw)
    ∙ xor_comm (bit_xor (number_product (polynomial y) m) (bit_xor (number_product (polynomial z) n) (number_product (polynomial w) o))) (number_product (polynomial x) l)

-- the values of four places, added lane by lane
pub four_polynomials : (k l m n o : ℕ) (x y z w vx vy vz vw : List ℕ) (p q r s : ℕ → ℕ) → length x ≡ 16 → length y ≡ 16 → length z ≡ 16 → length w ≡ 16 →
    vx ≡ map p x → vy ≡ map q y → vz ≡ map r z → vw ≡ map s w →
    polynomial (map p x) ≡ byte_products k l x → polynomial (map q y) ≡ byte_products k m y → polynomial (map r z) ≡ byte_products k n z → polynomial (map s w) ≡ byte_products k o w →
    polynomial (zip2 bit_xor (zip2 bit_xor vy (zip2 bit_xor vz vw)) vx) ≡ four_sum (byte_products k) l x m y n z o w
four_polynomials k l m n o x y z w vx vy vz vw p q r s lx ly lz lw ex ey ez ew px py pz pw =
    let jx : length vx ≡ 16 = ap length ex ∙ length-map x p ∙ lx in
    let jy : length vy ≡ 16 = ap length ey ∙ length-map y q ∙ ly in
    let jz : length vz ≡ 16 = ap length ez ∙ length-map z r ∙ lz in
    let jw : length vw ≡ 16 = ap length ew ∙ length-map w s ∙ lw in
    let zw = zip2 bit_xor vz vw in
    let jzw : length zw ≡ 16 = length-zip2 bit_xor vz vw (jz ∙ sym jw) ∙ jz in
    let yzw = zip2 bit_xor vy zw in
    let jyzw : length yzw ≡ 16 = length-zip2 bit_xor vy zw (jy ∙ sym jzw) ∙ jy in
    polynomial-xor yzw vx (jyzw ∙ sym jx)
    ∙ ap (λ (v : ℕ). bit_xor v (polynomial vx)) (polynomial-xor vy zw (jy ∙ sym jzw) ∙ ap (bit_xor (polynomial vy)) (polynomial-xor vz vw (jz ∙ sym jw)))
    ∙ added _ _ _ _ _ _ _ _ (ap polynomial ex ∙ px) (ap polynomial ey ∙ py) (ap polynomial ez ∙ pz) (ap polynomial ew ∙ pw)
  where
    added : (a b c d a' b' c' d' : ℕ) → a ≡ a' → b ≡ b' → c ≡ c' → d ≡ d' → bit_xor (bit_xor b (bit_xor c d)) a ≡ bit_xor (bit_xor b' (bit_xor c' d')) a'
    added a b c d a' b' c' d' ea eb ec ed = cc
