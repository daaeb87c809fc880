-- The field GF(2^8) of FIPS 197, section 4: a byte is a polynomial over GF(2), its bit i the coefficient
-- of x^i.
use Rattle.std.specs.Prelude.{ℕ, zero, suc, ◌+◌, ◌*◌, ◌/◌, ◌%◌, ◌^◌, ◌==◌, Bool, cond, bit_xor}

-- the product of polynomials, b of degree below n
unfoldable pub product : ℕ → ℕ → ℕ → ℕ
product zero a b = 0
product (suc n) a b = bit_xor (a * (b % 2)) (product n (2 * a) (b / 2))

-- the remainder modulo x^8 + x^4 + x^3 + x + 1 of a polynomial of degree below 8 + n (section 4.2)
unfoldable pub remainder : ℕ → ℕ → ℕ
remainder zero p = p
remainder (suc n) p = remainder n (bit_xor p (0x11b * 2 ^ n * (p / 2 ^ (8 + n) % 2)))

-- the product of two bytes (section 4.2)
unfoldable pub times : ℕ → ℕ → ℕ
times a b = remainder 7 (product 8 a b)

-- the first c below a + n, from a on, at which p holds, else 0
unfoldable pub first_from : (ℕ → Bool) → ℕ → ℕ → ℕ
first_from p zero a = 0
first_from p (suc n) a = let rest = first_from p n (a + 1) in cond (p a) a rest

-- the byte whose product with b is 1, and 0 for 0 (section 4.4)
unfoldable pub inverse : ℕ → ℕ
inverse b = first_from (λ c. times b c == 1) 256 0

-- b to the power n
unfoldable pub power : ℕ → ℕ → ℕ
power b zero = 1
power b (suc n) = times b (power b n)

-- bit i of a byte
abbrev pub bit : ℕ → ℕ → ℕ
bit b i = b / 2 ^ i % 2

-- the number whose bit i is f i, for n bits
unfoldable pub byte_of : (ℕ → ℕ) → ℕ → ℕ
byte_of f zero = 0
byte_of f (suc n) = byte_of f n + f n * 2 ^ n

-- bit i of the affine map of SUBBYTES() (section 5.1.1, equation 5.2)
unfoldable pub affine_bit : ℕ → ℕ → ℕ
affine_bit b i = (bit b i + bit b ((i + 4) % 8) + bit b ((i + 5) % 8) + bit b ((i + 6) % 8) + bit b ((i + 7) % 8) + bit 0x63 i) % 2

unfoldable pub affine : ℕ → ℕ
affine b = byte_of (affine_bit b) 8

-- SBOX() (section 5.1.1)
unfoldable pub sub_byte : ℕ → ℕ
sub_byte b = affine (inverse b)

-- bit i of the inverse of the affine map (section 5.3.2)
unfoldable pub inv_affine_bit : ℕ → ℕ → ℕ
inv_affine_bit b i = (bit b ((i + 2) % 8) + bit b ((i + 5) % 8) + bit b ((i + 7) % 8) + bit 0x05 i) % 2

unfoldable pub inv_affine : ℕ → ℕ
inv_affine b = byte_of (inv_affine_bit b) 8

-- INVSBOX() (section 5.3.2)
unfoldable pub inv_sub_byte : ℕ → ℕ
inv_sub_byte b = inverse (inv_affine b)
