-- Lists of bytes, and the cipher's blocks among them.
use Rattle.std.proofs.Common.{◌≡◌, ℕ, zero, suc, ◌<◌, List, ◌++◌, length, get_or, sym, ap, ◌∙◌, arith, bit_xor}
use Rattle.std.specs.Int.{w64, to_be_bytes, byte_at}
use Rattle.std.specs.Int.Bits.{xor_self, xor_zero_r, xor_assoc}
use Rattle.std.proofs.lemmas.Nat.{xor_of_8}
use Rattle.std.proofs.lemmas.Grind.{same_number_lists}
use Rattle.std.proofs.lemmas.List.{length-append}
use Rattle.bits_core.specs.ByteList.{IsBytes, xor_bytes}
use Rattle.bits_core.proofs.Bytes.{small_along, IsBytes-append}
use Rattle.bits_core.proofs.XorBytes.{length-xor_bytes, get_or-xor_bytes}
use Rattle.aes_core.specs.Aes.{IsState}

pub bytes-xor : (xs ys : List ℕ) → length ys ≡ length xs → IsBytes xs → IsBytes ys → IsBytes (xor_bytes xs ys)
bytes-xor xs ys e hx hy n =
    small_along (get_or (xor_bytes xs ys) n 0) (bit_xor (get_or xs n 0) (get_or ys n 0)) (get_or-xor_bytes xs ys n e) (xor_of_8 (get_or xs n 0) (get_or ys n 0) (hx n) (hy n))

small_byte : (k n : ℕ) → byte_at k n < 256
small_byte zero n = omega arith
small_byte (suc k) n = omega arith

-- the bytes of a number
pub bytes-number : (t : ℕ) → IsBytes (to_be_bytes w64 t)
bytes-number t zero = small_byte 7 t
bytes-number t (suc zero) = small_byte 6 t
bytes-number t (suc (suc zero)) = small_byte 5 t
bytes-number t (suc (suc (suc zero))) = small_byte 4 t
bytes-number t (suc (suc (suc (suc zero)))) = small_byte 3 t
bytes-number t (suc (suc (suc (suc (suc zero))))) = small_byte 2 t
bytes-number t (suc (suc (suc (suc (suc (suc zero)))))) = small_byte 1 t
bytes-number t (suc (suc (suc (suc (suc (suc (suc zero))))))) = small_byte 0 t
bytes-number t (suc (suc (suc (suc (suc (suc (suc (suc n)))))))) = omega arith

-- a number added twice is taken away again
pub xor_twice : (xs ys : List ℕ) → length ys ≡ length xs → xor_bytes (xor_bytes xs ys) ys ≡ xs
xor_twice xs ys e =
    let once : List ℕ = xor_bytes xs ys in
    let long : length once ≡ length xs = length-xor_bytes xs ys e in
    let same : length ys ≡ length once = e ∙ sym long in
    same_number_lists (xor_bytes once ys) xs (length-xor_bytes once ys same ∙ long) (λ n h.
    get_or-xor_bytes once ys n same
    ∙ ap (λ (k : ℕ). bit_xor k (get_or ys n 0)) (get_or-xor_bytes xs ys n e)
    ∙ xor_assoc (get_or xs n 0) (get_or ys n 0) (get_or ys n 0)
    ∙ ap (bit_xor (get_or xs n 0)) (xor_self (get_or ys n 0))
    ∙ xor_zero_r (get_or xs n 0))

-- two semiblocks of bytes are a block
pub two_semiblocks : (a b : List ℕ) → length a ≡ 8 → length b ≡ 8 → IsBytes a → IsBytes b → IsState (a ++ b)
two_semiblocks a b la lb ha hb = record { long = length-append a b ∙ omega arith; small = IsBytes-append a b ha hb }
