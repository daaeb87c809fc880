-- Unwrapping (SP 800-38F, section 6), as functions of key and wrapped bytes. `deciphered` is CIPH^-1_K, the inverse of the cipher
-- under the key encryption key.
use Rattle.std.specs.Prelude.{◌≡◌, ℕ, zero, suc, ◌+◌, ◌-◌, ◌*◌, ◌/◌, ◌==◌, ◌&&◌, nat_le, if◌then◌else◌, Option, Some, None, option_map, unwrap_or, List, [], ◌∷◌, ◌++◌, length, take, drop, replicate}
use Rattle.std.specs.Str.{bytes_eq}
use Rattle.std.specs.Int.{w32, w64, to_be_bytes, from_be_bytes}
use Rattle.bits_core.specs.ByteList.{zeros, zero_padded, xor_bytes}
use Rattle.aes_core.specs.Key.{aes_inverse}
use Rattle.key_wrap.specs.Wrapping.{Registers, semiblock, row}

-- A(t - 1) and R(i, t - 1) from A(t) and R(i, t), over n semiblocks: step t of W undone
abbrev pub previous_registers : (List ℕ → List ℕ) → ℕ → ℕ → Registers → Registers
previous_registers deciphered n t after =
    let block = deciphered (xor_bytes after.a (to_be_bytes w64 t) ++ after.r n) in
    record { a = take 8 block; r = λ i. if i == 2 then drop 8 block else after.r (i - 1) }

-- A(0) and R(i, 0) from A(t) and R(i, t)
unfoldable pub first_registers : (List ℕ → List ℕ) → ℕ → ℕ → Registers → Registers
first_registers deciphered n zero last = last
first_registers deciphered n (suc t) last = first_registers deciphered n t (previous_registers deciphered n (t + 1) last)

-- W^-1(c): A and R(2) to R(n) before 6(n - 1) steps (section 6.1, algorithm 2)
unfoldable pub unwrapped : (List ℕ → List ℕ) → List ℕ → List ℕ
unwrapped deciphered c =
    let m = length c / 8 - 1 in
    let first = first_registers deciphered (m + 1) (6 * m) (record { a = semiblock c 1; r = semiblock c }) in
    first.a ++ row first.r m

-- KW-AD(c): what follows ICV1 in W^-1(c), where ICV1 stands there (section 6.2, algorithm 4)
unfoldable pub unkw : List ℕ → List ℕ → Option (List ℕ)
unkw key c =
    let s = unwrapped (aes_inverse key) c in
    if bytes_eq (take 8 s) (replicate 8 0xa6) then Some (drop 8 s) else None

-- S: one block where c has two semiblocks, else W^-1(c) (section 6.3, algorithm 6, step 2)
unfoldable pub padded_text : (List ℕ → List ℕ) → List ℕ → List ℕ
padded_text deciphered c = if length c == 16 then deciphered c else unwrapped deciphered c

-- the plaintext that S shows: ICV2 and its length stand before it, and after it at most seven bytes, all zero (algorithm 6, steps 3 to 8)
unfoldable pub unpadded : List ℕ → Option (List ℕ)
unpadded s =
    let size = from_be_bytes w32 (take 4 (drop 4 s)) in
    let room = length s - 8 in
    if bytes_eq (take 4 s) (0xa6 ∷ 0x59 ∷ 0x59 ∷ 0xa6 ∷ [])
    && nat_le size room && nat_le room (size + 7)
    && bytes_eq (drop (size + 8) s) (zeros (room - size))
    then Some (take size (drop 8 s)) else None

-- KWP-AD(c) (section 6.3, algorithm 6)
unfoldable pub unkwp : List ℕ → List ℕ → Option (List ℕ)
unkwp key c = unpadded (padded_text (aes_inverse key) c)

-- the value stands at the front of the 80 bytes with zeros after it, and its length was answered; where there is none, all are zero
pub record ShowsValue (value : Option (List ℕ)) (size : Option ℕ) (buf : List ℕ) : Type 0 where
  pub counted : size ≡ option_map (length {A = ℕ}) value
  pub shown : buf ≡ zero_padded 80 (unwrap_or value [])
