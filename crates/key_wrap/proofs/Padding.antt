-- Padded plaintexts.
use Rattle.std.proofs.Common.{◌≡◌, ℕ, zero, suc, ◌+◌, ◌-◌, ◌*◌, ◌/◌, ◌%◌, ◌≤◌, Bool, cond, List, [], ◌∷◌, ◌++◌, length, take, drop, refl, sym, ap, ap₂, ◌∙◌, arith, inl, inr, slice_index}
use Rattle.std.specs.Int.{w32, to_be_bytes, from_be_bytes}
use Rattle.std.proofs.lemmas.Nat.{from_be_bytes-to_be_bytes_4}
use Rattle.std.proofs.lemmas.Bool.{cases_lt, le-leb, lt-leb}
use Rattle.std.proofs.lemmas.List.{length-append, length-take-le, length-drop, take_at, drop_at, take-append-drop, drop-drop, drop_more, take-take, drop-take, append_assoc}
use Rattle.bits_core.specs.ByteList.{IsBytes, zeros, zero_padded}
use Rattle.bits_core.proofs.ZeroPadding.{length-zeros, get_or-zeros, zeros-append-zeros}
use Rattle.key_wrap.specs.Wrapping.{wrapped, padded, kwp, IsKwpPlain}
use Rattle.key_wrap.specs.InPlace.{padded_cipher, IsPadded}
use Rattle.bits_core.proofs.Bytes.{small_along, IsBytes-append}
use Rattle.key_wrap.proofs.Injective.{padded_cipher_one, padded_cipher_more}

-- zeros after a plaintext of n bytes
abbrev pub padding : ℕ → ℕ
padding n = 8 * ((n + 7) / 8) - n

pub length-padded : (p : List ℕ) → length (padded p) ≡ 8 * ((length p + 7) / 8) + 8
length-padded p = omega (arith, length-append p (zeros (padding (length p))), length-zeros (padding (length p)))

pub padded-is : (p : List ℕ) → IsKwpPlain p → IsPadded (padded p)
padded-is p h = record {
  least = omega (arith, length-padded p, h.least);
  most = omega (arith, length-padded p, h.most);
  whole = omega (arith, length-padded p);
}

bytes-zeros : (n : ℕ) → IsBytes (zeros n)
bytes-zeros n k = small_along (slice_index (zeros n) k) 0 (get_or-zeros n k) (omega arith)

bytes-header : (n : ℕ) → IsBytes ((0xa6 ∷ 0x59 ∷ 0x59 ∷ 0xa6 ∷ []) ++ to_be_bytes w32 n)
bytes-header n zero = omega arith
bytes-header n (suc zero) = omega arith
bytes-header n (suc (suc zero)) = omega arith
bytes-header n (suc (suc (suc zero))) = omega arith
bytes-header n (suc (suc (suc (suc zero)))) = omega arith
bytes-header n (suc (suc (suc (suc (suc zero))))) = omega arith
bytes-header n (suc (suc (suc (suc (suc (suc zero)))))) = omega arith
bytes-header n (suc (suc (suc (suc (suc (suc (suc zero))))))) = omega arith
bytes-header n (suc (suc (suc (suc (suc (suc (suc (suc k)))))))) = omega arith

pub bytes-padded : (p : List ℕ) → IsBytes p → IsBytes (padded p)
bytes-padded p h =
    IsBytes-append ((0xa6 ∷ 0x59 ∷ 0x59 ∷ 0xa6 ∷ []) ++ to_be_bytes w32 (length p)) (p ++ zeros (padding (length p)))
    (bytes-header (length p)) (IsBytes-append p (zeros (padding (length p))) h (bytes-zeros (padding (length p))))

pub kwp-padded_cipher : (enciphered : List ℕ → List ℕ) (p : List ℕ) → 1 ≤ length p → kwp enciphered p ≡ padded_cipher enciphered (padded p)
unfolding kwp
kwp-padded_cipher enciphered p h =
    let chosen : Bool → List ℕ = λ b. cond b (enciphered (padded p)) (wrapped enciphered (padded p)) in
    elim (cases_lt 8 (length p)) [
      | inl more ↦ ap chosen (lt-leb (length p) 8 more) ∙ sym (padded_cipher_more enciphered (padded p) (λ e. absurd (omega (arith, length-padded p))))
      | inr few ↦ ap chosen (le-leb (length p) 8 few) ∙ sym (padded_cipher_one enciphered (padded p) (omega (arith, length-padded p)))
    ]

-- the length that stands in a padded text
pub size_is : (text p : List ℕ) → length p ≤ 64 → text ≡ padded p
    → from_be_bytes w32 (slice_index text 4 ∷ slice_index text 5 ∷ slice_index text 6 ∷ slice_index text 7 ∷ []) ≡ length p
size_is text p most e =
    ap (λ (l : List ℕ). from_be_bytes w32 (slice_index l 4 ∷ slice_index l 5 ∷ slice_index l 6 ∷ slice_index l 7 ∷ [])) e
    ∙ from_be_bytes-to_be_bytes_4 (length p) (omega arith)

-- what stands after the plaintext
pub rest_is : (text p : List ℕ) (size : ℕ) → text ≡ padded p → size ≡ length p → drop (size + 8) text ≡ zeros (padding size)
rest_is text p size e same =
    ap (λ (n : ℕ). drop n text) (let k : size + 8 ≡ 8 + size = omega arith in k)
    ∙ sym (drop-drop size 8 text)
    ∙ ap (λ (l : List ℕ). drop size (drop 8 l)) e
    ∙ ap (λ (n : ℕ). drop n (p ++ zeros (padding (length p)))) same
    ∙ drop_at p (zeros (padding (length p))) (length p) refl
    ∙ ap (λ (n : ℕ). zeros (padding n)) (sym same)

pub padded-injective : (p q : List ℕ) → IsKwpPlain p → IsKwpPlain q → padded p ≡ padded q → p ≡ q
padded-injective p q hp hq e =
    let same : length p ≡ length q = sym (size_is (padded p) p hp.most refl) ∙ size_is (padded p) q hq.most e in
    sym (take_at p (zeros (padding (length p))) (length p) refl)
    ∙ ap (λ (l : List ℕ). take (length p) (drop 8 l)) e
    ∙ take_at q (zeros (padding (length q))) (length p) (sym same)

-- four bytes of a text
pub four_bytes : (text : List ℕ) → 8 ≤ length text
    → slice_index text 4 ∷ slice_index text 5 ∷ slice_index text 6 ∷ slice_index text 7 ∷ [] ≡ take 4 (drop 4 text)
four_bytes text long =
    let a = drop_more text 4 0 (omega arith) in
    let b = drop_more text 5 0 (omega arith) in
    let c = drop_more text 6 0 (omega arith) in
    let d = drop_more text 7 0 (omega arith) in
    sym (ap (take 4) (a ∙ ap (λ (l : List ℕ). slice_index text 4 ∷ l) (b ∙ ap (λ (l : List ℕ). slice_index text 5 ∷ l) (c ∙ ap (λ (l : List ℕ). slice_index text 6 ∷ l) d))))

-- a text with the check value, a length that fits it, and zeros after so many bytes is padded
pub is_padded : (text : List ℕ) (size : ℕ) → 16 ≤ length text → length text % 8 ≡ 0 → size + 8 ≤ length text → length text ≤ size + 15
    → take 4 text ≡ 0xa6 ∷ 0x59 ∷ 0x59 ∷ 0xa6 ∷ [] → to_be_bytes w32 size ≡ take 4 (drop 4 text)
    → drop (size + 8) text ≡ zeros (length text - 8 - size) → text ≡ padded (take size (drop 8 text))
is_padded text size least whole high low check number rest =
    let p : List ℕ = take size (drop 8 text) in
    let long : length p ≡ size = length-take-le size (drop 8 text) (omega (arith, length-drop 8 text)) in
    let header : take 8 text ≡ (0xa6 ∷ 0x59 ∷ 0x59 ∷ 0xa6 ∷ []) ++ to_be_bytes w32 size =
    sym (take-append-drop 4 (take 8 text))
    ∙ ap₂ (λ (u v : List ℕ). u ++ v) (take-take 4 8 text (omega arith) ∙ check) (drop-take 4 4 text ∙ sym number) in
    let after : drop size (drop 8 text) ≡ zeros (padding size) =
    drop-drop size 8 text
    ∙ ap (λ (n : ℕ). drop n text) (let e : 8 + size ≡ size + 8 = omega arith in e)
    ∙ rest ∙ ap zeros (let e : length text - 8 - size ≡ padding size = omega arith in e) in
    sym (take-append-drop 8 text)
    ∙ ap₂ (λ (u v : List ℕ). u ++ v) header (sym (take-append-drop size (drop 8 text)) ∙ ap (λ (l : List ℕ). p ++ l) after)
    ∙ ap (λ (n : ℕ). ((0xa6 ∷ 0x59 ∷ 0x59 ∷ 0xa6 ∷ []) ++ to_be_bytes w32 n) ++ (p ++ zeros (padding n))) (sym long)

-- zeros up to the end of the buffer serve as padding
refilled : (header p : List ℕ) (k : ℕ) → length header ≡ 8 → length p + k ≤ 72 → zero_padded 80 (header ++ p) ≡ zero_padded 80 (header ++ (p ++ zeros k))
refilled header p k eight fits =
    let front : List ℕ = header ++ p in
    let more : List ℕ = header ++ (p ++ zeros k) in
    let left : ℕ = 80 - length more in
    let count : 80 - length front ≡ k + left =
    omega (arith, length-append header p, length-append header (p ++ zeros k), length-append p (zeros k), length-zeros k) in
    ap (λ (n : ℕ). front ++ zeros n) count
    ∙ ap (λ (l : List ℕ). front ++ l) (sym (zeros-append-zeros k left))
    ∙ sym (append_assoc front (zeros k) (zeros left))
    ∙ ap (λ (l : List ℕ). l ++ zeros left) (append_assoc header p (zeros k))

-- the header of a plaintext before it
pub framed : (number p buf : List ℕ) → number ≡ to_be_bytes w32 (length p) → length p ≤ 64
    → buf ≡ zero_padded 80 ((0xa6 ∷ 0x59 ∷ 0x59 ∷ 0xa6 ∷ slice_index number 0 ∷ slice_index number 1 ∷ slice_index number 2 ∷ slice_index number 3 ∷ []) ++ p)
    → buf ≡ zero_padded 80 (padded p)
framed number p buf is few e =
    e
    ∙ ap (λ (l : List ℕ). zero_padded 80 ((0xa6 ∷ 0x59 ∷ 0x59 ∷ 0xa6 ∷ slice_index l 0 ∷ slice_index l 1 ∷ slice_index l 2 ∷ slice_index l 3 ∷ []) ++ p)) is
    ∙ refilled ((0xa6 ∷ 0x59 ∷ 0x59 ∷ 0xa6 ∷ []) ++ to_be_bytes w32 (length p)) p (padding (length p)) refl (omega arith)
