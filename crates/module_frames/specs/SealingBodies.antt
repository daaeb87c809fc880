-- The forms of the bodies that ask for authenticated encryption (SP 800-38D). No text or AAD is longer than a body may be.
use Rattle.std.specs.Prelude.{ℕ, ◌+◌, ◌-◌, ◌&&◌, nat_le, nat_lt, Bool, List, length, take, drop, slice_index, Option, Some, None, if◌then◌else◌}
use Rattle.bits_core.specs.declared.limits.TheConstants.{LARGEST_BODY}
use Rattle.module_frames.specs.RequestValues.{CryptographicRequest, RequestValue, Cryptographic, Seal, SealIv, Open}
use Rattle.module_frames.specs.SharedParts.{number_at}

-- a tag has 12 to 16 bytes (SP 800-38D, 5.2.1.2)
abbrev pub is_tag_length : ℕ → Bool
is_tag_length n = nat_le 12 n && nat_le n 16

-- an IV that a command brings has 1 to 255 bytes
abbrev pub is_iv_length : ℕ → Bool
is_iv_length n = nat_le 1 n && nat_le n 255

-- a body with a head of so many bytes at least, and of a command's length
abbrev pub has_head : ℕ → List ℕ → Bool
has_head n body = nat_le n (length body) && nat_le (length body) LARGEST_BODY

-- the AAD, of that length, and then the text
abbrev pub seal_with : ℕ → ℕ → ℕ → List ℕ → Option RequestValue
seal_with slot tag_length aad_length remainder =
    if nat_lt slot 16 && (is_tag_length tag_length && nat_le aad_length (length remainder))
    then Some (Cryptographic (Seal slot tag_length (take aad_length remainder) (drop aad_length remainder)))
    else None

-- slot and the tag's length in a byte each, the AAD's length in four bytes, then AAD and text
abbrev pub seal_of : List ℕ → Option RequestValue
seal_of body =
    if has_head 6 body
    then seal_with (slice_index body 0) (slice_index body 1) (number_at body 2) (drop 6 body)
    else None

-- the IV and the AAD, of these lengths, and then the text
abbrev pub seal_iv_with : ℕ → ℕ → ℕ → ℕ → List ℕ → Option RequestValue
seal_iv_with slot tag_length iv_length aad_length remainder =
    if nat_lt slot 16 && (is_tag_length tag_length && (is_iv_length iv_length && nat_le (iv_length + aad_length) (length remainder)))
    then Some (Cryptographic (SealIv slot tag_length (take iv_length remainder)
    (take aad_length (drop iv_length remainder)) (drop aad_length (drop iv_length remainder))))
    else None

-- slot, the tag's length and the IV's in a byte each, the AAD's length in four bytes, then IV, AAD and text
abbrev pub seal_iv_of : List ℕ → Option RequestValue
seal_iv_of body =
    if has_head 7 body
    then seal_iv_with (slice_index body 0) (slice_index body 1) (slice_index body 2) (number_at body 3) (drop 7 body)
    else None

-- the ciphertext, and behind it a tag of that length
abbrev pub opened : ℕ → ℕ → List ℕ → List ℕ → List ℕ → CryptographicRequest
opened slot tag_length iv aad behind = Open slot iv aad (take (length behind - tag_length) behind) (drop (length behind - tag_length) behind)

-- the IV and the AAD, of these lengths, then the ciphertext, and a tag of its length at the end
abbrev pub open_with : ℕ → ℕ → ℕ → ℕ → List ℕ → Option RequestValue
open_with slot tag_length iv_length aad_length remainder =
    if nat_lt slot 16 && (is_tag_length tag_length && (is_iv_length iv_length && nat_le (iv_length + aad_length + tag_length) (length remainder)))
    then Some (Cryptographic (opened slot tag_length (take iv_length remainder)
    (take aad_length (drop iv_length remainder)) (drop aad_length (drop iv_length remainder))))
    else None

-- slot, the tag's length and the IV's in a byte each, the AAD's length in four bytes, then IV, AAD, ciphertext and tag
abbrev pub open_of : List ℕ → Option RequestValue
open_of body =
    if has_head 7 body
    then open_with (slice_index body 0) (slice_index body 1) (slice_index body 2) (number_at body 3) (drop 7 body)
    else None
