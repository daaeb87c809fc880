-- Sequence numbers are read in one way.
use Rattle.std.proofs.Common.{◌≡◌, ◌<◌, ◌+◌, ◌^◌, ◌++◌, ℕ, List, Option, None, Some, length, take, drop, refl, sym, ◌∙◌, ap, arith}
use Rattle.std.specs.Int.{to_be_bytes, from_be_bytes, w32}
use Rattle.std.proofs.lemmas.Nat.{from_be_bytes-to_be_bytes_4}
use Rattle.module_frames.specs.CommandFrames.{version_of, sequence_bytes, IsSequence}

-- four bytes are those of one number
pub same_number : (m n : ℕ) → m < 2 ^ 32 → n < 2 ^ 32 → to_be_bytes w32 m ≡ to_be_bytes w32 n → m ≡ n
same_number m n hm hn e = sym (from_be_bytes-to_be_bytes_4 m hm) ∙ ap (λ xs. from_be_bytes w32 xs) e ∙ from_be_bytes-to_be_bytes_4 n hn

-- version and bytes tell the sequence number, and where it ends
pub same_sequence : (s t : Option ℕ) (xs ys : List ℕ) → IsSequence s → IsSequence t → version_of s ≡ version_of t
    → sequence_bytes s ++ xs ≡ sequence_bytes t ++ ys → (s ≡ t) × (xs ≡ ys)
same_sequence None None xs ys hs ht v e = (refl, e)
same_sequence None (Some n) xs ys hs ht v e = absurd (omega (arith, v))
same_sequence (Some m) None xs ys hs ht v e = absurd (omega (arith, v))
same_sequence (Some m) (Some n) xs ys hs ht v e =
    (ap (λ (k : ℕ). Some k) (same_number m n hs ht (ap (λ zs. take 4 zs) e)), ap (λ zs. drop 4 zs) e)

-- how long the header of a command with this sequence number is
abbrev pub header_of : Option ℕ → ℕ
header_of None = 8
header_of (Some number) = 12

pub length-sequence_bytes : (sequence : Option ℕ) → 8 + length (sequence_bytes sequence) ≡ header_of sequence
length-sequence_bytes None = refl
length-sequence_bytes (Some number) = refl
