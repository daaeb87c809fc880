-- The lengths that the parts of a vector may have, in bytes (limits of this project's own, and those of the standards' functions).
use Rattle.std.specs.Prelude.{ℕ, ◌%◌, ◌==◌, ◌&&◌, nat_le, Bool, true, false, List, length}
use Rattle.bits_core.specs.Parameters.{is_aes_length}
use Rattle.bits_core.specs.declared.limits.TheConstants.{LARGEST_PAYLOAD}
use Rattle.vector_suite.specs.declared.vector.Vector.{Vector}
use Rattle.vector_suite.specs.declared.vector.Vector.TheVariants as vector

abbrev pub is_within : ℕ → ℕ → ℕ → Bool
is_within low high n = nat_le low n && nat_le n high

-- of a text that is wrapped, with padding or without
abbrev pub is_wrappable : Bool → ℕ → Bool
is_wrappable true n = is_within 1 64 n
is_wrappable false n = is_within 16 64 n && n % 8 == 0

-- of a wrapping
abbrev pub is_unwrappable : Bool → ℕ → Bool
is_unwrappable true n = is_within 16 72 n && n % 8 == 0
is_unwrappable false n = is_within 24 72 n && n % 8 == 0

-- of a key, an IV, additional data, a text and a tag of GCM
abbrev pub are_sealable : ℕ → ℕ → ℕ → ℕ → ℕ → Bool
are_sealable key iv aad text tag =
    is_aes_length key && is_within 1 255 iv && nat_le aad LARGEST_PAYLOAD && nat_le text LARGEST_PAYLOAD && is_within 12 16 tag

-- of a label, a context and what is derived
abbrev pub are_derivable : ℕ → ℕ → ℕ → Bool
are_derivable label context out = nat_le label 255 && nat_le context 255 && is_within 1 65536 out

-- each part has a length that it may have
abbrev pub has_allowed_lengths : Vector → Bool
has_allowed_lengths (vector.Hash alg text out) = true
has_allowed_lengths (vector.Mac alg key text out) = true
has_allowed_lengths (vector.Seal key iv aad text out tag) = are_sealable (length key) (length iv) (length aad) (length text) (length tag)
has_allowed_lengths (vector.Open key iv aad text tag out) = are_sealable (length key) (length iv) (length aad) (length text) (length tag)
has_allowed_lengths (vector.Wrap pad key text out) = is_aes_length (length key) && is_wrappable pad (length text)
has_allowed_lengths (vector.Unwrap pad key text out) = is_aes_length (length key) && is_unwrappable pad (length text)
has_allowed_lengths (vector.Derive key label context out) = are_derivable (length label) (length context) (length out)
has_allowed_lengths (vector.Drbg entropy nonce personal out) = is_within 1 65536 (length out)
has_allowed_lengths (vector.Cmac key text out) = is_aes_length (length key)
has_allowed_lengths (vector.CmacKdf mode key label context out) = is_aes_length (length key) && are_derivable (length label) (length context) (length out)
