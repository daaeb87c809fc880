-- What the calls of an engine answer, where that is more than one list of bytes.
use Rattle.std.specs.Prelude.{◌≡◌, ℕ, ◌+◌, ◌*◌, ◌/◌, ◌≤◌, Bool, true, false, if◌then◌else◌, List, length, Option}
use Rattle.bits_core.specs.ByteList.{IsBytes}
use Rattle.drbg_core.specs.declared.generator.Drbg.{Drbg}

-- what opening leaves: whether the tag was right, and the text
pub record Opened : Type 0 where
  pub authentic : Bool
  pub text : List ℕ

-- what wrapping leaves: the length of the wrapping, and the 80 bytes that it was made in
pub record Wrapped : Type 0 where
  pub size : ℕ
  pub buf : List ℕ

-- what unwrapping leaves: the length of the plaintext, if there is one, and the 80 bytes that it was made in
pub record Unwrapped : Type 0 where
  pub size : Option ℕ
  pub buf : List ℕ

-- the length of the wrapping of n bytes: 8 more, with padding after they were filled up to a multiple of 8
abbrev pub wrapped_length : Bool → ℕ → ℕ
wrapped_length pad n = if pad then 8 * ((n + 7) / 8) + 8 else n + 8

-- a length that unwrapping n bytes may answer
abbrev pub IsUnwrappedLength : Bool → ℕ → ℕ → Type 0
IsUnwrappedLength true n size = (1 ≤ size) × (size + 8 ≤ n)
IsUnwrappedLength false n size = size + 8 ≡ n

-- so many bytes
pub record AreBytes (n : ℕ) (bytes : List ℕ) : Type 0 where
  pub long : length bytes ≡ n
  pub small : IsBytes bytes

-- the key and the value of a generator are 32 bytes each
pub record IsGenerator (g : Drbg) : Type 0 where
  pub key : AreBytes 32 g.k
  pub value : AreBytes 32 g.v
