-- What the calls of an engine are given.
use Rattle.std.specs.Prelude.{◌≡◌, ℕ, ◌%◌, ◌≤◌, Bool, true, false, List, length, IsTrue}
use Rattle.bits_core.specs.ByteList.{IsBytes}
use Rattle.bits_core.specs.Parameters.{is_aes_length}

-- a key of AES: 16, 24 or 32 bytes
pub record IsAesKey (key : List ℕ) : Type 0 where
  pub fits : IsTrue (is_aes_length (length key))
  pub bytes : IsBytes key

-- the lengths of a plaintext that is wrapped, with padding or without
abbrev pub IsWrappable : Bool → ℕ → Type 0
IsWrappable true n = (1 ≤ n) × (n ≤ 64)
IsWrappable false n = (16 ≤ n) × (n ≤ 64) × (n % 8 ≡ 0)

-- the lengths of a wrapping
abbrev pub IsUnwrappable : Bool → ℕ → Type 0
IsUnwrappable true n = (16 ≤ n) × (n ≤ 72) × (n % 8 ≡ 0)
IsUnwrappable false n = (24 ≤ n) × (n ≤ 72) × (n % 8 ≡ 0)
