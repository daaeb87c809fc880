-- The two keys of a backup, in one sequence of bytes (a form of this project's own).
use Rattle.std.specs.Prelude.{◌≡◌, ℕ, List, length, take, drop}
use Rattle.bits_core.specs.ByteList.{IsBytes}
use Rattle.backup_runs.specs.declared.limits.TheConstants.{KEYS_LENGTH}

-- the first 32 bytes are the key-encryption key
abbrev pub kek_of : List ℕ → List ℕ
kek_of keys = take 32 keys

-- the 32 bytes behind it are the MAC key
abbrev pub mac_of : List ℕ → List ℕ
mac_of keys = take 32 (drop 32 keys)

-- the bytes are two such keys
pub record AreKeys (keys : List ℕ) : Type 0 where
  pub bytes : IsBytes keys
  pub long : length keys ≡ KEYS_LENGTH
