-- Key derivation in counter mode (SP 800-108 Rev. 1, 4.1), with HMAC-SHA-256, and a counter and a
-- length of 32 bits each.
use Rattle.std.specs.Prelude.{ℕ, ◌+◌, ◌*◌, ◌/◌, List, ◌∷◌, ◌++◌, take}
use Rattle.std.specs.Int.{w32, to_be_bytes}
use Rattle.bits_core.specs.declared.algorithm.Alg.TheVariants.{Sha256}
use Rattle.hmac_core.specs.Blocks.{joined}
use Rattle.hmac_core.specs.Hmac.{hmac}

-- the fixed input: label || 00 || context || [L], where L is the output's length in bits
abbrev pub fixed_input : List ℕ → List ℕ → ℕ → List ℕ
fixed_input label context bits = label ++ 0 ∷ context ++ to_be_bytes w32 bits

-- K(i) = HMAC(key, [i] || fixed input)
unfoldable pub key_block : List ℕ → List ℕ → ℕ → List ℕ
key_block key fixed i = hmac Sha256 key (to_be_bytes w32 i ++ fixed)

-- the leftmost n bytes of K(1), K(2), .. joined
unfoldable pub kbkdf_counter : List ℕ → List ℕ → List ℕ → ℕ → List ℕ
kbkdf_counter key label context n =
    take n (joined (key_block key (fixed_input label context (8 * n))) ((n + 31) / 32))
