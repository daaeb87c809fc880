-- Bytes as the standards print them.
use Rattle.std.specs.Prelude.{ℕ, zero, suc, ◌/◌, ◌%◌, ◌^◌, List, [], ◌∷◌}

-- the n bytes of a number, the highest first
unfoldable pub bytes : ℕ → ℕ → List ℕ
bytes zero number = []
bytes (suc n) number = (number / 256 ^ n % 256) ∷ bytes n number
