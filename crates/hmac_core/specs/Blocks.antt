-- Output that is made block by block, as a generator and a key derivation make it.
use Rattle.std.specs.Prelude.{ℕ, zero, suc, List, [], ◌++◌}

-- the blocks 1, 2, .. n joined
unfoldable pub joined : (ℕ → List ℕ) → ℕ → List ℕ
joined block zero = []
joined block (suc n) = joined block n ++ block (suc n)
