-- What is done with a source of noise, explained by the events that it gave.
use Rattle.std.specs.Prelude.{◌≡◌, ◌++◌, List, Option, Some}
use Rattle.outside.specs.declared.traits.Sample.{Sample}

-- Explains says that something is so where these events were left before and those are left after.
-- Where the source told its events, it is so for them and for those that it tells now. Of any source it is so for some events that it
-- gave, whatever events follow.
pub record Explained (before now : Option (List Sample)) (Explains : List Sample → List Sample → Type 0) : Type 0 where
  pub told : (events : List Sample) → before ≡ Some events → (left : List Sample) × (now ≡ Some left) × Explains events left
  pub some : (given : List Sample) × ((later : List Sample) → Explains (given ++ later) later)
