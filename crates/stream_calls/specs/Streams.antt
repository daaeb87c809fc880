-- What a source and a sink tell.
use Rattle.std.specs.Prelude.{◌≡◌, ℕ, List, Option, IfSome}

-- what is left of the source and what the sink gained, as far as they tell
pub record Streams : Type 0 where
  pub left : Option (List ℕ)
  pub gained : Option (List ℕ)

-- where a content is told, these bytes are all of it
abbrev pub IsAllOf : List ℕ → Option (List ℕ) → Type 0
IsAllOf taken content = IfSome content (λ all. all ≡ taken)
