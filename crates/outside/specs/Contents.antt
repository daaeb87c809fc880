use Rattle.std.specs.Prelude.{◌≡◌, ◌++◌, ℕ, List, [], Option, Some, IfSome}

-- where a content is told, these bytes went from its front
abbrev pub Consumes : Option (List ℕ) → List ℕ → Option (List ℕ) → Type 0
Consumes before taken now = IfSome before (λ all. (rest : List ℕ) × (all ≡ taken ++ rest) × (now ≡ Some rest))

-- where a content is told, these bytes came to its end
abbrev pub Appends : Option (List ℕ) → List ℕ → Option (List ℕ) → Type 0
Appends before piece now = IfSome before (λ all. now ≡ Some (all ++ piece))

-- where a content is told, nothing is left of it
abbrev pub IsAtEnd : Option (List ℕ) → Type 0
IsAtEnd content = IfSome content (λ all. all ≡ [])
