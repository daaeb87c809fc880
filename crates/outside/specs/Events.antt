use Rattle.std.specs.Prelude.{◌≡◌, List, [], ◌∷◌, Option, Some, IfSome}
use Rattle.outside.specs.declared.traits.Sample.{Sample}
use Rattle.outside.specs.declared.traits.Sample.TheVariants as sample

-- what a noise source with these events left answers
abbrev pub next_event : List Sample → Sample
next_event [] = sample.Ended
next_event (event ∷ rest) = event

-- the events left after that answer
abbrev pub events_after : List Sample → List Sample
events_after [] = []
events_after (event ∷ rest) = rest

-- where the events are told, the first of them was taken and answered
abbrev pub TakesEvent : Option (List Sample) → Sample → Option (List Sample) → Type 0
TakesEvent before answer now = IfSome before (λ events. (answer ≡ next_event events) × (now ≡ Some (events_after events)))
