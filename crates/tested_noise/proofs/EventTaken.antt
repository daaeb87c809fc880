-- What one event of the noise explains.
use Rattle.std.proofs.Common.{◌≡◌, List, [], ◌∷◌, Option, Some, None, refl, sym, subst}
use Rattle.outside.specs.declared.traits.Sample.{Sample}
use Rattle.outside.specs.Events.{next_event, events_after, TakesEvent}
use Rattle.outside.specs.Explained.{Explained}

-- the answer is the first event, and what it brings holds
told : (before now : Option (List Sample)) (answer : Sample) (P : List Sample → List Sample → Type 0) → TakesEvent before answer now
    → ((events : List Sample) → next_event events ≡ answer → P events (events_after events))
    → (events : List Sample) → before ≡ Some events → (left : List Sample) × (now ≡ Some left) × P events left
told before now answer P taken holds events is =
    let first : TakesEvent (Some events) answer now = subst (λ content. TakesEvent content answer now) is taken in
    (events_after events, first.1, holds events (sym first.0))

pub explained_event : (before now : Option (List Sample)) (answer : Sample) (P : List Sample → List Sample → Type 0) → TakesEvent before answer now
    → ((events : List Sample) → next_event events ≡ answer → P events (events_after events)) → Explained before now P
explained_event before now answer P taken holds = record {
  told = λ events is. told before now answer P taken holds events is;
  some = (answer ∷ [], λ later. holds (answer ∷ later) refl);
}
