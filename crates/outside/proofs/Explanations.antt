-- Explanations by events compose.
use Rattle.std.proofs.Common.{◌≡◌, ◌++◌, List, [], Option, Some, append_assoc, sym, subst, refl}
use Rattle.outside.specs.declared.traits.Sample.{Sample}
use Rattle.outside.specs.Explained.{Explained}

-- nothing was taken
pub explained_none : (before : Option (List Sample)) (P : List Sample → List Sample → Type 0) → ((events : List Sample) → P events events) → Explained before before P
explained_none before P holds = record { told = λ events is. (events, is, holds events); some = ([], λ later. holds later) }

-- one thing and then another
pub explained_both : {a b c : Option (List Sample)} (P Q R : List Sample → List Sample → Type 0) → Explained a b P → Explained b c Q
    → ((events mid left : List Sample) → P events mid → Q mid left → R events left) → Explained a c R
explained_both {a} {b} {c} P Q R first second both = record {
  told = λ events is.
      let one = first.told events is in
      let two = second.told one.0 one.1 in
      (two.0, two.1, both events one.0 two.0 one.2 two.2);
  some = (
    first.some.0 ++ second.some.0,
    λ later.
        let one : P (first.some.0 ++ (second.some.0 ++ later)) (second.some.0 ++ later) = first.some.1 (second.some.0 ++ later) in
        subst (λ events. R events later) (sym (append_assoc first.some.0 second.some.0 later))
        (both (first.some.0 ++ (second.some.0 ++ later)) (second.some.0 ++ later) later one (second.some.1 later)),
  );
}

-- what follows is explained too
pub explained_by : {a b : Option (List Sample)} (P Q : List Sample → List Sample → Type 0) → Explained a b P → ((events left : List Sample) → P events left → Q events left) → Explained a b Q
explained_by P Q first follows = record {
  told = λ events is. let one = first.told events is in (one.0, one.1, follows events one.0 one.2);
  some = (first.some.0, λ later. follows (first.some.0 ++ later) later (first.some.1 later));
}
