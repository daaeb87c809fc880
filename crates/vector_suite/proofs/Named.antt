-- The first kind that has a name.
use Rattle.std.proofs.Common.{◌≡◌, ◌<◌, ◌+◌, ℕ, suc, Bool, false, if◌then◌else◌, List, [], ◌∷◌, length, drop, get_or, Option, Some, bytes_eq, refl, ap, ◌∙◌, add-one, sym}
use Rattle.std.proofs.Math.Seq.{drop-cons}
use Rattle.vector_suite.specs.Kinds.{name_of, first_named}
use Rattle.vector_suite.specs.declared.kind.Kind.{Kind}

-- a kind that hasn't the name is passed over
pub passed_over : (name : List ℕ) (kinds : List Kind) (place : ℕ) (d : Kind) → place < length kinds → bytes_eq name (name_of (get_or kinds place d)) ≡ false
    → first_named name (drop place kinds) ≡ first_named name (drop (place + 1) kinds)
passed_over name kinds place d within other =
    ap (first_named name) (drop-cons kinds place d within)
    ∙ ap (λ (is : Bool). if is then Some (get_or kinds place d) else first_named name (drop (suc place) kinds)) other
    ∙ ap (λ (n : ℕ). first_named name (drop n kinds)) (sym (add-one place))

pub next_kind : (name shown : List ℕ) (kinds : List Kind) (place : ℕ) (d : Kind) (equal : Bool) → place < length kinds → shown ≡ name_of (get_or kinds place d)
    → equal ≡ bytes_eq name shown → equal ≡ false → first_named name (drop place kinds) ≡ first_named name (drop (place + 1) kinds)
next_kind name shown kinds place d equal within is tested other =
    passed_over name kinds place d within (ap (bytes_eq name) (sym is) ∙ sym tested ∙ other)
