use Rattle.std.proofs.Common.{◌≤◌, ◌++◌, ℕ, List, [], Option, Some, None, append_assoc, append-nil, sym, refl, ◌∙◌, ap, arith}
use Rattle.outside.specs.Contents.{Appends, Consumes}
use Rattle.outside.specs.Faults.{FaultCounted}

-- What callers need that call more than once.

pub consumes_none : (content : Option (List ℕ)) → Consumes content [] content
consumes_none None = tt
consumes_none (Some all) = (all, refl, refl)

pub consumes_both : (before between now : Option (List ℕ)) (first second : List ℕ)
    → Consumes before first between → Consumes between second now → Consumes before (first ++ second) now
consumes_both None between now first second one two = tt
consumes_both (Some all) between now first second one two =
    let more = rw one.2 at two in
    (more.0, one.1 ∙ ap (λ xs. first ++ xs) more.1 ∙ sym (append_assoc first second more.0), more.2)

pub appends_none : (content : Option (List ℕ)) → Appends content [] content
appends_none None = tt
appends_none (Some all) = ap (λ xs. Some xs) (sym (append-nil all))

pub appends_both : (before between now : Option (List ℕ)) (first second : List ℕ)
    → Appends before first between → Appends between second now → Appends before (first ++ second) now
appends_both None between now first second one two = tt
appends_both (Some all) between now first second one two = rw one at two ∙ ap (λ xs. Some xs) (append_assoc all first second)

-- a count that rose in the second of two calls, or in the first, rose in both together
pub fault_counted_second : (before between now : ℕ) → before ≤ between → FaultCounted between now → FaultCounted before now
fault_counted_second before between now kept fault_counted = omega (arith, kept, fault_counted)

pub fault_counted_first : (before between now : ℕ) → FaultCounted before between → between ≤ now → FaultCounted before now
fault_counted_first before between now fault_counted kept = omega (arith, kept, fault_counted)
