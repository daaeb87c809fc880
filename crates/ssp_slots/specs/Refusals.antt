-- When a call on a slot is refused: the faults in the order in which they are looked for, each beside its test. The rules and their
-- order are this project's own.
use Rattle.std.specs.Prelude.{◌≡◌, Bool, not, ◌&&◌, ◌==◌, if◌then◌else◌, Option, Some, None, List, [], ◌∷◌, is_some, ⊤, Result, MatchResult}
use Rattle.bits_core.specs.declared.parameter.Header.{Header}
use Rattle.bits_core.specs.declared.parameter.Kind.{Kind}
use Rattle.bits_core.specs.declared.parameter.Domain.{Domain}
use Rattle.bits_core.specs.declared.parameter.Domain.TheVariants.{Approved}
use Rattle.bits_core.specs.Parameters.{kind_number, domain_number}
use Rattle.ssp_slots.specs.declared.slot_fault.SlotFault.{SlotFault}
use Rattle.ssp_slots.specs.declared.slot_fault.SlotFault.TheVariants.{EmptySlot, WrongKind, WrongDomain, Spent, OccupiedSlot, NotExportable}

-- the first fault whose test is true
abbrev pub first_refusal : List (Bool × SlotFault) → Option SlotFault
first_refusal [] = None
first_refusal ((applies, fault) ∷ later) = if applies then Some fault else first_refusal later

abbrev pub is_kind : Kind → Kind → Bool
is_kind a b = kind_number a == kind_number b

abbrev pub is_domain : Domain → Domain → Bool
is_domain a b = domain_number a == domain_number b

-- a slot that is to be filled: it is full
abbrev pub vacancy_fault : Option Header → Option SlotFault
vacancy_fault header = first_refusal ((is_some header, OccupiedSlot) ∷ [])

-- a slot that is to be used for a kind of service: it is empty; it is of another kind; it is approved
-- and the service isn't; it has no use left
abbrev pub source_fault : Option Header → Kind → Bool → Option SlotFault
source_fault None kind approved = Some EmptySlot
source_fault (Some header) kind approved =
    first_refusal (
    (not (is_kind header.kind kind), WrongKind)
    ∷ (is_domain header.domain Approved && not approved, WrongDomain)
    ∷ (header.uses == 0, Spent)
    ∷ []
    )

-- a slot whose parameter is to leave the module wrapped by a key of a domain: it is empty; it may not
-- leave; its domain is another
abbrev pub export_fault : Option Header → Domain → Option SlotFault
export_fault None domain = Some EmptySlot
export_fault (Some header) domain =
    first_refusal ((not header.export, NotExportable) ∷ (not (is_domain header.domain domain), WrongDomain) ∷ [])

-- the answer is Ok where there is no fault, and else the fault
abbrev pub Answers : Result ⊤ SlotFault → Option SlotFault → Type 0
Answers result fault = MatchResult result (λ _. fault ≡ None) (λ refused. fault ≡ Some refused)
