-- Fields that the bodies of several services share.
use Rattle.std.specs.Prelude.{ℕ, ◌≢◌, ◌≤◌, ◌<◌, ◌+◌, ◌==◌, ◌&&◌, not, nat_le, nat_lt, List, [], ◌∷◌, length, slice_index, Option, Some, None, IsTrue, if◌then◌else◌}
use Rattle.std.specs.Int.{from_be_bytes, w32}
use Rattle.bits_core.specs.declared.parameter.Kind.{Kind}
use Rattle.bits_core.specs.declared.parameter.Domain.{Domain}
use Rattle.bits_core.specs.Parameters.{kind_of, domain_of, length_fits}
use Rattle.module_frames.specs.declared.shared_parts.NewParameter.{NewParameter}
use Rattle.module_frames.specs.declared.shared_parts.Target.{Target}

-- the number in the four bytes from a place on
abbrev pub number_at : List ℕ → ℕ → ℕ
number_at body place =
    from_be_bytes w32 (slice_index body place ∷ slice_index body (place + 1) ∷ slice_index body (place + 2) ∷ slice_index body (place + 3) ∷ [])

-- a parameter of known kind and domain: a slot below 16, a flag, at least one use, and a length that fits
abbrev pub new_parameter_with : ℕ → Option Kind → Option Domain → ℕ → ℕ → ℕ → Option NewParameter
new_parameter_with slot (Some kind) (Some domain) export uses long =
    if nat_lt slot 16 && (nat_le export 1 && (nat_le 1 uses && length_fits kind domain long))
    then Some (record { slot = slot; header = record { kind = kind; domain = domain; export = export == 1; uses = uses }; length = long })
    else None
new_parameter_with slot None domain export uses long = None
new_parameter_with slot (Some kind) None export uses long = None

-- slot, kind, domain and export flag in a byte each, uses in four bytes, length in a byte
abbrev pub new_parameter_of : List ℕ → Option NewParameter
new_parameter_of body =
    if length body == 9
    then new_parameter_with (slice_index body 0) (kind_of (slice_index body 1)) (domain_of (slice_index body 2)) (slice_index body 3) (number_at body 4) (slice_index body 8)
    else None

abbrev pub IsNewParameterInRange : NewParameter → Type 0
IsNewParameterInRange new = (new.slot < 16) × (1 ≤ new.header.uses) × IsTrue (length_fits new.header.kind new.header.domain new.length)

-- a slot below 16 to be filled from another one, with a parameter of known kind; a flag, and at least one use
abbrev pub target_with : ℕ → ℕ → Option Kind → ℕ → ℕ → Option Target
target_with source slot (Some kind) export uses =
    if nat_lt source 16 && (nat_lt slot 16 && (not (source == slot) && (nat_le export 1 && nat_le 1 uses)))
    then Some (record { source = source; slot = slot; kind = kind; export = export == 1; uses = uses })
    else None
target_with source slot None export uses = None

-- at the front of a body: the slot that it is made from, slot, kind and export flag in a byte each, uses in four bytes
abbrev pub target_of : List ℕ → Option Target
target_of body =
    if nat_le 8 (length body)
    then target_with (slice_index body 0) (slice_index body 1) (kind_of (slice_index body 2)) (slice_index body 3) (number_at body 4)
    else None

abbrev pub IsTargetInRange : Target → Type 0
IsTargetInRange target = (target.source < 16) × (target.slot < 16) × (target.source ≢ target.slot) × (1 ≤ target.uses)
