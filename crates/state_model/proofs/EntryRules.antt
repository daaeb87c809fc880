-- What keeps an entry underway.
use Rattle.std.proofs.Common.{◌≡◌, ◌≤◌, ◌<◌, ◌^◌, ◌+◌, ◌∙◌, ◌++◌, ℕ, List, Bool, true, false, Option, Some, None, length, refl, arith, if◌then◌else◌, take, drop}
use Rattle.std.specs.Prelude.{nat_le, IsTrue, MatchOption, IfSome}
use Rattle.std.specs.Option.{option_map_or}
use Rattle.std.proofs.lemmas.Bool.Decides.{nat_tests}
use Rattle.bits_core.specs.ByteList.{IsBytes}
use Rattle.bits_core.specs.Parameters.{length_fits}
use Rattle.bits_core.proofs.Bytes.{IsBytes-append, IsBytes-take, IsBytes-drop, IsBytes-zeros}
use Rattle.service_table.specs.declared.status.Status.TheVariants as status
use Rattle.outside.specs.declared.traits.Sample.{Sample}
use Rattle.module_frames.specs.PublicState.{no_block}
use Rattle.module_frames.proofs.Zeros.{rest_zero, put_keeps_length}
use Rattle.ssp_slots.proofs.WellFormedSlots.{length_fits-le}
use Rattle.state_model.specs.declared.entry.Entry.{Entry}
use Rattle.state_model.specs.declared.entry.Target.{Target}
use Rattle.state_model.specs.Entries.{begun_entry, with_piece, entry_length, IsEntered, IsUnderway}
use Rattle.state_model.specs.MachineState.{MachineState}
use Rattle.state_model.specs.Management.{refused, done, entry_bytes}

-- an entry begins
pub underway_begun : (target : Target) → target.slot < 16 → 1 ≤ target.header.uses → target.header.uses < 2 ^ 32
    → IsTrue (length_fits target.header.kind target.header.domain target.length) → IsUnderway (begun_entry target)
underway_begun target slot uses width fits =
    record { slot = slot; fits = fits; uses = uses; uses_width = width; within = omega arith; room = refl; byte_values = IsBytes-zeros 64; unused = refl }

-- an entry goes on with a piece that doesn't pass its length
pub underway_with_piece : (entry : Entry) (piece : List ℕ) → IsBytes piece → IsUnderway entry → entry.filled + length piece ≤ entry_length entry → IsUnderway (with_piece entry piece)
underway_with_piece entry piece are_bytes underway fits = underway_for entry.target underway fits
  where
    underway_for : (target : Option Target) → MatchOption target ⊥ (λ t. IsEntered t entry) → entry.filled + length piece ≤ option_map_or (λ t. t.length) target 0
        → MatchOption target ⊥ (λ t. IsEntered t (with_piece entry piece))
    underway_for None none fits = none
    underway_for (Some target) entered fits =
        let small = length_fits-le target.header.kind target.header.domain target.length entered.fits in
        record {
          slot = entered.slot;
          fits = entered.fits;
          uses = entered.uses;
          uses_width = entered.uses_width;
          within = fits;
          room = put_keeps_length entry.bytes piece entry.filled (omega (arith, fits, small, entered.room)) ∙ entered.room;
          byte_values = IsBytes-append (take entry.filled entry.bytes) (piece ++ drop (entry.filled + length piece) entry.bytes)
              (IsBytes-take entry.filled entry.bytes entered.byte_values)
              (IsBytes-append piece (drop (entry.filled + length piece) entry.bytes) are_bytes (IsBytes-drop (entry.filled + length piece) entry.bytes entered.byte_values));
          unused = rest_zero entry.bytes piece entry.filled 64 (omega (arith, entered.within, small, entered.room)) entered.unused;
        }

-- an entry that is underway has no more bytes than its parameter
pub underway_within : (entry : Entry) → IsUnderway entry → entry.filled ≤ entry_length entry
underway_within entry underway = within_for entry.target underway
  where
    within_for : (target : Option Target) → MatchOption target ⊥ (λ t. IsEntered t entry) → entry.filled ≤ option_map_or (λ t. t.length) target 0
    within_for None none = absurd none
    within_for (Some target) entered = entered.within

-- its target, and its bytes
pub underway_target : (entry : Entry) → IsUnderway entry → IfSome entry.target (λ t. IsEntered t entry)
underway_target entry underway = target_for entry.target underway
  where
    target_for : (target : Option Target) → MatchOption target ⊥ (λ t. IsEntered t entry) → IfSome target (λ t. IsEntered t entry)
    target_for None none = tt
    target_for (Some target) is_entered = is_entered

-- a piece that doesn't pass the length is appended
pub entry_bytes_fits : {V : Type 0} (s : MachineState V) (piece : List ℕ) (events : List Sample) → s.entry.filled + length piece ≤ entry_length s.entry
    → done (record s { entry = with_piece s.entry piece }) no_block events ≡ entry_bytes s piece events
entry_bytes_fits s piece events fits = chosen (nat_le (s.entry.filled + length piece) (entry_length s.entry)) refl
  where
    chosen : (good : Bool) → nat_le (s.entry.filled + length piece) (entry_length s.entry) ≡ good
        → done (record s { entry = with_piece s.entry piece }) no_block events
        ≡ (if good then done (record s { entry = with_piece s.entry piece }) no_block events else refused s status.BadLength events)
    chosen true h = refl
    chosen false h = absurd (grind (arith, nat_tests, h, fits))
