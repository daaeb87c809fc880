-- From what restoring leaves to its run, which is one.
use Rattle.std.proofs.Common.{◌≡◌, ◌≢◌, ◌+◌, ◌++◌, ◌≤◌, ℕ, suc, List, [], ◌∷◌, Some, refl, sym, ◌∙◌, ap, subst, length, take, length-take, append-nil, slice_index_or, arith}
use Rattle.std.specs.Prelude.{Result, Ok, Err, drop}
use Rattle.bits_core.specs.ByteList.{IsBytes}
use Rattle.bits_core.proofs.Bytes.{IsBytes-take}
use Rattle.outside.specs.declared.traits.Sample.{Sample}
use Rattle.engine_core.specs.Calls.{Calls}
use Rattle.ssp_slots.specs.declared.slot.Slot.{Slot}
use Rattle.ssp_slots.specs.Slots.{Contents, empty_slot}
use Rattle.state_model.specs.Copies.{restored_state}
use Rattle.state_model.specs.ModuleView.{ModuleView}
use Rattle.state_model.specs.MachineState.{MachineState, vault_of}
use Rattle.stream_calls.specs.Streams.{Streams}
use Rattle.vault_backup.specs.Laws.{IsKey}
use Rattle.vault_backup.specs.declared.restore_fault.RestoreFault.{RestoreFault}
use Rattle.vault_backup.proofs.RestoreLaws.{answers_one_way}
use Rattle.line_serving.specs.declared.operating.Operated.{Operated}
use Rattle.line_serving.specs.declared.operating.Operated.TheVariants as operated
use Rattle.line_serving.specs.Operating.{RunsLines}
use Rattle.line_serving.proofs.LineRuns.{lines_of, one_lines}
use Rattle.backup_runs.specs.declared.restoring.Restored.{Restored}
use Rattle.backup_runs.specs.declared.restoring.Restored.TheVariants as restored
use Rattle.backup_runs.specs.Restoring.{IsRestoredTo, IsRefusedAt, BeginsRestored, RunsRestored, RestoresAndOperates, as_officer}
use Rattle.backup_runs.specs.TwoKeys.{kek_of, mac_of}

-- where no call failed, what restoring and operating leaves is its run
pub restored_run : {V : Type 0} (calls : Calls V) (keys backup : List ℕ) (s : MachineState V) (events : List Sample) (answer : Restored) (chunk : ℕ) (m : ModuleView V) (bytes before : List ℕ) (left : List Sample) (after : Streams)
    → RestoresAndOperates calls answer chunk keys backup s m (record { left = Some bytes; gained = Some before }) after events left → answer ≢ restored.Operated operated.ReadFault → answer ≢ restored.Operated operated.WriteFault
    → (out : List ℕ) × RunsRestored calls keys backup s events bytes answer out × (after.gained ≡ Some (before ++ out))
restored_run calls keys backup s events restored.NotOfficer chunk m bytes before left after (other, stops) no_read no_write =
    ([], (other, refl), ap (λ (x : Streams). x.gained) stops.untouched ∙ ap (λ (xs : List ℕ). Some xs) (sym (append-nil before)))
restored_run calls keys backup s events restored.Refused chunk m bytes before left after (officer, refused, stops) no_read no_write =
    ([], (officer, refused, refl), ap (λ (x : Streams). x.gained) stops.untouched ∙ ap (λ (xs : List ℕ). Some xs) (sym (append-nil before)))
restored_run calls keys backup s events (restored.Operated answer) chunk m bytes before left after (t, mid, begins, operates) no_read no_write =
    let (out, runs, gained) = lines_of calls t mid answer chunk m bytes before left after operates (λ e. no_read (ap (λ a. restored.Operated a) e)) (λ e. no_write (ap (λ a. restored.Operated a) e)) in
    (out, (t, mid, begins, runs), gained)

-- slots of one number that agree at each place
same_slots : (xs ys : List Slot) → length xs ≡ length ys → ((i : ℕ) → slice_index_or xs i empty_slot ≡ slice_index_or ys i empty_slot) → xs ≡ ys
same_slots [] [] long each = refl
same_slots [] (y ∷ ys) long each = absurd (omega (arith, long))
same_slots (x ∷ xs) [] long each = absurd (omega (arith, long))
same_slots (x ∷ xs) (y ∷ ys) long each =
    ap (λ (z : Slot). z ∷ xs) (each 0) ∙ ap (λ (zs : List Slot). y ∷ zs) (same_slots xs ys (omega (arith, long)) (λ i. each (suc i)))

-- the first 32 bytes of the keys are a key
kek_is_key : (keys : List ℕ) → IsBytes keys → length keys ≡ 64 → IsKey (kek_of keys)
kek_is_key keys bytes long = record { bytes = IsBytes-take 32 keys bytes; long = omega (arith, length-take 32 keys, long) }

-- a backup is restored in one way
pub one_restored : {V : Type 0} (keys backup : List ℕ) (s t u : MachineState V) → IsBytes keys → length keys ≡ 64 → IsRestoredTo keys backup s t → IsRestoredTo keys backup s u → t ≡ u
one_restored {V} keys backup s t u bytes long one other =
    let same = answers_one_way (kek_of keys) (mac_of keys) backup (vault_of s) (vault_of (restored_state s one.slots)) (vault_of (restored_state s other.slots)) (Ok one.count) (Ok other.count)
    (kek_is_key keys bytes long) one.restores other.restores in
    let sixteen : length one.slots ≡ 16 = ap (λ (x : MachineState V). length x.slots) (sym one.machine) ∙ one.well_formed.slots.sixteen in
    let sixteen' : length other.slots ≡ 16 = ap (λ (x : MachineState V). length x.slots) (sym other.machine) ∙ other.well_formed.slots.sixteen in
    one.machine ∙ ap (λ (xs : List Slot). restored_state s xs) (same_slots one.slots other.slots (sixteen ∙ sym sixteen') (same.1 refl).0) ∙ sym other.machine

-- and is refused where it isn't restored
pub never_both : {V : Type 0} (keys backup : List ℕ) (s t : MachineState V) → IsBytes keys → length keys ≡ 64 → IsRestoredTo keys backup s t → IsRefusedAt keys backup s → ⊥
never_both keys backup s t bytes long one other =
    let same = answers_one_way (kek_of keys) (mac_of keys) backup (vault_of s) (vault_of (restored_state s one.slots)) (vault_of s) (Ok one.count) (Err other.why)
    (kek_is_key keys bytes long) one.restores other.refuses in
    let clash = same.0 in cc clash

-- the run has one answer and one output
pub one_restored_run : {V : Type 0} (calls : Calls V) (keys backup : List ℕ) (s : MachineState V) (events : List Sample) (bytes : List ℕ) (answer answer' : Restored) (out out' : List ℕ)
    → IsBytes keys → length keys ≡ 64 → RunsRestored calls keys backup s events bytes answer out → RunsRestored calls keys backup s events bytes answer' out' → (answer ≡ answer') × (out ≡ out')
one_restored_run calls keys backup s events bytes restored.NotOfficer restored.NotOfficer out out' are long one other = (refl, one.1 ∙ sym other.1)
one_restored_run calls keys backup s events bytes restored.NotOfficer restored.Refused out out' are long one other = absurd (one.0 other.0)
one_restored_run calls keys backup s events bytes restored.NotOfficer (restored.Operated answer') out out' are long one other = absurd (one.0 other.2.officer)
one_restored_run calls keys backup s events bytes restored.Refused restored.NotOfficer out out' are long one other = absurd (other.0 one.0)
one_restored_run calls keys backup s events bytes restored.Refused restored.Refused out out' are long one other = (refl, one.2 ∙ sym other.2)
one_restored_run calls keys backup s events bytes restored.Refused (restored.Operated answer') out out' are long one other =
    absurd (never_both keys backup (as_officer calls s events).machine other.0 are long other.2.restored one.1)
one_restored_run calls keys backup s events bytes (restored.Operated answer) restored.NotOfficer out out' are long one other = absurd (other.0 one.2.officer)
one_restored_run calls keys backup s events bytes (restored.Operated answer) restored.Refused out out' are long one other =
    absurd (never_both keys backup (as_officer calls s events).machine one.0 are long one.2.restored other.1)
one_restored_run {V} calls keys backup s events bytes (restored.Operated answer) (restored.Operated answer') out out' are long (t, left, begins, runs) (t', left', begins', runs') =
    let same_machine : t' ≡ t = one_restored keys backup (as_officer calls s events).machine t' t are long begins'.restored begins.restored in
    let same_left : left' ≡ left = begins'.noise_left ∙ sym begins.noise_left in
    let From : MachineState V → Type 0 = λ x. RunsLines calls x left' bytes answer' out' in
    let With : List Sample → Type 0 = λ e. RunsLines calls t e bytes answer' out' in
    let same = one_lines calls t left bytes answer answer' out out' runs (subst With same_left (subst From same_machine runs')) in
    (ap (λ a. restored.Operated a) same.0, same.1)
