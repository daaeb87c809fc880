-- Runs of two worlds, and what is so where nothing is tainted.
use Rattle.std.proofs.Common.{◌≡◌, ℕ, Bool, false, List, [], ◌∷◌, Option, Some, None, refl, ap, subst, ◌∙◌}
use Rattle.std.specs.List.{list_any}
use Rattle.std.specs.Option.{option_map_or}
use Rattle.std.proofs.lemmas.List.{ext_get_or}
use Rattle.service_table.specs.Numbers.{service_numbered}
use Rattle.ssp_slots.specs.declared.slot.Slot.{Slot}
use Rattle.ssp_slots.specs.Slots.{empty_slot}
use Rattle.outside.specs.declared.traits.Sample.{Sample}
use Rattle.module_frames.specs.Requests.{RequestValue}
use Rattle.module_frames.specs.Requests as request
use Rattle.engine_core.specs.Calls.{Calls}
use Rattle.state_model.specs.declared.entry.Entry.{Entry}
use Rattle.state_model.specs.declared.entry.Target.{Target}
use Rattle.state_model.specs.Cryptographic.{slots_named}
use Rattle.state_model.specs.MachineState.{Shared, MachineState}
use Rattle.state_model.specs.Runs.{run_commands}
use Rattle.state_model.specs.Step.{step, request_at}
use Rattle.information_flow.specs.Tainted.{Tainted, untainted, IsUntainted, EqualOutside}
use Rattle.information_flow.specs.Taint.{taint_after, observes, observes_for, observes_requested}
use Rattle.information_flow.specs.Variants.{sent, sent_instead}
use Rattle.information_flow.specs.Flow.{SecretsStayInside, VariantsRunAlike, UntaintedAreEqual, RunsAgree}
use Rattle.information_flow.proofs.Agreeing.{same_agree}
use Rattle.information_flow.proofs.Told.{same_entry}

-- a machine is equal to itself
pub same_machines : {V : Type 0} (s : MachineState V) → EqualOutside untainted s s
same_machines s = record { shared = refl; slots = same_agree untainted.slot s.slots; entry = same_entry false s.entry }

-- where nothing is tainted, all is equal
pub untainted_equal : {V : Type 0} (T : Tainted) (s t : MachineState V) → IsUntainted T → EqualOutside T s t → s ≡ t
untainted_equal {V} T s t clean equal =
    let slots : s.slots ≡ t.slots = ext_get_or empty_slot s.slots t.slots equal.slots.many (λ k _. equal.slots.each k (clean.slot k)) in
    ap (λ (shared : Shared V). made shared s.slots s.entry.target s.entry.filled s.entry.bytes) equal.shared
    ∙ ap (λ (slots : List Slot). made t.shared slots s.entry.target s.entry.filled s.entry.bytes) slots
    ∙ ap (λ (target : Option Target). made t.shared t.slots target s.entry.filled s.entry.bytes) equal.entry.target
    ∙ ap (λ (filled : ℕ). made t.shared t.slots t.entry.target filled s.entry.bytes) equal.entry.filled
    ∙ ap (λ (bytes : List ℕ). made t.shared t.slots t.entry.target t.entry.filled bytes) (equal.entry.bytes clean.entry)
  where
    made : Shared V → List Slot → Option Target → ℕ → List ℕ → MachineState V
    made shared slots target filled bytes = record { shared = shared; slots = slots; entry = record { target = target; filled = filled; bytes = bytes } }

none_tainted : (tainted : ℕ → Bool) → ((id : ℕ) → tainted id ≡ false) → (named : List ℕ) → list_any tainted named ≡ false
none_tainted tainted clean [] = refl
none_tainted tainted clean (id ∷ more) = rw (clean id, none_tainted tainted clean more) refl

-- and nothing that is tainted is observed
unobserved_for : (entry : Entry) (T : Tainted) → IsUntainted T → (what : RequestValue) → observes_for entry T what ≡ false
unobserved_for entry T clean (request.PowerOn period) = refl
unobserved_for entry T clean request.TestStep = refl
unobserved_for entry T clean request.RequestTests = refl
unobserved_for entry T clean request.ShowStatus = refl
unobserved_for entry T clean request.ShowVersion = refl
unobserved_for entry T clean (request.SelectRole role) = refl
unobserved_for entry T clean request.Reset = refl
unobserved_for entry T clean (request.EntryBegin slot header long) = refl
unobserved_for entry T clean (request.EntryBytes piece) = refl
unobserved_for entry T clean (request.EntryCommit check) = rw clean.entry (by_target entry.target)
  where
    by_target : (target : Option Target) → option_map_or (λ g. T.slot g.slot) target false ≡ false
    by_target None = refl
    by_target (Some g) = clean.slot g.slot
unobserved_for entry T clean request.EntryAbort = refl
unobserved_for entry T clean (request.Zeroise slot) = refl
unobserved_for entry T clean (request.ZeroiseTree slot) = refl
unobserved_for entry T clean request.ZeroiseAll = refl
unobserved_for entry T clean (request.ShowSlot slot) = clean.slot slot
unobserved_for entry T clean (request.Cryptographic what) = none_tainted T.slot clean.slot (slots_named what)

unobserved : {V : Type 0} (T : Tainted) (s : MachineState V) → IsUntainted T → (read : Option RequestValue) → observes_requested s.entry T read ≡ false
unobserved T s clean None = refl
unobserved T s clean (Some what) = unobserved_for s.entry T clean what

pub untainted_are_equal : {V : Type 0} → UntaintedAreEqual V
unfolding observes
untainted_are_equal {V} T s t clean equal = (untainted_equal T s t clean equal, λ command. unobserved T s clean (request_at (service_numbered command.service) command.body))

pub variants_run : {V : Type 0} (calls : Calls V) → SecretsStayInside calls → VariantsRunAlike calls
unfolding run_commands
variants_run calls law T s t events [] equal variants = (equal, refl)
variants_run {V} calls law T s t events (pair ∷ pairs) equal variants =
    let turn = law T s t events pair.one pair.other equal variants.0 in
    let a = step calls s events pair.one in
    let b = step calls t events pair.other in
    let T' : Tainted = taint_after calls s events T pair.one pair.other in
    let rest = variants_run calls law T' a.machine b.machine a.left pairs turn.outside variants.1 in
    let From : List Sample → Type 0 = λ left.
    RunsAgree calls T' a.machine b.machine a.left pairs (run_commands calls a.machine a.left (sent pairs)).replies (run_commands calls b.machine left (sent_instead pairs)).replies
    × ((run_commands calls a.machine a.left (sent pairs)).left ≡ (run_commands calls b.machine left (sent_instead pairs)).left) in
    let more : From b.left = subst From turn.same_noise rest in
    ((equal, turn.replies, more.0), more.1)
