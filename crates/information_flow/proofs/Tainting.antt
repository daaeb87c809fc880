-- What is tainted is the same from either world.
use Rattle.std.proofs.Common.{◌≡◌, ℕ, Bool, true, false, List, Option, Some, None, length, inl, inr, refl, sym, ap, subst, ◌∙◌, arith, if◌then◌else◌}
use Rattle.std.specs.Prelude.{◌==◌, ◌&&◌, ◌||◌, not, nat_le}
use Rattle.std.specs.Option.{option_map_or}
use Rattle.std.specs.Str.{bytes_eq}
use Rattle.std.proofs.lemmas.Bool.Decides.{nat_tests}
use Rattle.std.proofs.lemmas.Slice.Eq.{bytes_eq-Decides}
use Rattle.std.proofs.lemmas.List.{length-take}
use Rattle.service_table.specs.declared.service.Service.{Service}
use Rattle.service_table.specs.declared.service.Service.TheVariants as service
use Rattle.service_table.specs.declared.status.Status.{Status}
use Rattle.service_table.specs.Numbers.{service_numbered}
use Rattle.service_table.specs.Services.{is_permitted}
use Rattle.ssp_slots.specs.declared.slot.Slot.{Slot}
use Rattle.outside.specs.declared.traits.Sample.{Sample}
use Rattle.module_frames.specs.CommandFrames.{CommandFrame}
use Rattle.module_frames.specs.PublicEffects.{sequence_taken}
use Rattle.module_frames.specs.Requests.{RequestValue, request_of, piece_of, commit_of}
use Rattle.module_frames.specs.Requests as request
use Rattle.module_frames.specs.Sequencing.{is_in_order}
use Rattle.engine_core.specs.Calls.{Calls}
use Rattle.crypto_services.specs.AtSlots.{slot_at}
use Rattle.state_model.specs.declared.entry.Entry.{Entry}
use Rattle.state_model.specs.declared.entry.Target.{Target}
use Rattle.state_model.specs.Commit.{entered}
use Rattle.state_model.specs.Cryptographic.{Link, before_slots, link_of}
use Rattle.state_model.specs.MachineState.{Shared, MachineState}
use Rattle.state_model.specs.Step.{number_taken}
use Rattle.information_flow.specs.Tainted.{Tainted, SlotsAgree, EntriesAgree, SameTaint}
use Rattle.information_flow.specs.Taint.{is_empty, may_fill, taint_ready, taint_for, taint_requested, taint_after, admitted_for}
use Rattle.information_flow.specs.Variants.{IsSecretVariant}
use Rattle.information_flow.specs.Flow.{TaintIsPublic}
use Rattle.information_flow.proofs.Told.{machine}

same : (T : Tainted) → SameTaint T T
same T = record { entry = refl; slot = λ id. refl }

none_of : (a b : Bool) → (a && false) ≡ (b && false)
none_of a b = grind (arith, nat_tests)

-- a slot that isn't tainted is empty in both, or in none
empty_there : (tainted : ℕ → Bool) (a b : List Slot) → SlotsAgree tainted a b → (id target : ℕ) → tainted id ≡ false
    → (is_empty (slot_at a target) && (id == target)) ≡ (is_empty (slot_at b target) && (id == target))
empty_there tainted a b agree id target clean = by_place (id == target) refl
  where
    by_place : (here : Bool) → (id == target) ≡ here → (is_empty (slot_at a target) && here) ≡ (is_empty (slot_at b target) && here)
    by_place true is =
        let at : id ≡ target = grind (arith, nat_tests) in
        ap (λ (x : Slot). is_empty x && true) (agree.each target (ap tainted (sym at) ∙ clean))
    by_place false is = none_of (is_empty (slot_at a target)) (is_empty (slot_at b target))

-- what joins for a reason that both worlds know joins in both
joins_alike : (tainted : ℕ → Bool) (a b : List Slot) → SlotsAgree tainted a b → (id target : ℕ) (reason : Bool → Bool)
    → (tainted id || reason (is_empty (slot_at a target) && (id == target))) ≡ (tainted id || reason (is_empty (slot_at b target) && (id == target)))
joins_alike tainted a b agree id target reason = by_taint (tainted id) refl
  where
    by_taint : (taint : Bool) → tainted id ≡ taint → (taint || reason (is_empty (slot_at a target) && (id == target))) ≡ (taint || reason (is_empty (slot_at b target) && (id == target)))
    by_taint true is = refl
    by_taint false is = ap reason (empty_there tainted a b agree id target is)

linked_alike : (tainted : ℕ → Bool) (a b : List Slot) → SlotsAgree tainted a b → (reason : Option Status) (link : Option Link) (id : ℕ) → taint_ready a tainted reason link id ≡ taint_ready b tainted reason link id
linked_alike tainted a b agree (Some reason) link id = refl
linked_alike tainted a b agree None None id = refl
linked_alike tainted a b agree None (Some link) id = joins_alike tainted a b agree id link.target (λ x. tainted link.source && x)

filled_alike : {V : Type 0} (T : Tainted) (shared : Shared V) (a b : List Slot) (e f : Entry) → SlotsAgree T.slot a b → EntriesAgree T.entry e f → (id : ℕ)
    → (T.slot id || (T.entry && may_fill (machine shared a e) id)) ≡ (T.slot id || (T.entry && may_fill (machine shared b f) id))
filled_alike T shared a b e f slots entry id = rw (sym entry.target) (by_target e.target)
  where
    long : length (entered e) ≡ length (entered f)
    long = rw (length-take e.filled e.bytes, length-take f.filled f.bytes, entry.filled, entry.room) refl

    by_target : (target : Option Target)
        → (T.slot id || (T.entry && option_map_or (λ g. (length (entered e) == g.length) && (is_empty (slot_at a g.slot) && (id == g.slot))) target false))
        ≡ (T.slot id || (T.entry && option_map_or (λ g. (length (entered f) == g.length) && (is_empty (slot_at b g.slot) && (id == g.slot))) target false))
    by_target None = refl
    by_target (Some g) = rw (sym long) (joins_alike T.slot a b slots id g.slot (λ x. T.entry && ((length (entered e) == g.length) && x)))

-- a request that both make
taint_alike : {V : Type 0} (calls : Calls V) (T : Tainted) (shared : Shared V) (a b : List Slot) (e f : Entry) (events : List Sample) (differ : Bool) (what : RequestValue) → SlotsAgree T.slot a b
    → EntriesAgree T.entry e f → SameTaint (taint_for calls (machine shared a e) events T differ what) (taint_for calls (machine shared b f) events T differ what)
taint_alike calls T shared a b e f events differ (request.PowerOn period) slots entry = same T
taint_alike calls T shared a b e f events differ request.TestStep slots entry = same T
taint_alike calls T shared a b e f events differ request.RequestTests slots entry = same T
taint_alike calls T shared a b e f events differ request.ShowStatus slots entry = same T
taint_alike calls T shared a b e f events differ request.ShowVersion slots entry = same T
taint_alike calls T shared a b e f events differ (request.SelectRole role) slots entry = same T
taint_alike calls T shared a b e f events differ request.Reset slots entry = record { entry = refl; slot = λ id. refl }
taint_alike calls T shared a b e f events differ (request.EntryBegin slot header long) slots entry = same T
taint_alike calls T shared a b e f events differ (request.EntryBytes piece) slots entry = record { entry = rw (entry.filled, entry.target) refl; slot = λ id. refl }
taint_alike calls T shared a b e f events differ (request.EntryCommit check) slots entry = record { entry = refl; slot = λ id. filled_alike T shared a b e f slots entry id }
taint_alike calls T shared a b e f events differ request.EntryAbort slots entry = record { entry = refl; slot = λ id. refl }
taint_alike calls T shared a b e f events differ (request.Zeroise slot) slots entry = record { entry = refl; slot = λ id. refl }
taint_alike calls T shared a b e f events differ (request.ZeroiseTree slot) slots entry = record { entry = refl; slot = λ id. refl }
taint_alike calls T shared a b e f events differ request.ZeroiseAll slots entry = record { entry = refl; slot = λ id. refl }
taint_alike calls T shared a b e f events differ (request.ShowSlot slot) slots entry = same T
taint_alike calls T shared a b e f events differ (request.Cryptographic what) slots entry =
    record { entry = refl; slot = λ id. linked_alike T.slot a b slots (before_slots calls shared events what).refused (link_of what) id }

-- what two requests leave tainted, each in its world
abbrev TaintsAlike : {V : Type 0} → Calls V → Tainted → Shared V → List Slot → List Slot → Entry → Entry → List Sample → List ℕ → List ℕ → Option RequestValue → Option RequestValue → Type 0
TaintsAlike calls T shared a b e f events body other read instead =
    SameTaint (taint_requested calls (machine shared a e) events T (not (bytes_eq body other)) read) (taint_requested calls (machine shared b f) events T (not (bytes_eq other body)) instead)

either_way : (xs ys : List ℕ) → bytes_eq xs ys ≡ bytes_eq ys xs
either_way xs ys = grind (arith, nat_tests, bytes_eq-Decides)

same_requested : {V : Type 0} (calls : Calls V) (T : Tainted) (shared : Shared V) (a b : List Slot) (e f : Entry) (events : List Sample) (body other : List ℕ) (read : Option RequestValue) → SlotsAgree T.slot a b
    → EntriesAgree T.entry e f → TaintsAlike calls T shared a b e f events body other read read
same_requested calls T shared a b e f events body other None slots entry = same T
same_requested calls T shared a b e f events body other (Some what) slots entry = rw (either_way other body) (taint_alike calls T shared a b e f events (not (bytes_eq body other)) what slots entry)

pieces_requested : {V : Type 0} (calls : Calls V) (T : Tainted) (shared : Shared V) (a b : List Slot) (e f : Entry) (events : List Sample) (body other : List ℕ) → EntriesAgree T.entry e f → length body ≡ length other
    → TaintsAlike calls T shared a b e f events body other (piece_of body) (piece_of other)
pieces_requested calls T shared a b e f events body other entry long =
    by_form (nat_le 1 (length body) && nat_le (length body) 64) (nat_le 1 (length other) && nat_le (length other) 64) (rw long refl)
  where
    by_form : (good too : Bool) → good ≡ too → TaintsAlike calls T shared a b e f events body other (if good then Some (request.EntryBytes body) else None) (if too then Some (request.EntryBytes other) else None)
    by_form true true is = record { entry = rw (entry.filled, entry.target, long, either_way other body) refl; slot = λ id. refl }
    by_form false false is = same T
    by_form true false is = cc
    by_form false true is = cc

checks_requested : {V : Type 0} (calls : Calls V) (T : Tainted) (shared : Shared V) (a b : List Slot) (e f : Entry) (events : List Sample) (body other : List ℕ) → SlotsAgree T.slot a b → EntriesAgree T.entry e f
    → length body ≡ 8 → length other ≡ 8 → TaintsAlike calls T shared a b e f events body other (commit_of body) (commit_of other)
checks_requested calls T shared a b e f events body other slots entry eight other_eight =
    rw (eight, other_eight) (record { entry = refl; slot = λ id. filled_alike T shared a b e f slots entry id })

permitted_requested : {V : Type 0} (calls : Calls V) (T : Tainted) (shared : Shared V) (a b : List Slot) (e f : Entry) (events : List Sample) (body other : List ℕ) (may : Bool) (read instead : Option RequestValue)
    → TaintsAlike calls T shared a b e f events body other read instead
    → TaintsAlike calls T shared a b e f events body other (if may then read else None) (if may then instead else None)
permitted_requested calls T shared a b e f events body other true read instead alike = alike
permitted_requested calls T shared a b e f events body other false read instead alike = same T

same_admitted : {V : Type 0} (calls : Calls V) (T : Tainted) (shared : Shared V) (a b : List Slot) (e f : Entry) (events : List Sample) (found : Option Service) (body : List ℕ) → SlotsAgree T.slot a b
    → EntriesAgree T.entry e f → TaintsAlike calls T shared a b e f events body body (admitted_for shared.public.state found body) (admitted_for shared.public.state found body)
same_admitted calls T shared a b e f events None body slots entry = same T
same_admitted calls T shared a b e f events (Some found) body slots entry =
    permitted_requested calls T shared a b e f events body body (is_permitted found shared.public.state) (request_of found body) (request_of found body)
    (same_requested calls T shared a b e f events body body (request_of found body) slots entry)

abbrev AdmittedAlike : {V : Type 0} → Calls V → Tainted → Shared V → List Slot → List Slot → Entry → Entry → List Sample → Option Service → List ℕ → List ℕ → Type 0
AdmittedAlike calls T shared a b e f events found body other =
    TaintsAlike calls T shared a b e f events body other (admitted_for shared.public.state found body) (admitted_for shared.public.state found other)

variant_admitted : {V : Type 0} (calls : Calls V) (T : Tainted) (shared : Shared V) (a b : List Slot) (e f : Entry) (events : List Sample) (one other : CommandFrame) → SlotsAgree T.slot a b
    → EntriesAgree T.entry e f → IsSecretVariant T one other → AdmittedAlike calls T shared a b e f events (service_numbered one.service) one.body other.body
variant_admitted calls T shared a b e f events one other slots entry variant = elim variant.same_body [
  | inl equal ↦
      subst (λ body. AdmittedAlike calls T shared a b e f events (service_numbered one.service) one.body body) equal (same_admitted calls T shared a b e f events (service_numbered one.service) one.body slots entry)
  | inr secret ↦ elim secret [
    | inl pieces ↦
        subst (λ found. AdmittedAlike calls T shared a b e f events found one.body other.body) (sym pieces.entry_bytes)
        (permitted_requested calls T shared a b e f events one.body other.body (is_permitted service.EntryBytes shared.public.state) (piece_of one.body) (piece_of other.body)
        (pieces_requested calls T shared a b e f events one.body other.body entry pieces.same_length))
    | inr checks ↦
        subst (λ found. AdmittedAlike calls T shared a b e f events found one.body other.body) (sym checks.entry_commit)
        (permitted_requested calls T shared a b e f events one.body other.body (is_permitted service.EntryCommit shared.public.state) (commit_of one.body) (commit_of other.body)
        (checks_requested calls T shared a b e f events one.body other.body slots entry checks.eight checks.other_eight))
  ]
]

ordered_admitted : {V : Type 0} (calls : Calls V) (T : Tainted) (shared : Shared V) (a b : List Slot) (e f : Entry) (events : List Sample) (sequence : Option ℕ) (found : Option Service) (body other : List ℕ)
    → ((known : Shared V) → AdmittedAlike calls T known a b e f events found body other)
    → SameTaint
    (taint_requested calls (number_taken (machine shared a e) sequence) events T (not (bytes_eq body other))
    (if is_in_order sequence shared.public.next_sequence then admitted_for shared.public.state found body else None))
    (taint_requested calls (number_taken (machine shared b f) sequence) events T (not (bytes_eq other body))
    (if is_in_order sequence shared.public.next_sequence then admitted_for shared.public.state found other else None))
ordered_admitted calls T shared a b e f events None found body other alike = alike shared
ordered_admitted {V} calls T shared a b e f events (Some number) found body other alike = by_number (number == shared.public.next_sequence)
  where
    by_number : (ordered : Bool) → SameTaint
        (taint_requested calls (number_taken (machine shared a e) (Some number)) events T (not (bytes_eq body other)) (if ordered then admitted_for shared.public.state found body else None))
        (taint_requested calls (number_taken (machine shared b f) (Some number)) events T (not (bytes_eq other body)) (if ordered then admitted_for shared.public.state found other else None))
    by_number true = alike (record shared { public = sequence_taken shared.public })
    by_number false = same T

public_of : {V : Type 0} (calls : Calls V) (T : Tainted) (shared : Shared V) (a b : List Slot) (e f : Entry) (events : List Sample) (one other : CommandFrame) → SlotsAgree T.slot a b → EntriesAgree T.entry e f
    → IsSecretVariant T one other
    → (let other' : CommandFrame = record { service = one.service; sequence = one.sequence; body = other.body } in
    SameTaint (taint_after calls (machine shared a e) events T one other') (taint_after calls (machine shared b f) events T other' one))
unfolding taint_after
public_of calls T shared a b e f events one other slots entry variant =
    ordered_admitted calls T shared a b e f events one.sequence (service_numbered one.service) one.body other.body
    (λ known. variant_admitted calls T known a b e f events one other slots entry variant)

pub taint_is_public : {V : Type 0} (calls : Calls V) → TaintIsPublic calls
taint_is_public {V} calls T s t events one other equal variant =
    let Sames : MachineState V → CommandFrame → Type 0 = λ t other. SameTaint (taint_after calls s events T one other) (taint_after calls t events T other one) in
    let From : Shared V → Type 0 = λ shared. Sames (machine shared t.slots t.entry) other in
    let For : ℕ → Type 0 = λ number. Sames (machine s.shared t.slots t.entry) (record { service = number; sequence = one.sequence; body = other.body }) in
    let In : Option ℕ → Type 0 = λ sequence. Sames (machine s.shared t.slots t.entry) (record { service = other.service; sequence = sequence; body = other.body }) in
    subst From equal.shared (subst In variant.same_sequence (subst For variant.same_service
    (public_of calls T s.shared s.slots t.slots s.entry t.entry events one other equal.slots equal.entry variant)))
