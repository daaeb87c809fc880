-- Pieces and commits of an entry, in two worlds.
use Rattle.std.proofs.Common.{◌≡◌, ℕ, ◌+◌, ◌-◌, ◌++◌, Bool, true, false, List, length, take, drop, Option, Some, None, refl, sym, ap, ◌∙◌, if◌then◌else◌}
use Rattle.std.specs.Prelude.{◌==◌, ◌&&◌, ◌||◌, not, nat_le, is_some, min}
use Rattle.std.specs.Option.{option_map_or}
use Rattle.std.specs.Str.{bytes_eq}
use Rattle.std.proofs.lemmas.List.{length-take, length-drop, length-append}
use Rattle.bits_core.specs.declared.algorithm.Alg.TheVariants.{Sha256}
use Rattle.service_table.specs.declared.status.Status.{Status}
use Rattle.service_table.specs.declared.status.Status.TheVariants as status
use Rattle.ssp_slots.specs.declared.slot.Slot.{Slot}
use Rattle.ssp_slots.specs.Refusals.{vacancy_fault}
use Rattle.outside.specs.declared.traits.Sample.{Sample}
use Rattle.module_frames.specs.PublicState.{no_block}
use Rattle.module_frames.specs.PublicEffects.{entry_ended}
use Rattle.module_frames.specs.Requests as request
use Rattle.engine_core.specs.Calls.{Calls, IsStandard}
use Rattle.crypto_services.specs.AtSlots.{SlotResult, SlotsResult, slot_at, on_slot, refusal}
use Rattle.state_model.specs.declared.entry.Entry.{Entry}
use Rattle.state_model.specs.declared.entry.Target.{Target}
use Rattle.state_model.specs.Commit.{entered, target_bytes, check_value, after_check, unless, commit_at}
use Rattle.state_model.specs.Entries.{no_entry, with_piece, entry_length}
use Rattle.state_model.specs.MachineState.{Shared}
use Rattle.state_model.specs.Management.{entry_bytes, entry_commit, entry_over, with_slots, committed, done, refused, answered}
use Rattle.information_flow.specs.Tainted.{Tainted, SlotsAgree, EntriesAgree}
use Rattle.information_flow.specs.Taint.{is_empty, is_taken, may_fill}
use Rattle.information_flow.proofs.Agreeing.{or_left, or_right, not_may_fill, grown_agree}
use Rattle.information_flow.proofs.Frames.{ResultsAgree, one_moved, none_agree}
use Rattle.information_flow.proofs.Services.{fault_plain, full_stays}
use Rattle.information_flow.proofs.Told.{Alike, machine, outside, same_entry}

-- the bytes of an entry with a piece
piece_length : (e : Entry) (piece : List ℕ)
    → length (with_piece e piece).bytes ≡ min e.filled (length e.bytes) + (length piece + (length e.bytes - (e.filled + length piece)))
piece_length e piece =
    rw (
      length-append (take e.filled e.bytes) (piece ++ drop (e.filled + length piece) e.bytes),
      length-append piece (drop (e.filled + length piece) e.bytes),
      length-take e.filled e.bytes,
      length-drop (e.filled + length piece) e.bytes,
    ) refl

piece_agrees : (tainted more : Bool) (a b : Entry) (piece other : List ℕ) → EntriesAgree tainted a b → length piece ≡ length other → (more ≡ false → piece ≡ other)
    → EntriesAgree (tainted || more) (with_piece a piece) (with_piece b other)
piece_agrees tainted more a b piece other h long same = record {
  target = h.target;
  filled = rw (h.filled, long) refl;
  room = rw (piece_length a piece, piece_length b other, h.filled, h.room, long) refl;
  bytes = λ u. rw (h.filled, h.bytes (or_left tainted more u), same (or_right tainted more u)) refl;
}

still_agrees : (tainted more : Bool) (a b : Entry) → EntriesAgree tainted a b → EntriesAgree (tainted || more) a b
still_agrees tainted more a b h = record { target = h.target; filled = h.filled; room = h.room; bytes = λ u. h.bytes (or_left tainted more u) }

-- pieces of one length, which may differ
pub bytes_alike : {V : Type 0} (T : Tainted) (shared : Shared V) (a b : List Slot) (e f : Entry) (events : List Sample) (piece other : List ℕ) (differ : Bool) → SlotsAgree T.slot a b → EntriesAgree T.entry e f
    → length piece ≡ length other → (differ ≡ false → piece ≡ other)
    → Alike (record { entry = T.entry || (is_taken (machine shared a e) piece && differ); slot = T.slot }) false (Some (request.EntryBytes piece)) (Some (request.EntryBytes other))
    (entry_bytes (machine shared a e) piece events) (entry_bytes (machine shared b f) other events)
bytes_alike {V} T shared a b e f events piece other differ slots entry long same =
    by_fit (nat_le (e.filled + length piece) (entry_length e)) (nat_le (f.filled + length other) (entry_length f)) (rw (entry.filled, entry.target, long) refl)
  where
    by_fit : (fits too : Bool) → fits ≡ too → Alike (record { entry = T.entry || (fits && differ); slot = T.slot }) false (Some (request.EntryBytes piece)) (Some (request.EntryBytes other))
        (if fits then done (machine shared a (with_piece e piece)) no_block events else refused (machine shared a e) status.BadLength events)
        (if too then done (machine shared b (with_piece f other)) no_block events else refused (machine shared b f) status.BadLength events)
    by_fit true true is = record {
      outside = outside (record { entry = T.entry || differ; slot = T.slot }) shared a b (with_piece e piece) (with_piece f other) slots (piece_agrees T.entry differ e f piece other entry long same);
      left = refl;
      same = λ _. refl;
    }
    by_fit false false is = record {
      outside = outside (record { entry = T.entry || false; slot = T.slot }) shared a b e f slots (still_agrees T.entry false e f entry);
      left = refl;
      same = λ _. refl;
    }
    by_fit true false is = cc
    by_fit false true is = cc

unless_plain : {V : Type 0} (v w : V) (slot : Slot) (applies : Bool) (reason : Status) (served : SlotResult V) → w ≡ v → served.engine ≡ v → (unless w slot applies reason served).engine ≡ v
unless_plain v w slot true reason served h k = h
unless_plain v w slot false reason served h k = k

unless_stays : {V : Type 0} (v : V) (slot : Slot) (applies : Bool) (reason : Status) (served : SlotResult V) → (applies ≡ false → served.slot ≡ slot) → (unless v slot applies reason served).slot ≡ slot
unless_stays v slot true reason served h = refl
unless_stays v slot false reason served h = h refl

commit_plain : {V : Type 0} (calls : Calls V) → IsStandard calls → (v : V) (target : Target) (bytes check : List ℕ) (x : Slot) → (commit_at calls v target bytes check x).engine ≡ v
commit_plain {V} calls plain v target bytes check x =
    let after : after_check calls v target bytes ≡ v = plain.mac_after v Sha256 bytes (target_bytes target) in
    unless_plain v v x (not (length bytes == target.length)) status.BadLength _ refl (fault_plain v x (vacancy_fault x.header) _
    (unless_plain v (after_check calls v target bytes) x (not (bytes_eq check (check_value calls v target bytes))) status.CheckFailed _ after after))

full_if_whole : (whole full : Bool) → (whole && not full) ≡ false → not whole ≡ false → full ≡ true
full_if_whole true true h k = refl
full_if_whole true false h k = cc
full_if_whole false full h k = cc

commit_stays : {V : Type 0} (calls : Calls V) (v : V) (target : Target) (bytes check : List ℕ) (x : Slot) → ((length bytes == target.length) && is_empty x) ≡ false
    → (commit_at calls v target bytes check x).slot ≡ x
commit_stays calls v target bytes check x h =
    unless_stays v x (not (length bytes == target.length)) status.BadLength _ (λ k. full_stays v x x.header _ (full_if_whole (length bytes == target.length) (is_some x.header) h k))

-- whether a commit fills the slot with a number, which is the target's
abbrev fills : Target → List ℕ → List Slot → ℕ → Bool
fills target bytes slots id = (length bytes == target.length) && (is_empty (slot_at slots target.slot) && (id == target.slot))

-- a commit in two worlds
commit_moved : {V : Type 0} (calls : Calls V) → IsStandard calls → (v : V) (tainted : ℕ → Bool) (entry : Bool) (a b : List Slot) (target : Target) (bytes other check instead : List ℕ)
    → SlotsAgree tainted a b → length bytes ≡ length other → (entry ≡ false → bytes ≡ other) → (entry ≡ false → check ≡ instead)
    → ResultsAgree v (λ id. tainted id || (entry && fills target bytes a id)) (entry || tainted target.slot)
    (on_slot a target.slot (commit_at calls v target bytes check)) (on_slot b target.slot (commit_at calls v target other instead))
commit_moved {V} calls plain v tainted entry a b target bytes other check instead agree same_length same_bytes same_check =
    one_moved v tainted (λ id. tainted id || (entry && fills target bytes a id)) (entry || tainted place) a b place (commit_at calls v target bytes check) (commit_at calls v target other instead)
    (commit_plain calls plain v target bytes check) (commit_plain calls plain v target other instead) agree (λ k u. or_left (tainted k) (entry && fills target bytes a k) u)
    (λ u. slots entry refl (or_left (tainted place) (entry && fills target bytes a place) u) (or_right (tainted place) (entry && fills target bytes a place) u))
    (λ u. ap (λ (x : SlotResult V). x.answer) (equal (or_left entry (tainted place) u) (or_right entry (tainted place) u)))
  where
    place : ℕ
    place = target.slot

    equal : entry ≡ false → tainted place ≡ false → commit_at calls v target bytes check (slot_at a place) ≡ commit_at calls v target other instead (slot_at b place)
    equal t u = rw (same_bytes t, same_check t, agree.each place u) refl

    slots : (taint : Bool) → entry ≡ taint → tainted place ≡ false → (taint && fills target bytes a place) ≡ false
        → (commit_at calls v target bytes check (slot_at a place)).slot ≡ (commit_at calls v target other instead (slot_at b place)).slot
    slots false t u k = ap (λ (x : SlotResult V). x.slot) (equal t u)
    slots true t u k =
        let here : ((length bytes == target.length) && is_empty (slot_at a place)) ≡ false = not_may_fill (length bytes == target.length) (is_empty (slot_at a place)) place k in
        let there : ((length other == target.length) && is_empty (slot_at b place)) ≡ false = ap (λ (n : ℕ). (n == target.length) && is_empty (slot_at b place)) (sym same_length)
        ∙ ap (λ (x : Slot). (length bytes == target.length) && is_empty x) (sym (agree.each place u)) ∙ here in
        commit_stays calls v target bytes check (slot_at a place) here ∙ agree.each place u ∙ sym (commit_stays calls v target other instead (slot_at b place) there)

entered_length : (tainted : Bool) (a b : Entry) → EntriesAgree tainted a b → length (entered a) ≡ length (entered b)
entered_length tainted a b h = rw (length-take a.filled a.bytes, length-take b.filled b.bytes, h.filled, h.room) refl

-- the commit of an entry, where the check values differ only if the entry is tainted
pub commit_alike : {V : Type 0} (calls : Calls V) → IsStandard calls → (T : Tainted) (shared : Shared V) (a b : List Slot) (e f : Entry) (events : List Sample) (check instead : List ℕ)
    → SlotsAgree T.slot a b → EntriesAgree T.entry e f → (T.entry ≡ false → check ≡ instead)
    → Alike (record { entry = false; slot = λ id. T.slot id || (T.entry && may_fill (machine shared a e) id) }) (T.entry || option_map_or (λ target. T.slot target.slot) e.target false)
    (Some (request.EntryCommit check)) (Some (request.EntryCommit instead)) (entry_commit calls (machine shared a e) check events) (entry_commit calls (machine shared b f) instead events)
commit_alike {V} calls plain T shared a b e f events check instead slots entry same_check = rw (sym entry.target) (by_target e.target)
  where
    same_bytes : T.entry ≡ false → entered e ≡ entered f
    same_bytes u = rw (entry.filled, entry.bytes u) refl

    -- whether the commit for a target may fill a slot
    joins : Option Target → ℕ → Bool
    joins target id = option_map_or (λ g. fills g (entered e) a id) target false

    result : Option Target → SlotsResult V
    result target = committed calls (machine shared a e) target check

    other : Option Target → SlotsResult V
    other target = committed calls (machine shared b f) target instead

    results : (target : Option Target)
        → ResultsAgree shared.engine (λ id. T.slot id || (T.entry && joins target id)) (T.entry || option_map_or (λ g. T.slot g.slot) target false) (result target) (other target)
    results None =
        none_agree shared.engine shared.engine _ _ a b (refusal status.BadLength) refl (grown_agree T.slot (λ id. T.slot id || (T.entry && false)) a b slots (λ k u. or_left (T.slot k) (T.entry && false) u))
    results (Some g) =
        commit_moved calls plain shared.engine T.slot T.entry a b g (entered e) (entered f) check instead slots (entered_length T.entry e f entry) same_bytes same_check

    with_engine : V → Shared V
    with_engine v = record shared { public = entry_ended shared.public; engine = v }

    by_target : (target : Option Target)
        → Alike (record { entry = false; slot = λ id. T.slot id || (T.entry && joins target id) }) (T.entry || option_map_or (λ g. T.slot g.slot) target false)
        (Some (request.EntryCommit check)) (Some (request.EntryCommit instead))
        (answered (entry_over (with_slots (machine shared a e) (result target).engine (result target).slots)) (result target).answer.status no_block events)
        (answered (entry_over (with_slots (machine shared b f) (other target).engine (other target).slots)) (other target).answer.status no_block events)
    by_target target =
        let agree = results target in
        record {
          outside = record { shared = ap with_engine (agree.left ∙ sym agree.right); slots = agree.slots; entry = same_entry false no_entry };
          left = refl;
          same = λ u. rw (agree.same u) refl;
        }
