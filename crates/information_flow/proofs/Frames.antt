-- What a service keeps that is laid into the slots, whatever it does at them.
use Rattle.std.proofs.Common.{◌≡◌, ◌≢◌, ℕ, Bool, true, false, List, Option, Some, None, refl, sym, ap, subst, ◌∙◌}
use Rattle.std.specs.Prelude.{◌||◌}
use Rattle.bits_core.specs.declared.parameter.Domain.{Domain}
use Rattle.service_table.specs.declared.status.Status.{Status}
use Rattle.ssp_slots.specs.declared.slot.Slot.{Slot}
use Rattle.crypto_services.specs.AtSlots.{Answer, SlotResult, SlotsResult, Source, slot_at, with_slot_at, on_no_slot, on_slot, on_two_slots, second_under, refusal}
use Rattle.information_flow.specs.Tainted.{SlotsAgree}
use Rattle.information_flow.proofs.Agreeing.{OnlyAt, same_only, set_only, one_agrees, read_same, read_back, grown_agree}

-- what both worlds leave, where both had this engine
pub record ResultsAgree {V : Type 0} (engine' : V) (tainted : ℕ → Bool) (observed : Bool) (a b : SlotsResult V) : Type 0 where
  pub left : a.engine ≡ engine'
  pub right : b.engine ≡ engine'
  pub slots : SlotsAgree tainted a.slots b.slots
  pub same : observed ≡ false → a.answer ≡ b.answer

pub none_agree : {V : Type 0} (v w : V) (tainted : ℕ → Bool) (observed : Bool) (a b : List Slot) (answer : Answer) → w ≡ v → SlotsAgree tainted a b
    → ResultsAgree v tainted observed (on_no_slot w a answer) (on_no_slot w b answer)
none_agree v w tainted observed a b answer stays agree = record { left = stays; right = stays; slots = agree; same = λ _. refl }

-- A service on one slot that may do different things in the two worlds.
pub one_moved : {V : Type 0} (v : V) (tainted after : ℕ → Bool) (observed : Bool) (a b : List Slot) (id : ℕ) (f g : Slot → SlotResult V) → ((x : Slot) → (f x).engine ≡ v) → ((x : Slot) → (g x).engine ≡ v)
    → SlotsAgree tainted a b → ((k : ℕ) → after k ≡ false → tainted k ≡ false) → (after id ≡ false → (f (slot_at a id)).slot ≡ (g (slot_at b id)).slot)
    → (observed ≡ false → (f (slot_at a id)).answer ≡ (g (slot_at b id)).answer) → ResultsAgree v after observed (on_slot a id f) (on_slot b id g)
one_moved v tainted after observed a b id f g left right agree grows slot answer = record {
  left = left (slot_at a id);
  right = right (slot_at b id);
  slots = one_agrees tainted after id a b (on_slot a id f).slots (on_slot b id g).slots agree (set_only id a (f (slot_at a id)).slot) (set_only id b (g (slot_at b id)).slot) (λ k _ u. grows k u)
      (λ u. read_same a b id (f (slot_at a id)).slot (g (slot_at b id)).slot agree.many (slot u));
  same = answer;
}

-- A service on one slot, of which nothing more is known than that the engine stays.
pub one_agree : {V : Type 0} (v : V) (tainted : ℕ → Bool) (a b : List Slot) (id : ℕ) (f : Slot → SlotResult V) → ((x : Slot) → (f x).engine ≡ v) → SlotsAgree tainted a b
    → ResultsAgree v tainted (tainted id) (on_slot a id f) (on_slot b id f)
one_agree {V} v tainted a b id f plain agree =
    one_moved v tainted tainted (tainted id) a b id f f plain plain agree (λ k u. u) (λ u. ap (λ (x : Slot). (f x).slot) (agree.each id u)) (λ u. ap (λ (x : Slot). (f x).answer) (agree.each id u))

-- what the second slot may become in one world: nothing, or what the service makes of it
second_only : {V : Type 0} (v : V) (a : List Slot) (id : ℕ) (source : Source) (reason : Option Status) (f : List ℕ → Domain → Slot → SlotResult V) → OnlyAt id a (second_under v a id source reason f).slots
second_only v a id source None f = set_only id a (f source.key source.domain (slot_at a id)).slot
second_only v a id source (Some reason) f = same_only id a

second_engine : {V : Type 0} (v : V) (a : List Slot) (id : ℕ) (source : Source) (reason : Option Status) (f : List ℕ → Domain → Slot → SlotResult V)
    → ((key : List ℕ) (domain : Domain) (x : Slot) → (f key domain x).engine ≡ v) → (second_under v a id source reason f).engine ≡ v
second_engine v a id source None f plain = plain source.key source.domain (slot_at a id)
second_engine v a id source (Some reason) f plain = refl

second_stays : {V : Type 0} (v : V) (a : List Slot) (id : ℕ) (source : Source) (reason : Option Status) (f : List ℕ → Domain → Slot → SlotResult V)
    → ((key : List ℕ) (domain : Domain) → (f key domain (slot_at a id)).slot ≡ slot_at a id) → slot_at (second_under v a id source reason f).slots id ≡ slot_at a id
second_stays v a id source None f stays = read_back a id (f source.key source.domain (slot_at a id)).slot (stays source.key source.domain)
second_stays v a id source (Some reason) f stays = refl

-- both worlds go on with the same
second_agree : {V : Type 0} (v : V) (tainted : ℕ → Bool) (a b : List Slot) (id : ℕ) (source : Source) (reason : Option Status) (f : List ℕ → Domain → Slot → SlotResult V)
    → ((key : List ℕ) (domain : Domain) (x : Slot) → (f key domain x).engine ≡ v) → SlotsAgree tainted a b
    → ResultsAgree v tainted (tainted id) (second_under v a id source reason f) (second_under v b id source reason f)
second_agree v tainted a b id source None f plain agree = one_agree v tainted a b id (f source.key source.domain) (plain source.key source.domain) agree
second_agree v tainted a b id source (Some reason) f plain agree = none_agree v v tainted (tainted id) a b (refusal reason) refl agree

-- A service on a source and a second slot. Where the source is tainted, a second slot that isn't tainted afterwards must stay in each world.
pub two_agree : {V : Type 0} (v : V) (tainted after : ℕ → Bool) (a b : List Slot) (one two : ℕ) (first : Slot → Source) (second : List ℕ → Domain → Slot → SlotResult V)
    → ((key : List ℕ) (domain : Domain) (x : Slot) → (second key domain x).engine ≡ v)
    → SlotsAgree tainted a b
    → ((k : ℕ) → after k ≡ false → tainted k ≡ false)
    → (tainted one ≡ true → after two ≡ false → (key : List ℕ) (domain : Domain) → (second key domain (slot_at a two)).slot ≡ slot_at a two)
    → ResultsAgree v after (tainted one || tainted two) (on_two_slots v a one two first second) (on_two_slots v b one two first second)
two_agree {V} v tainted after a b one two first second plain agree grows stays = by_taint (tainted one) refl
  where
    spent : List Slot → List Slot
    spent c = with_slot_at c one (first (slot_at c one)).slot

    middle : SlotsAgree tainted (spent a) (spent b)
    middle = one_agrees tainted tainted one a b (spent a) (spent b) agree (set_only one a (first (slot_at a one)).slot) (set_only one b (first (slot_at b one)).slot) (λ k _ u. u)
        (λ u. read_same a b one (first (slot_at a one)).slot (first (slot_at b one)).slot agree.many (ap (λ (x : Slot). (first x).slot) (agree.each one u)))

    differ : tainted one ≡ true → tainted two ≡ false → two ≢ one
    differ h u e = let same : tainted two ≡ tainted one = ap tainted e in let no : true ≡ false = sym h ∙ sym same ∙ u in cc

    Stays : Slot → Type 0
    Stays x = (key : List ℕ) (domain : Domain) → (second key domain x).slot ≡ x

    stayed : tainted one ≡ true → after two ≡ false → slot_at (on_two_slots v a one two first second).slots two ≡ slot_at (on_two_slots v b one two first second).slots two
    stayed h u =
        let apart : two ≢ one = differ h (grows two u) in
        let here : slot_at (spent a) two ≡ slot_at a two = (set_only one a (first (slot_at a one)).slot).others two apart in
        let there : slot_at (spent b) two ≡ slot_at b two = (set_only one b (first (slot_at b one)).slot).others two apart in
        let across : slot_at a two ≡ slot_at b two = agree.each two (grows two u) in
        let left : Stays (slot_at (spent a) two) = subst Stays (sym here) (stays h u) in
        let right : Stays (slot_at (spent b) two) = subst Stays (across ∙ sym there) (stays h u) in
        second_stays v (spent a) two (first (slot_at a one)) (first (slot_at a one)).refused second left
        ∙ here ∙ across ∙ sym there
        ∙ sym (second_stays v (spent b) two (first (slot_at b one)) (first (slot_at b one)).refused second right)

    by_source : (p q : Source) → p ≡ q → ResultsAgree v tainted (tainted two) (second_under v (spent a) two p p.refused second) (second_under v (spent b) two q q.refused second)
    by_source p q e = rw e (second_agree v tainted (spent a) (spent b) two q q.refused second plain middle)

    by_taint : (taint : Bool) → tainted one ≡ taint → ResultsAgree v after (taint || tainted two) (on_two_slots v a one two first second) (on_two_slots v b one two first second)
    by_taint false h =
        let equal : ResultsAgree v tainted (tainted two) (on_two_slots v a one two first second) (on_two_slots v b one two first second) =
        by_source (first (slot_at a one)) (first (slot_at b one)) (ap first (agree.each one h)) in
        record {
          left = equal.left;
          right = equal.right;
          slots = grown_agree tainted after (on_two_slots v a one two first second).slots (on_two_slots v b one two first second).slots equal.slots grows;
          same = equal.same;
        }
    by_taint true h = record {
      left = second_engine v (spent a) two (first (slot_at a one)) (first (slot_at a one)).refused second plain;
      right = second_engine v (spent b) two (first (slot_at b one)) (first (slot_at b one)).refused second plain;
      slots = one_agrees tainted after two (spent a) (spent b) (on_two_slots v a one two first second).slots (on_two_slots v b one two first second).slots middle
          (second_only v (spent a) two (first (slot_at a one)) (first (slot_at a one)).refused second)
          (second_only v (spent b) two (first (slot_at b one)) (first (slot_at b one)).refused second)
          (λ k _ u. grows k u)
          (λ u. stayed h u);
      same = λ u. cc;
    }
