-- What keeps slots equal outside what is tainted.
use Rattle.std.proofs.Common.{◌≡◌, ◌≢◌, ℕ, Bool, true, false, List, length, slice_set, slice_index_or, refl, sym, ap, ◌∙◌, arith, if◌then◌else◌}
use Rattle.std.specs.Prelude.{◌==◌, ◌&&◌, ◌||◌, not, nat_lt}
use Rattle.std.specs.Str.{bytes_eq}
use Rattle.std.proofs.lemmas.Slice.Eq.{bytes_eq-Decides}
use Rattle.std.proofs.lemmas.Bool.Decides.{nat_tests}
use Rattle.std.proofs.lemmas.List.{get_or-set_same, get_or-set_other, get_or_past, length-set}
use Rattle.ssp_slots.specs.declared.slot.Slot.{Slot}
use Rattle.ssp_slots.specs.Slots.{empty_slot}
use Rattle.crypto_services.specs.AtSlots.{slot_at, with_slot_at}
use Rattle.information_flow.specs.Tainted.{SlotsAgree}

-- what is read after a slot was set
read_set : (slots : List Slot) (place other : ℕ) (slot : Slot)
    → slice_index_or (slice_set slots place slot) other empty_slot ≡ (if other == place then (if nat_lt place (length slots) then slot else empty_slot) else slice_index_or slots other empty_slot)
read_set slots place other slot = grind (arith, nat_tests, get_or-set_same, get_or-set_other, get_or_past, length-set)

-- slots that differ from others in one at most
pub record OnlyAt (id : ℕ) (before after : List Slot) : Type 0 where
  pub many : length after ≡ length before
  pub others : (k : ℕ) → k ≢ id → slot_at after k ≡ slot_at before k

pub same_only : (id : ℕ) (slots : List Slot) → OnlyAt id slots slots
same_only id slots = record { many = refl; others = λ k other. refl }

pub set_only : (id : ℕ) (slots : List Slot) (slot : Slot) → OnlyAt id slots (with_slot_at slots id slot)
set_only id slots slot = record {
  many = length-set slots id slot;
  others = λ k other. get_or-set_other slots id k slot empty_slot other;
}

-- each world did what it did to one slot, which may be tainted; where it isn't, both did the same
pub one_agrees : (tainted after : ℕ → Bool) (id : ℕ) (a b c d : List Slot) → SlotsAgree tainted a b → OnlyAt id a c → OnlyAt id b d
    → ((k : ℕ) → k ≢ id → after k ≡ false → tainted k ≡ false) → (after id ≡ false → slot_at c id ≡ slot_at d id) → SlotsAgree after c d
one_agrees tainted after id a b c d agree left right grows here = record {
  many = left.many ∙ agree.many ∙ sym right.many;
  each = λ k clean. chosen k (k == id) refl clean;
}
  where
    chosen : (k : ℕ) (is : Bool) → (k == id) ≡ is → after k ≡ false → slot_at c k ≡ slot_at d k
    chosen k true is u = let same : k ≡ id = grind (arith, nat_tests) in
        rw same (here (ap after (sym same) ∙ u))
    chosen k false is u =
        let other : k ≢ id = λ e. absurd (grind (arith, nat_tests)) in
        left.others k other ∙ agree.each k (grows k other u) ∙ sym (right.others k other)

pub read_same : (a b : List Slot) (id : ℕ) (x y : Slot) → length a ≡ length b → x ≡ y → slot_at (with_slot_at a id x) id ≡ slot_at (with_slot_at b id y) id
read_same a b id x y many e =
    let self : (id == id) ≡ true = grind (arith, nat_tests) in
    rw (read_set a id id x, read_set b id id y, self, many, e) refl

-- the same slots in both
pub same_agree : (tainted : ℕ → Bool) (slots : List Slot) → SlotsAgree tainted slots slots
same_agree tainted slots = record { many = refl; each = λ k _. refl }

-- what is read where a slot was laid back
pub read_back : (slots : List Slot) (id : ℕ) (x : Slot) → x ≡ slot_at slots id → slot_at (with_slot_at slots id x) id ≡ slot_at slots id
read_back slots id x e = rw e (by_room (nat_lt id (length slots)) refl)
  where
    by_room : (within : Bool) → nat_lt id (length slots) ≡ within → slot_at (with_slot_at slots id (slot_at slots id)) id ≡ slot_at slots id
    by_room within is = grind (arith, nat_tests, get_or-set_same, get_or_past, length-set)

pub or_left : (a b : Bool) → (a || b) ≡ false → a ≡ false
or_left true b h = cc
or_left false b h = refl

pub or_right : (a b : Bool) → (a || b) ≡ false → b ≡ false
or_right true b h = cc
or_right false b h = h

-- more is tainted
pub grown_agree : (tainted after : ℕ → Bool) (a b : List Slot) → SlotsAgree tainted a b → ((k : ℕ) → after k ≡ false → tainted k ≡ false) → SlotsAgree after a b
grown_agree tainted after a b agree grows = record { many = agree.many; each = λ k u. agree.each k (grows k u) }

pub equal_bytes : (xs ys : List ℕ) → not (bytes_eq xs ys) ≡ false → xs ≡ ys
equal_bytes xs ys h = grind (arith, nat_tests, bytes_eq-Decides)

pub unequal_bytes : (xs : List ℕ) → not (bytes_eq xs xs) ≡ false
unequal_bytes xs = grind (arith, nat_tests, bytes_eq-Decides)

pub not_may_fill : (whole empty : Bool) (id : ℕ) → (whole && (empty && (id == id))) ≡ false → (whole && empty) ≡ false
not_may_fill whole empty id h = let self : (id == id) ≡ true = grind (arith, nat_tests) in grind (arith, nat_tests)
