-- Slots that are zeroised in both worlds are equal again.
use Rattle.std.proofs.Common.{◌≡◌, ◌≢◌, ℕ, Bool, true, false, List, length, refl, sym, ◌∙◌, arith}
use Rattle.std.specs.Prelude.{◌==◌, ◌&&◌, not}
use Rattle.std.proofs.lemmas.Bool.Decides.{nat_tests}
use Rattle.std.proofs.lemmas.List.FromFn.{length-map-range_with_len}
use Rattle.ssp_slots.specs.declared.slot.Slot.{Slot}
use Rattle.ssp_slots.specs.Slots.{Contents, empty_slot}
use Rattle.ssp_slots.specs.Ancestry.{descendants, with_each}
use Rattle.ssp_slots.proofs.Trees.{tree_spared}
use Rattle.crypto_services.specs.AtSlots.{slot_at, with_slot_at}
use Rattle.state_model.proofs.ZeroisedTrees.{each_written}
use Rattle.information_flow.specs.Tainted.{SlotsAgree}
use Rattle.information_flow.proofs.Agreeing.{set_only, one_agrees, read_same}

-- what left isn't tainted, and what was tainted and still is stays so
still_tainted : (tainted left : Bool) → left ≡ false → (tainted && not left) ≡ false → tainted ≡ false
still_tainted true true h u = cc
still_tainted true false h u = cc
still_tainted false left h u = refl

-- one slot
pub one_emptied : (tainted : ℕ → Bool) (a b : List Slot) (id : ℕ) → SlotsAgree tainted a b → SlotsAgree (λ k. tainted k && not (k == id)) (with_slot_at a id empty_slot) (with_slot_at b id empty_slot)
one_emptied tainted a b id agree =
    one_agrees tainted (λ k. tainted k && not (k == id)) id a b (with_slot_at a id empty_slot) (with_slot_at b id empty_slot) agree (set_only id a empty_slot) (set_only id b empty_slot)
    (λ k other u. still_tainted (tainted k) (k == id) (apart k other) u) (λ u. read_same a b id empty_slot empty_slot agree.many refl)
  where
    apart : (k : ℕ) → k ≢ id → (k == id) ≡ false
    apart k other = grind (arith, nat_tests)

-- a tree
pub tree_emptied_alike : (tainted : ℕ → Bool) (a b : List Slot) (rows : List ℕ) (id : ℕ) → SlotsAgree tainted a b
    → (let tree = descendants rows id in SlotsAgree (λ k. tainted k && not (tree k)) (with_each tree empty_slot a) (with_each tree empty_slot b))
tree_emptied_alike tainted a b rows id agree = record {
  many = sized a ∙ agree.many ∙ sym (sized b);
  each = λ k u. by_tree k (descendants rows id k) refl u;
}
  where
    tree : ℕ → Bool
    tree = descendants rows id

    sized : (slots : List Slot) → length (with_each tree empty_slot slots) ≡ length slots
    sized slots = length-map-range_with_len _ 0 (length slots)

    vault : List Slot → Contents
    vault slots = record { slots = slots; rows = rows }

    by_tree : (k : ℕ) (member : Bool) → tree k ≡ member → (tainted k && not (tree k)) ≡ false → slot_at (with_each tree empty_slot a) k ≡ slot_at (with_each tree empty_slot b) k
    by_tree k true is u = each_written tree empty_slot a k is ∙ sym (each_written tree empty_slot b k is)
    by_tree k false is u = (tree_spared id k (vault a) is).0 ∙ agree.each k (still_tainted (tainted k) (tree k) is u) ∙ sym (tree_spared id k (vault b) is).0
