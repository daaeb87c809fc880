-- The rules of a vault hold after a link, and after a tree was zeroised.
use Rattle.std.proofs.Common.{◌≡◌, ◌<◌, ◌^◌, ℕ, Bool, true, false, cond, length, get_or, bit_or, refl, sym, subst, ◌∙◌, arith, inl, inr}
use Rattle.std.proofs.lemmas.Nat.{or_of_16, pow_below}
use Rattle.std.proofs.lemmas.Bool.{cases_lt}
use Rattle.std.proofs.lemmas.List.{get_or_past}
use Rattle.std.proofs.lemmas.List.FromFn.{length-map-range_with_len}
use Rattle.ssp_slots.specs.declared.slot.Slot.{Slot}
use Rattle.ssp_slots.specs.Slots.{Contents, AreWellFormed, IsWellFormed, empty_slot, slot_in, row_in}
use Rattle.ssp_slots.specs.Ancestry.{descendants, with_each, linked, set_with, tree_zeroised}
use Rattle.ssp_slots.proofs.WellFormedSlots.{AreWellFormed-with_row}
use Rattle.ssp_slots.proofs.Trees.{tree_emptied, tree_spared}
use Rattle.module_frames.specs.Requests.{CryptographicRequest, IsCryptographicInRange}
use Rattle.module_frames.specs.Requests as request
use Rattle.state_model.specs.Cryptographic.{link_of, with_link}

-- a link between two of the sixteen slots
linked_kept : (vault : Contents) (source target : ℕ) → AreWellFormed vault → source < 16 → AreWellFormed (record vault { rows = linked vault.rows source target })
linked_kept vault source target are below =
    AreWellFormed-with_row vault target (set_with (row_in vault target) source (row_in vault source)) are
    (or_of_16 (bit_or (row_in vault target) (2 ^ source)) (row_in vault source)
    (or_of_16 (row_in vault target) (2 ^ source) (are.each_row target) (pow_below source 16 below)) (are.each_row source))

-- the link of a request, where it has one
pub with_link_kept : (vault : Contents) (what : CryptographicRequest) → IsCryptographicInRange what → AreWellFormed vault → AreWellFormed (record vault { rows = with_link vault.rows (link_of what) })
with_link_kept vault (request.Hash alg text) range are = are
with_link_kept vault (request.Mac slot alg mac_length text) range are = are
with_link_kept vault (request.MacVerify slot alg tag text) range are = are
with_link_kept vault (request.Seal slot tag_length aad text) range are = are
with_link_kept vault (request.SealIv slot tag_length iv aad text) range are = are
with_link_kept vault (request.Open slot iv aad text tag) range are = are
with_link_kept vault (request.Wrap pad kek second) range are = are
with_link_kept vault (request.Unwrap pad kek target kind export uses wrapped) range are = linked_kept vault kek target are range.0
with_link_kept vault (request.Derive source target kind export uses long label context) range are = linked_kept vault source target are range.0
with_link_kept vault (request.Random long additional) range are = are
with_link_kept vault (request.Generate target header long) range are = are
with_link_kept vault (request.Reseed additional) range are = are

-- each slot of a zeroised tree is empty, and each other is as it was
tree_slot_kept : (vault : Contents) (id other : ℕ) (member : Bool) → descendants vault.rows id other ≡ member → AreWellFormed vault → other < 16 → IsWellFormed (slot_in (tree_zeroised vault id) other)
tree_slot_kept vault id other true is are below =
    let Well : Slot → Type 0 = λ s. IsWellFormed s in
    subst Well (sym (tree_emptied id other vault are.sixteen are.sixteen_rows below is).0) refl
tree_slot_kept vault id other false is are below =
    let Well : Slot → Type 0 = λ s. IsWellFormed s in
    subst Well (sym (tree_spared id other vault is).0) (are.each other below)

tree_row_kept : (vault : Contents) (id other : ℕ) (member : Bool) → descendants vault.rows id other ≡ member → AreWellFormed vault → row_in (tree_zeroised vault id) other < 2 ^ 16
tree_row_kept vault id other true is are = elim (cases_lt other 16) [
  | inl below ↦
      let none : row_in (tree_zeroised vault id) other ≡ 0 = (tree_emptied id other vault are.sixteen are.sixteen_rows below is).1 in
      omega (arith, none)
  | inr past ↦
      let tree : ℕ → Bool = descendants vault.rows id in
      let long : length (with_each tree 0 vault.rows) ≡ length vault.rows = length-map-range_with_len (λ (j : ℕ). cond (tree j) 0 (get_or vault.rows j 0)) 0 (length vault.rows) in
      let sixteen : length vault.rows ≡ 16 = are.sixteen_rows in
      let none : row_in (tree_zeroised vault id) other ≡ 0 = get_or_past (with_each tree 0 vault.rows) other 0 (omega (arith, long, sixteen, past)) in
      omega (arith, none)
]
tree_row_kept vault id other false is are =
    let same : row_in (tree_zeroised vault id) other ≡ row_in vault other = (tree_spared id other vault is).1 in
    let small : row_in vault other < 2 ^ 16 = are.each_row other in
    omega (arith, same, small)

pub AreWellFormed-tree_zeroised : (vault : Contents) (id : ℕ) → AreWellFormed vault → AreWellFormed (tree_zeroised vault id)
AreWellFormed-tree_zeroised vault id are =
    let tree : ℕ → Bool = descendants vault.rows id in
    record {
      sixteen = length-map-range_with_len (λ (j : ℕ). cond (tree j) empty_slot (get_or vault.slots j empty_slot)) 0 (length vault.slots) ∙ are.sixteen;
      each = λ other below. tree_slot_kept vault id other (descendants vault.rows id other) refl are below;
      sixteen_rows = length-map-range_with_len (λ (j : ℕ). cond (tree j) 0 (get_or vault.rows j 0)) 0 (length vault.rows) ∙ are.sixteen_rows;
      each_row = λ other. tree_row_kept vault id other (descendants vault.rows id other) refl are;
    }
