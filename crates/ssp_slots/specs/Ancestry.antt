-- What a slot's parameter was made from: a row for each slot, each a set of slots. These rules are this project's own; ISO/IEC
-- 19790:2012, 7.9.7, asks that a parameter can be zeroised, and so what was made from it can be found.
use Rattle.std.specs.Prelude.{ℕ, ◌^◌, ◌==◌, ◌||◌, Bool, List, map, length, if◌then◌else◌, slice_index, slice_index_or, slice_set, bit_or}
use Rattle.std.specs.Int.{bit_at}
use Rattle.std.specs.List.{range_with_len}
use Rattle.ssp_slots.specs.Slots.{Contents, empty_slot}

-- A set of slots is a number: slot i is the bit of value 2^i. Whether a slot is in it:
abbrev pub holds : ℕ → ℕ → Bool
holds set id = bit_at set id == 1

-- the set with a slot and the members of another set
abbrev pub set_with : ℕ → ℕ → ℕ → ℕ
set_with set id others = bit_or (bit_or set (2 ^ id)) others

-- the rows after a parameter was made for a target from that of a source: the target's row has gained the source and the source's row
abbrev pub linked : List ℕ → ℕ → ℕ → List ℕ
linked rows source target = slice_set rows target (set_with (slice_index rows target) source (slice_index rows source))

abbrev pub linked_in : Contents → ℕ → ℕ → Contents
linked_in vault source target = record vault { rows = linked vault.rows source target }

-- the tree of a slot: the slot, and each slot whose row holds it
abbrev pub descendants : List ℕ → ℕ → ℕ → Bool
descendants rows id other = other == id || holds (slice_index rows other) id

-- the list with x at each number of a set, and all else as it was
abbrev pub with_each : {A : Type 0} → (ℕ → Bool) → A → List A → List A
with_each set x xs = map (λ k. if set k then x else slice_index_or xs k x) (range_with_len 0 (length xs))

-- the vault after the slots of a tree were zeroised, with their rows
abbrev pub tree_zeroised : Contents → ℕ → Contents
tree_zeroised vault id =
    let tree = descendants vault.rows id in
    record { slots = with_each tree empty_slot vault.slots; rows = with_each tree 0 vault.rows }
