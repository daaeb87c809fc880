-- A tree is zeroised slot by slot.
use Rattle.std.proofs.Common.{◌≡◌, ◌≢◌, ℕ, ◌+◌, ◌<◌, ◌≤◌, ◌==◌, ◌||◌, Bool, true, false, cond, List, length, get_or, set, refl, sym, ap, subst, ◌∙◌, arith, inl, inr}
use Rattle.std.proofs.lemmas.Bool.{cases_eq, cases_lt}
use Rattle.std.proofs.lemmas.List.{ext_get_or, length-set, get_or-set_same, get_or-set_other, get_or_past}
use Rattle.std.proofs.lemmas.List.FromFn.{get_or-map-range_with_len, length-map-range_with_len}
use Rattle.ssp_slots.specs.declared.slot.Slot.{Slot}
use Rattle.ssp_slots.specs.Slots.{Contents, empty_slot, slot_in, row_in, zeroised_in}
use Rattle.ssp_slots.specs.Ancestry.{holds, descendants, with_each, tree_zeroised}

-- what stands at a number of the list with x at each number of a set
pub get_or-with_each : {A : Type 0} (in_set : ℕ → Bool) (x : A) (xs : List A) (k : ℕ) → k < length xs
    → get_or (with_each in_set x xs) k x ≡ cond (in_set k) x (get_or xs k x)
get_or-with_each {A} in_set x xs k within =
    get_or-map-range_with_len (λ (j : ℕ). cond (in_set j) x (get_or xs j x)) 0 (length xs) k k x within (omega arith)

-- the first n elements are those of the list with x at each number of a set, and the others are still the old ones
pub record WrittenUpTo {A : Type 0} (in_set : ℕ → Bool) (x : A) (n : ℕ) (before after : List A) : Type 0 where
  pub same_length : length after ≡ length before
  pub written : (k : ℕ) → k < n → get_or after k x ≡ cond (in_set k) x (get_or before k x)
  pub unwritten : (k : ℕ) → n ≤ k → get_or after k x ≡ get_or before k x

-- at the beginning
pub written_none : {A : Type 0} (in_set : ℕ → Bool) (x : A) (xs : List A) → WrittenUpTo in_set x 0 xs xs
written_none {A} in_set x xs = record { same_length = refl; written = λ k below. absurd (omega arith); unwritten = λ k from. refl }

-- one more, which is in the set
pub written_more : {A : Type 0} (in_set : ℕ → Bool) (x : A) (n : ℕ) (before after : List A) → n < length before → in_set n ≡ true
    → WrittenUpTo in_set x n before after → WrittenUpTo in_set x (n + 1) before (set after n x)
written_more {A} in_set x n before after within member so_far =
    let size : length after ≡ length before = so_far.same_length in
    record {
      same_length = length-set after n x ∙ size;
      written = λ k below. elim (cases_eq k n) [
        | inl same ↦
            ap (λ (j : ℕ). get_or (set after n x) j x) same ∙ get_or-set_same after n x x (omega arith)
            ∙ sym (ap (λ (b : Bool). cond b x (get_or before k x)) (ap in_set same ∙ member))
        | inr other ↦ get_or-set_other after n k x x other ∙ so_far.written k (omega arith)
      ];
      unwritten = λ k from. let other : k ≢ n = omega arith in get_or-set_other after n k x x other ∙ so_far.unwritten k (omega arith);
    }

-- one more, which isn't
pub written_past : {A : Type 0} (in_set : ℕ → Bool) (x : A) (n : ℕ) (before after : List A) → in_set n ≡ false
    → WrittenUpTo in_set x n before after → WrittenUpTo in_set x (n + 1) before after
written_past {A} in_set x n before after no_member so_far = record {
  same_length = so_far.same_length;
  written = λ k below. elim (cases_eq k n) [
    | inl same ↦ so_far.unwritten k (omega arith) ∙ sym (ap (λ (b : Bool). cond b x (get_or before k x)) (ap in_set same ∙ no_member))
    | inr other ↦ so_far.written k (omega arith)
  ];
  unwritten = λ k from. so_far.unwritten k (omega arith);
}

-- all of them
pub written_all : {A : Type 0} (in_set : ℕ → Bool) (x : A) (before after : List A) → WrittenUpTo in_set x (length before) before after → after ≡ with_each in_set x before
written_all {A} in_set x before after whole =
    let size : length after ≡ length before = whole.same_length in
    ext_get_or x after (with_each in_set x before)
    (size ∙ sym (length-map-range_with_len (λ (j : ℕ). cond (in_set j) x (get_or before j x)) 0 (length before)))
    (λ k below. whole.written k (omega arith) ∙ sym (get_or-with_each in_set x before k (omega arith)))

-- the slots and rows of a tree are zeroised up to a number
pub record TreeZeroisedUpTo (id n : ℕ) (before after : Contents) : Type 0 where
  pub slots : WrittenUpTo (descendants before.rows id) empty_slot n before.slots after.slots
  pub rows : WrittenUpTo (descendants before.rows id) 0 n before.rows after.rows

pub tree_begun : (id : ℕ) (vault : Contents) → TreeZeroisedUpTo id 0 vault vault
tree_begun id vault = record {
  slots = written_none (descendants vault.rows id) empty_slot vault.slots;
  rows = written_none (descendants vault.rows id) 0 vault.rows;
}

more_by : (id n : ℕ) (before after : Contents) (member : Bool) → descendants before.rows id n ≡ member → n < length before.slots → n < length before.rows
    → TreeZeroisedUpTo id n before after → TreeZeroisedUpTo id (n + 1) before (cond member (zeroised_in after n) after)
more_by id n before after true is within within_rows so_far = record {
  slots = written_more (descendants before.rows id) empty_slot n before.slots after.slots within is so_far.slots;
  rows = written_more (descendants before.rows id) 0 n before.rows after.rows within_rows is so_far.rows;
}
more_by id n before after false is within within_rows so_far = record {
  slots = written_past (descendants before.rows id) empty_slot n before.slots after.slots is so_far.slots;
  rows = written_past (descendants before.rows id) 0 n before.rows after.rows is so_far.rows;
}

-- one number more: its row is still the old one, so it tells whether the slot is in the tree
pub tree_more : (id n : ℕ) (before after : Contents) → n < length before.slots → n < length before.rows → TreeZeroisedUpTo id n before after
    → TreeZeroisedUpTo id (n + 1) before (cond (descendants after.rows id n) (zeroised_in after n) after)
tree_more id n before after within within_rows so_far =
    let row : row_in after n ≡ row_in before n = so_far.rows.unwritten n (omega arith) in
    let member : descendants before.rows id n ≡ descendants after.rows id n = sym (ap (λ (r : ℕ). n == id || holds r id) row) in
    more_by id n before after (descendants after.rows id n) member within within_rows so_far

pub tree_whole : (id : ℕ) (before after : Contents) → length before.slots ≡ 16 → length before.rows ≡ 16 → TreeZeroisedUpTo id 16 before after → after ≡ tree_zeroised before id
tree_whole id before after sixteen sixteen_rows whole =
    let tree : ℕ → Bool = descendants before.rows id in
    let SlotsUpTo : ℕ → Type 0 = λ n. WrittenUpTo tree empty_slot n before.slots after.slots in
    let RowsUpTo : ℕ → Type 0 = λ n. WrittenUpTo tree 0 n before.rows after.rows in
    let slots : after.slots ≡ with_each tree empty_slot before.slots = written_all tree empty_slot before.slots after.slots (subst SlotsUpTo (sym sixteen) whole.slots) in
    let rows : after.rows ≡ with_each tree 0 before.rows = written_all tree 0 before.rows after.rows (subst RowsUpTo (sym sixteen_rows) whole.rows) in
    let of_slots : List Slot → Contents = λ s. record { slots = s; rows = after.rows } in
    let of_rows : List ℕ → Contents = λ r. record { slots = with_each tree empty_slot before.slots; rows = r } in
    ap of_slots slots ∙ ap of_rows rows

-- what stands at a number of a tree, after it was zeroised
pub tree_emptied : (id other : ℕ) (vault : Contents) → length vault.slots ≡ 16 → length vault.rows ≡ 16 → other < 16 → descendants vault.rows id other ≡ true
    → (slot_in (tree_zeroised vault id) other ≡ empty_slot) × (row_in (tree_zeroised vault id) other ≡ 0)
tree_emptied id other vault sixteen sixteen_rows below member =
    let tree : ℕ → Bool = descendants vault.rows id in (
      get_or-with_each tree empty_slot vault.slots other (omega arith) ∙ ap (λ (b : Bool). cond b empty_slot (slot_in vault other)) member,
      get_or-with_each tree 0 vault.rows other (omega arith) ∙ ap (λ (b : Bool). cond b 0 (row_in vault other)) member,
    )

stays : {A : Type 0} (in_set : ℕ → Bool) (x : A) (xs : List A) (k : ℕ) → in_set k ≡ false → get_or (with_each in_set x xs) k x ≡ get_or xs k x
stays {A} in_set x xs k no_member = elim (cases_lt k (length xs)) [
  | inl within ↦ get_or-with_each in_set x xs k within ∙ ap (λ (b : Bool). cond b x (get_or xs k x)) no_member
  | inr past ↦
      let long : length (with_each in_set x xs) ≡ length xs = length-map-range_with_len (λ (j : ℕ). cond (in_set j) x (get_or xs j x)) 0 (length xs) in
      get_or_past (with_each in_set x xs) k x (omega arith) ∙ sym (get_or_past xs k x past)
]

-- and at any other
pub tree_spared : (id other : ℕ) (vault : Contents) → descendants vault.rows id other ≡ false
    → (slot_in (tree_zeroised vault id) other ≡ slot_in vault other) × (row_in (tree_zeroised vault id) other ≡ row_in vault other)
tree_spared id other vault no_member =
    let tree : ℕ → Bool = descendants vault.rows id in
    (stays tree empty_slot vault.slots other no_member, stays tree 0 vault.rows other no_member)
