-- What ZeroiseTree leaves.
use Rattle.std.proofs.Common.{◌≡◌, ℕ, Bool, true, cond, List, length, get_or, sym, ap, subst, ◌∙◌, arith, inl, inr}
use Rattle.std.proofs.lemmas.Bool.{cases_lt}
use Rattle.std.proofs.lemmas.List.{get_or_past}
use Rattle.std.proofs.lemmas.List.FromFn.{length-map-range_with_len}
use Rattle.service_table.specs.declared.status.Status.TheVariants as status
use Rattle.ssp_slots.specs.Slots.{Contents, empty_slot}
use Rattle.ssp_slots.specs.Ancestry.{descendants, with_each, tree_zeroised}
use Rattle.ssp_slots.proofs.Trees.{get_or-with_each, tree_spared}
use Rattle.module_frames.specs.Requests.{RequestValue}
use Rattle.module_frames.specs.Requests as request
use Rattle.engine_core.specs.Calls.{Calls}
use Rattle.state_model.specs.MachineState.{MachineState, vault_of}
use Rattle.state_model.specs.Management.{Stepped}
use Rattle.state_model.specs.Laws.{IsRefusedAtOnce, IsTreeEmptied, ZeroisingEmptiesTree}
use Rattle.state_model.specs.Step.{perform}
use Rattle.state_model.proofs.Steps.{by_request, same_request}

-- what stands at each number of a set that was written
pub each_written : {A : Type 0} (in_set : ℕ → Bool) (x : A) (xs : List A) (k : ℕ) → in_set k ≡ true → get_or (with_each in_set x xs) k x ≡ x
each_written {A} in_set x xs k member = elim (cases_lt k (length xs)) [
  | inl within ↦ get_or-with_each in_set x xs k within ∙ ap (λ (b : Bool). cond b x (get_or xs k x)) member
  | inr past ↦
      let long : length (with_each in_set x xs) ≡ length xs = length-map-range_with_len (λ (j : ℕ). cond (in_set j) x (get_or xs j x)) 0 (length xs) in
      get_or_past (with_each in_set x xs) k x (omega (arith, long, past))
]

tree_empty : (vault : Contents) (id : ℕ) → IsTreeEmptied vault (tree_zeroised vault id) id
tree_empty vault id other = (
  λ member. (each_written (descendants vault.rows id) empty_slot vault.slots other member, each_written (descendants vault.rows id) 0 vault.rows other member),
  λ spared. tree_spared id other vault spared,
)

-- nothing was done where a command was refused at once
barred_is_not_done : IsRefusedAtOnce status.Ok → ⊥
barred_is_not_done which = elim which [ inl a ↦ cc | inr b ↦ (elim b [ inl c ↦ cc | inr d ↦ cc ]) ]

pub empties_tree : {V : Type 0} (calls : Calls V) → ZeroisingEmptiesTree calls
empties_tree {V} calls s events command slot is =
    let Empties : Stepped V → Type 0 = λ after. after.status ≡ status.Ok → IsTreeEmptied (vault_of s) (vault_of after.machine) slot in
    by_request calls s events command Empties (λ t same reason barred ok. absurd (barred_is_not_done (subst IsRefusedAtOnce ok barred)))
    (λ t same what is'. performed t same what (same_request _ (request.ZeroiseTree slot) what is is')) (λ ok. cc)
  where
    performed : (t : MachineState V) → vault_of t ≡ vault_of s → (what : RequestValue) → what ≡ request.ZeroiseTree slot
        → (perform calls t events what).status ≡ status.Ok → IsTreeEmptied (vault_of s) (vault_of (perform calls t events what).machine) slot
    performed t same what is ok =
        let From : Contents → Type 0 = λ vault. IsTreeEmptied vault (tree_zeroised (vault_of t) slot) slot in
        let Made : RequestValue → Type 0 = λ made. IsTreeEmptied (vault_of s) (vault_of (perform calls t events made).machine) slot in
        subst Made (sym is) (subst From same (tree_empty (vault_of t) slot))
