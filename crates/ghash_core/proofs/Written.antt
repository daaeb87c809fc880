-- Lists that a loop writes, one entry after the other.
use Rattle.std.proofs.Common.{◌≡◌, ℕ, ◌<◌, List, length, get_or, sym, ap, ◌∙◌, subst, inl, inr}
use Rattle.std.specs.Prelude.{slice_set}
use Rattle.std.proofs.lemmas.List.{get_or-set_same, get_or-set_other}
use Rattle.std.proofs.lemmas.Bool.{cases_eq}

-- what holds of the new entry at i, and of the others before, holds of all after
pub written : {A : Type 0} (P : ℕ → A → Type 0) (xs : List A) (new d : A) (i j : ℕ) → i < length xs → P i new → ((j ≡ i → ⊥) → P j (get_or xs j d)) →
    P j (get_or (slice_set xs i new) j d)
written P xs new d i j l now before = elim (cases_eq j i) [
  | inl same ↦
      let read : get_or (slice_set xs i new) j d ≡ new = ap (λ (q : ℕ). get_or (slice_set xs i new) q d) same ∙ get_or-set_same xs i new d l in
      subst (P j) (sym read) (subst (λ (q : ℕ). P q new) (sym same) now)
  | inr other ↦ subst (P j) (sym (get_or-set_other xs i j new d other)) (before other)
]
