-- The block of a full slot.
use Rattle.std.proofs.Common.{◌≡◌, ◌≢◌, ◌≤◌, ℕ, Bool, true, false, List, [], ◌∷◌, Some, None, length, get_or, drop, refl, sym, ap, ◌∙◌, arith, if◌then◌else◌}
use Rattle.std.specs.Prelude.{◌==◌}
use Rattle.std.specs.Int.{to_be_bytes, w32}
use Rattle.std.proofs.lemmas.Bool.Decides.{nat_tests}
use Rattle.bits_core.specs.declared.parameter.Header.{Header}
use Rattle.bits_core.specs.declared.parameter.Kind.{Kind}
use Rattle.bits_core.specs.declared.parameter.Domain.{Domain}
use Rattle.bits_core.specs.Parameters.{kind_number, domain_number}
use Rattle.module_frames.specs.LawfulSteps.{IsSlotBlock}
use Rattle.module_frames.specs.PublicState.{header_block, no_block}

eight_cells : (block : List ℕ) → 8 ≤ length block
    → block ≡ get_or block 0 0 ∷ get_or block 1 0 ∷ get_or block 2 0 ∷ get_or block 3 0 ∷ get_or block 4 0 ∷ get_or block 5 0 ∷ get_or block 6 0 ∷ get_or block 7 0 ∷ drop 8 block
eight_cells [] h = absurd (omega arith)
eight_cells (a ∷ []) h = absurd (omega arith)
eight_cells (a ∷ b ∷ []) h = absurd (omega arith)
eight_cells (a ∷ b ∷ c ∷ []) h = absurd (omega arith)
eight_cells (a ∷ b ∷ c ∷ d ∷ []) h = absurd (omega arith)
eight_cells (a ∷ b ∷ c ∷ d ∷ e ∷ []) h = absurd (omega arith)
eight_cells (a ∷ b ∷ c ∷ d ∷ e ∷ f ∷ []) h = absurd (omega arith)
eight_cells (a ∷ b ∷ c ∷ d ∷ e ∷ f ∷ g ∷ []) h = absurd (omega arith)
eight_cells (a ∷ b ∷ c ∷ d ∷ e ∷ f ∷ g ∷ h ∷ remainder) h' = refl

flag : (n : ℕ) → n ≤ 1 → n ≡ (if n == 1 then 1 else 0)
flag n most = by_test (n == 1) refl
  where
    by_test : (one : Bool) → (n == 1) ≡ one → n ≡ (if one then 1 else 0)
    by_test true test = grind (arith, nat_tests)
    by_test false test = grind (arith, nat_tests)

pub full_block : (block : List ℕ) (kind : Kind) (domain : Domain) (uses : ℕ) → length block ≡ 12 → get_or block 0 0 ≡ 1 → kind_number kind ≡ get_or block 1 0 → domain_number domain ≡ get_or block 2 0
    → get_or block 3 0 ≤ 1 → get_or block 5 0 ≡ 0 → get_or block 6 0 ≡ 0 → get_or block 7 0 ≡ 0 → to_be_bytes w32 uses ≡ drop 8 block
    → block ≡ header_block (get_or block 4 0) (record { kind = kind; domain = domain; export = get_or block 3 0 == 1; uses = uses })
full_block block kind domain uses long full k d most a b c tail =
    let start = eight_cells block (omega (arith, long)) in
    let rest : List ℕ = drop 8 block in
    start
    ∙ ap (λ x. x ∷ get_or block 1 0 ∷ get_or block 2 0 ∷ get_or block 3 0 ∷ get_or block 4 0 ∷ get_or block 5 0 ∷ get_or block 6 0 ∷ get_or block 7 0 ∷ rest) full
    ∙ ap (λ x. 1 ∷ x ∷ get_or block 2 0 ∷ get_or block 3 0 ∷ get_or block 4 0 ∷ get_or block 5 0 ∷ get_or block 6 0 ∷ get_or block 7 0 ∷ rest) (sym k)
    ∙ ap (λ x. 1 ∷ kind_number kind ∷ x ∷ get_or block 3 0 ∷ get_or block 4 0 ∷ get_or block 5 0 ∷ get_or block 6 0 ∷ get_or block 7 0 ∷ rest) (sym d)
    ∙ ap (λ x. 1 ∷ kind_number kind ∷ domain_number domain ∷ x ∷ get_or block 4 0 ∷ get_or block 5 0 ∷ get_or block 6 0 ∷ get_or block 7 0 ∷ rest) (flag (get_or block 3 0) most)
    ∙ ap (λ x. 1 ∷ kind_number kind ∷ domain_number domain ∷ (if get_or block 3 0 == 1 then 1 else 0) ∷ get_or block 4 0 ∷ x ∷ get_or block 6 0 ∷ get_or block 7 0 ∷ rest) a
    ∙ ap (λ x. 1 ∷ kind_number kind ∷ domain_number domain ∷ (if get_or block 3 0 == 1 then 1 else 0) ∷ get_or block 4 0 ∷ 0 ∷ x ∷ get_or block 7 0 ∷ rest) b
    ∙ ap (λ x. 1 ∷ kind_number kind ∷ domain_number domain ∷ (if get_or block 3 0 == 1 then 1 else 0) ∷ get_or block 4 0 ∷ 0 ∷ 0 ∷ x ∷ rest) c
    ∙ ap (λ (x : List ℕ). 1 ∷ kind_number kind ∷ domain_number domain ∷ (if get_or block 3 0 == 1 then 1 else 0) ∷ get_or block 4 0 ∷ 0 ∷ 0 ∷ 0 ∷ x) (sym tail)

-- neither the block of an empty slot nor that of a full one
pub no_slot_block : (block : List ℕ) → (block ≡ no_block → ⊥) → ((header : Header) (long : ℕ) → block ≢ header_block long header) → IsSlotBlock block → ⊥
no_slot_block block empty full (None, long, told) = empty told
no_slot_block block empty full (Some header, long, told) = full header long told.1
