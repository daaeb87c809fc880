use Rattle.std.proofs.Common.{◌≡◌, ℕ, List, [], ◌∷◌, ◌++◌, length, get_or, refl, arith}
use Rattle.gcm_mode.proofs.blocks.short_counter.Goals as goal

twelve : (iv : List ℕ) → length iv ≡ 12 →
    (get_or iv 0 0 ∷ get_or iv 1 0 ∷ get_or iv 2 0 ∷ get_or iv 3 0 ∷ get_or iv 4 0 ∷ get_or iv 5 0 ∷ get_or iv 6 0 ∷ get_or iv 7 0 ∷ get_or iv 8 0 ∷ get_or iv 9 0 ∷ get_or iv 10 0 ∷ get_or iv 11 0 ∷ 0 ∷ 0 ∷ 0 ∷ 1 ∷ []) ≡ iv ++ 0 ∷ 0 ∷ 0 ∷ 1 ∷ []
twelve (a ∷ b ∷ c ∷ d ∷ e ∷ f ∷ g ∷ h ∷ i ∷ j ∷ k ∷ l ∷ []) size = refl
twelve iv size = absurd (omega arith)

pub returns : goal.returns
returns c = twelve c.args.iv.now c.requires
