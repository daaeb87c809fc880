-- What a wrong call leaves.
use Rattle.std.proofs.Common.{◌≡◌, ℕ, ◌-◌, ◌==◌, Bool, true, false, List, refl, ap, ◌∙◌, if◌then◌else◌}
use Rattle.engine_core.specs.Faults.{turned}
use Rattle.engine_core.specs.Engines.{fails, counted, answered}
use Rattle.engine_core.specs.declared.faulty.Faulty.{Faulty}

bit_stays : (call : ℕ) (v : Faulty) → (counted call v).bit ≡ v.bit
bit_stays call v = by_call (v.call == call)
  where
    by_call : (same : Bool) → (if same then (let after : Faulty = record v { left = v.left - 1 } in after) else v).bit ≡ v.bit
    by_call true = refl
    by_call false = refl

pub wrong_answer : (call : ℕ) (v after : Faulty) (right given out : List ℕ) → true ≡ fails call v → after ≡ counted call v → given ≡ right
    → out ≡ turned after.bit given → out ≡ answered call v right
wrong_answer call v after right given out wrong count is turn =
    turn
    ∙ ap (λ (w : Faulty). turned w.bit given) count
    ∙ ap (λ (bit : ℕ). turned bit given) (bit_stays call v)
    ∙ ap (turned v.bit) is
    ∙ ap (λ (b : Bool). if b then turned v.bit right else right) wrong
