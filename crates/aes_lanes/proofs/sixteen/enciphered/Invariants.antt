use Rattle.std.proofs.Common.{◌-◌, ◌<◌, ℕ, List}
use Rattle.aes_spec.specs.Aes.{IsState, add_round_key, mixed_rounds}
use Rattle.aes_lanes.specs.Rounds.{IsInTower, AreKeys}
use Rattle.aes_lanes.proofs.sixteen.enciphered.Given as goal

abbrev pub invariant-loop-round : goal.invariant-loop-round
invariant-loop-round l = (j : ℕ) (w : ℕ → List ℕ) (block : List ℕ) → j < 16 → IsState block → AreKeys l.keys j w l.rounds → IsInTower l.fn.start j (add_round_key (w 0) block) → IsInTower l.state j (mixed_rounds w (l.round - 1) block)
