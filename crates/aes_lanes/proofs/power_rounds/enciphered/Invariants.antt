use Rattle.std.proofs.Common.{◌-◌, ◌<◌, ℕ, List}
use Rattle.aes_spec.specs.Aes.{mixed_rounds}
use Rattle.aes_spec.specs.Key.{words_state}
use Rattle.aes_lanes.specs.Rounds.{IsBlock}
use Rattle.aes_lanes.proofs.power_rounds.enciphered.Given as goal

abbrev pub invariant-loop-round : goal.invariant-loop-round
invariant-loop-round l = (j : ℕ) (block : List ℕ) → j < 16 → IsBlock l.fn.start j block → IsBlock l.state j (mixed_rounds (words_state l.words) (l.round - 1) block)
