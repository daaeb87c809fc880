use Rattle.std.proofs.Common.{◌-◌}
use Rattle.aes_spec.specs.Aes.{IsState, mixed_rounds}
use Rattle.aes_spec.specs.Key.{words_state}
use Rattle.aes_lanes.specs.Rounds.{IsLanes}
use Rattle.aes_lanes.proofs.single.enciphered.Given as goal

abbrev pub invariant-loop-round : goal.invariant-loop-round
invariant-loop-round l = record {
  states : IsState (mixed_rounds (words_state l.words) (l.round - 1) l.fn.block);
  lanes : IsLanes l.state (mixed_rounds (words_state l.words) (l.round - 1) l.fn.block);
}
