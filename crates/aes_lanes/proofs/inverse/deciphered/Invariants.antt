use Rattle.std.proofs.Common.{◌≡◌, ◌-◌}
use Rattle.aes_spec.specs.Aes.{unmixed_rounds, inverse_cipher}
use Rattle.aes_spec.specs.Key.{words_state}
use Rattle.aes_lanes.proofs.inverse.deciphered.Given as goal

abbrev pub invariant-loop-done : goal.invariant-loop-done
invariant-loop-done l =
    unmixed_rounds (words_state l.words) (l.rounds - l.done) l.state ≡ inverse_cipher (words_state l.words) l.rounds l.fn.block
