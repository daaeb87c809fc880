use Rattle.std.proofs.Common.{◌*◌}
use Rattle.aes_spec.specs.Aes.{cipher}
use Rattle.aes_spec.specs.Key.{words_state}
use Rattle.aes_lanes.specs.Streams.{Adds}
use Rattle.aes_lanes.proofs.stream.add_singles.Given as goal

abbrev pub invariant-loop-i : goal.invariant-loop-i
invariant-loop-i l = Adds (cipher (words_state l.words) l.rounds) l.fn.start l.fn.text l.text (16 * l.fn.first) (16 * l.i)
