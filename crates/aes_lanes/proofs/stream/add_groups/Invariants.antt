use Rattle.std.proofs.Common.{◌*◌, ◌<◌, ℕ, List}
use Rattle.aes_spec.specs.Aes.{cipher}
use Rattle.aes_lanes.specs.Rounds.{AreKeys}
use Rattle.aes_lanes.specs.Streams.{Adds}
use Rattle.aes_lanes.proofs.stream.add_groups.Given as goal

abbrev pub invariant-loop-i : goal.invariant-loop-i
invariant-loop-i l = (w : ℕ → List ℕ) → ((j : ℕ) → j < 16 → AreKeys l.keys j w l.rounds) → Adds (cipher w l.rounds) l.fn.start l.fn.text l.text 0 (256 * l.i)
