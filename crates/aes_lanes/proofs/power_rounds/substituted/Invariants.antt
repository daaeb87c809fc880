use Rattle.std.proofs.Common.{◌≡◌, ◌<◌, length, ℕ}
use Rattle.aes_spec.specs.Field.{sub_byte}
use Rattle.aes_lanes.specs.Rounds.{byte}
use Rattle.aes_lanes.proofs.power_rounds.substituted.Given as goal

abbrev pub invariant-loop-r : goal.invariant-loop-r
invariant-loop-r l = record {
  long : length l.t ≡ 16;
  done : (r j : ℕ) → r < l.r → j < 16 → byte l.t j r ≡ sub_byte (byte l.s j r);
}
