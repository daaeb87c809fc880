use Rattle.std.proofs.Common.{◌≡◌, vec_len}
use Rattle.gcm_bench.proofs.work.text.Given as goal

abbrev pub invariant-loop-i : goal.invariant-loop-i
invariant-loop-i l = vec_len l.text ≡ l.i
