use Rattle.std.proofs.Common.{◌≤◌}
use Rattle.hmac_bench.proofs.work.requests.Given as goal

abbrev pub invariant-loop : goal.invariant-loop
invariant-loop l = 1 ≤ l.drbg.counter
