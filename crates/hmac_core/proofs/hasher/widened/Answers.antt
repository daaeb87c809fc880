use Rattle.std.proofs.Common.{ℕ, arith}
use Rattle.std.proofs.lemmas.List.{length-replicate}
use Rattle.bits_core.proofs.ZeroPadding.{is_zero_padded, get_or-zeros}
use Rattle.hmac_core.proofs.hasher.widened.Goals as goal

pub loop-i-init : goal.loop-i-init
loop-i-init g c = record { size = length-replicate {A = ℕ} g.row.N 0; copied = λ k h. absurd (omega arith); rest = λ k h. get_or-zeros g.row.N k }

pub returns : goal.returns
returns g c = is_zero_padded g.row.N c.loop-i.out c.args.bytes.now c.loop-i.invariant.size c.requires (λ k h. c.loop-i.invariant.copied k (omega arith)) (λ k h. c.loop-i.invariant.rest k (omega arith))
