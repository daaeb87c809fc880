use Rattle.std.proofs.Common.{◌≡◌, ◌≢◌, ◌≤◌, List, ℕ, length, ap, arith, sym, subst, ◌∙◌}
use Rattle.std.proofs.lemmas.Bool.Decides.{nat_tests}
use Rattle.module_frames.specs.ReplyHeads.{IsReplyHead}
use Rattle.transcript_pairs.specs.PairSteps.{pair_of}
use Rattle.transcript_pairs.specs.ReplyStreams.{head_size, payload_length}
use Rattle.transcript_pairs.proofs.HeldPairs.{told_length}
use Rattle.transcript_pairs.proofs.PairFeeding.{exact_reply}
use Rattle.transcript_pairs.proofs.pairs.Pairs.is_whole.Goals as goal

pub returns-clause-whole : goal.returns-clause-whole
returns-clause-whole c full =
    let same : c.self.inside.skipped ≡ c.read_whole.result.length = grind (arith, nat_tests, full) in
    let read = subst (λ (xs : List ℕ). IsReplyHead c.read_whole.result xs) c.bytes-head.ensures c.read_whole.ensures in
    let stands = rw (← c.self.view_is) at c.requires.stands in
    rw (← c.self.view_is) (
      record { command = stands.0; reply = c.read_whole.result },
      record { command = stands.1; reply = exact_reply c.read_whole.result (pair_of c.self.inside) read c.self.invariant.most same },
    )

pub returns-clause-short : goal.returns-clause-short
returns-clause-short c part =
    let told : payload_length c.self.inside.head ≡ c.read_whole.result.length = sym (ap payload_length c.bytes-head.ensures) ∙ told_length c.read_whole.result c.bytes-head.result.now c.read_whole.ensures in
    let whole : head_size c.self.inside.head ≤ length c.self.inside.head =
    omega (arith, c.if-head-head_size.false, c.head_size.ensures.size, ap head_size c.bytes-head.ensures, ap length c.bytes-head.ensures) in
    let differ : c.self.inside.skipped ≢ c.read_whole.result.length = grind (arith, nat_tests, part) in
    rw (← c.self.view_is) (omega (arith, differ, told, whole, c.self.invariant.skipped whole, c.self.invariant.most))
