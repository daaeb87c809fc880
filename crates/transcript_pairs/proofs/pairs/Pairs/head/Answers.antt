use Rattle.std.proofs.Common.{◌≤◌, List, ℕ, length, sym, subst}
use Rattle.module_frames.specs.ReplyHeads.{IsReplyHead}
use Rattle.transcript_pairs.specs.ReplyStreams.{head_size}
use Rattle.transcript_pairs.proofs.PairFeeding.{read_reply, whole_size}
use Rattle.transcript_pairs.proofs.pairs.Pairs.head.Goals as goal

pub read_whole-requires-clause-whole : goal.read_whole-requires-clause-whole
read_whole-requires-clause-whole c =
    let whole = rw (← c.self.view_is) at (whole_size c.requires.0.reply c.args.self.now c.requires.1.reply) in
    subst (λ (xs : List ℕ). head_size xs ≤ length xs) (sym c.bytes.ensures) whole

pub returns : goal.returns
returns c =
    let is = rw (← c.self.view_is) at c.requires.1.reply in
    let read = subst (λ (xs : List ℕ). IsReplyHead c.read_whole.result xs) c.bytes.ensures c.read_whole.ensures in
    rw (← c.self.view_is) (read_reply c.requires.0.reply c.read_whole.result _ is read)
