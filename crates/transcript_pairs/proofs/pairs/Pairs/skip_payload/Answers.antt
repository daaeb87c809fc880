use Rattle.std.proofs.Common.{◌≡◌, ap, arith, sym, ◌∙◌}
use Rattle.transcript_pairs.specs.ReplyStreams.{payload_length}
use Rattle.transcript_pairs.proofs.HeldPairs.{skipped_reader, told_length}
use Rattle.transcript_pairs.proofs.pairs.Pairs.skip_payload.Goals as goal

pub overflow_sub-missing : goal.overflow_sub-missing
overflow_sub-missing c =
    let whole = rw (← c.self.view_is) at (c.is_headed.ensures.0 c.if-not-is_headed.false) in
    let told : payload_length c.self.inside.head ≡ c.read_whole.result.length = sym (ap payload_length c.bytes.ensures) ∙ told_length c.read_whole.result c.bytes.result.now c.read_whole.ensures in
    omega (arith, c.self.invariant.skipped whole, told)

pub invariant_of-self : goal.invariant_of-self
invariant_of-self c =
    let whole = rw (← c.self.view_is) at (c.is_headed.ensures.0 c.if-not-is_headed.false) in
    let short = rw (← c.self.view_is) at c.requires.short in
    let told : payload_length c.self.inside.head ≡ c.read_whole.result.length = sym (ap payload_length c.bytes.ensures) ∙ told_length c.read_whole.result c.bytes.result.now c.read_whole.ensures in
    skipped_reader c.self.inside c.args.piece.now c.min-taken.result c.self.invariant short (omega (arith, c.min-taken.ensures)) whole
    (omega (arith, c.min-taken.ensures, c.self.invariant.skipped whole, told))

pub returns-clause-all : goal.returns-clause-all
returns-clause-all c whole' part' =
    let whole = rw (← c.self.view_is) at whole' in
    let part = rw (← c.self.view_is) at part' in
    let told : payload_length c.self.inside.head ≡ c.read_whole.result.length = sym (ap payload_length c.bytes.ensures) ∙ told_length c.read_whole.result c.bytes.result.now c.read_whole.ensures in
    omega (arith, c.min-taken.ensures, c.self.invariant.skipped whole, told, part)
