use Rattle.std.proofs.Common.{◌+◌, length, ap, arith, sym, ◌∙◌}
use Rattle.transcript_pairs.specs.PairStreams.{HeldPair}
use Rattle.transcript_pairs.proofs.HeldPairs.{broken_command, command_fault, more_command, no_reply, none_of, whole_command}
use Rattle.transcript_pairs.proofs.pairs.Pairs.take_command.Goals as goal

pub overflow_add-place : goal.overflow_add-place
overflow_add-place c =
    let fresh = ap (λ (p : HeldPair). p.fault) c.self.view_is ∙ c.requires.no_fault in
    let fault = command_fault c.self.inside c.args.piece.now c.feed-answer.new.self c.in-BadFrame.offset c.self.invariant fresh c.in-BadFrame.ensures in
    omega (arith, fault.place, fault.early, c.self.invariant.short)

pub returns-in-BadFrame : goal.returns-in-BadFrame
returns-in-BadFrame c =
    let fresh = ap (λ (p : HeldPair). p.fault) c.self.view_is ∙ c.requires.no_fault in
    let fault = command_fault c.self.inside c.args.piece.now c.feed-answer.new.self c.in-BadFrame.offset c.self.invariant fresh c.in-BadFrame.ensures in
    let none = no_reply c.self.inside c.self.invariant (none_of c.self.inside.head c.bytes.result.now c.bytes.ensures (sym c.is_empty.ensures ∙ c.if-not-is_empty.false)) in
    rw (← c.self.view_is) (broken_command c.self.inside c.args.piece.now c.feed-answer.new.self c.in-BadFrame.offset c.self.invariant fresh none fault)

pub returns-in-More : goal.returns-in-More
returns-in-More c =
    let fresh = ap (λ (p : HeldPair). p.fault) c.self.view_is ∙ c.requires.no_fault in
    let none = no_reply c.self.inside c.self.invariant (none_of c.self.inside.head c.bytes.result.now c.bytes.ensures (sym c.is_empty.ensures ∙ c.if-not-is_empty.false)) in
    rw (← c.self.view_is, c.in-More.is) (more_command c.self.inside c.args.piece.now c.feed-answer.new.self (c.self.inside.taken + length c.args.piece.now) c.self.invariant fresh none c.in-More.ensures)

pub returns-in-Whole : goal.returns-in-Whole
returns-in-Whole c =
    let fresh = ap (λ (p : HeldPair). p.fault) c.self.view_is ∙ c.requires.no_fault in
    let none = no_reply c.self.inside c.self.invariant (none_of c.self.inside.head c.bytes.result.now c.bytes.ensures (sym c.is_empty.ensures ∙ c.if-not-is_empty.false)) in
    rw (← c.self.view_is) (whole_command c.self.inside c.args.piece.now c.feed-answer.new.self c.in-Whole.count (c.self.inside.taken + c.in-Whole.count) c.self.invariant fresh none c.in-Whole.ensures)
