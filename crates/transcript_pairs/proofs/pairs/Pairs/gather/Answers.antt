use Rattle.std.proofs.Common.{◌≡◌, ◌-◌, length, ap, arith, refl, sym, ◌∙◌}
use Rattle.std.specs.Prelude.{min}
use Rattle.module_frames.specs.Fragments.{Fragment}
use Rattle.transcript_pairs.specs.PairStreams.{HeldPair}
use Rattle.transcript_pairs.specs.ReplyStreams.{head_size, reply_fault}
use Rattle.transcript_pairs.proofs.HeldPairs.{broken_reader, gathered_fault, gathered_reader}
use Rattle.transcript_pairs.proofs.pairs.Pairs.gather.Goals as goal

pub invariant_of-self : goal.invariant_of-self
invariant_of-self c =
    let fresh = ap (λ (p : HeldPair). p.fault) c.self.view_is ∙ c.requires.no_fault in
    let stands = rw (← c.self.view_is) at c.requires.stands in
    let short = rw (← c.self.view_is) at c.requires.short in
    let many : c.fill-count.result ≡ min (head_size c.self.inside.head - length c.self.inside.head) (length c.args.piece.now) =
    c.fill-count.ensures.taken ∙ ap (λ n. min (n - length c.self.inside.head) (length c.args.piece.now)) (c.head_size-size.ensures.size ∙ ap head_size c.bytes.ensures) in
    gathered_reader c.self.inside c.args.piece.now c.fill-count.new.self c.fill-count.result c.self.invariant fresh stands short many c.fill-count.ensures.held
    (sym (ap reply_fault c.bytes-2.ensures) ∙ sym c.reply_fault.ensures.offset ∙ c.in_default.is)

pub invariant_of-self-2 : goal.invariant_of-self-2
invariant_of-self-2 c = rw c.clear-2.ensures (broken_reader c.self.inside c.clear.new.self _ _ c.clear.ensures.cleared c.self.invariant refl)

pub returns : goal.returns
returns c =
    let many : c.fill-count.result ≡ min (head_size c.self.inside.head - length c.self.inside.head) (length c.args.piece.now) =
    c.fill-count.ensures.taken ∙ ap (λ n. min (n - length c.self.inside.head) (length c.args.piece.now)) (c.head_size-size.ensures.size ∙ ap head_size c.bytes.ensures) in
    let shown = sym (ap reply_fault c.bytes-2.ensures) ∙ sym c.reply_fault.ensures.offset ∙ c.in-Some.is in
    let fault = gathered_fault c.self.inside c.args.piece.now c.fill-count.new.self c.fill-count.result c.in-Some.within c.self.invariant many c.fill-count.ensures.held shown in
    rw (← c.self.view_is, ap (λ (f : Fragment). f.bytes) c.clear.ensures.cleared, c.clear-2.ensures)
    (record { after = refl; unskipped = fault.1; within = c.in-Some.within; fault = fault.0; place = omega (arith, c.self.invariant.taken) })
