use Rattle.std.proofs.lemmas.List.{take_rest}
use Rattle.transcript_pairs.proofs.HeldPairs.{took_head}
use Rattle.transcript_pairs.proofs.pairs.Pairs.take_head.Goals as goal

pub returns : goal.returns
returns c =
    let remainder = take_rest c.args.piece.now c.in_ok-front.front in
    let first = c.in_ok-front.ensures in
    let second = rw remainder at c.in_ok-back.ensures in
    took_head c.args.self.now c.gather.new.self c.gather-2.new.self c.args.piece.now c.in_ok-front.front c.in_ok-back.back first.0 first.1 first.3 second.0 second.1 second.3 second.2
