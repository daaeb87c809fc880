use Rattle.std.proofs.Common.{length, sym, ◌∙◌}
use Rattle.line_words.proofs.Spellings.{of_none, sized, written}
use Rattle.line_words.proofs.bytes.read_bytes.Goals as goal

pub returns-then-is_hyphen : goal.returns-then-is_hyphen
returns-then-is_hyphen c = of_none c.args.word.now c.args.out.now (sym c.is_hyphen.ensures ∙ c.if-is_hyphen.true) c.requires

pub prove-unreachable-requires : goal.prove-unreachable-requires
prove-unreachable-requires c =
    let is = written c.args.word.now c.decode_to_slice.new.out (length c.args.out.now) c.decode_to_slice.result
    (sized c.args.word.now (length c.args.out.now) (sym c.is_hyphen.ensures ∙ c.if-is_hyphen.false) c.requires) c.decode_to_slice.ensures.value in
    cc (is.0, c.is_ok-decoded.ensures.value, c.if-prove.true)

pub returns : goal.returns
returns c =
    (written c.args.word.now c.decode_to_slice.new.out (length c.args.out.now) c.decode_to_slice.result
    (sized c.args.word.now (length c.args.out.now) (sym c.is_hyphen.ensures ∙ c.if-is_hyphen.false) c.requires) c.decode_to_slice.ensures.value).1
