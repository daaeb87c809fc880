use Rattle.std.proofs.Common.{◌≡◌, ◌≤◌, ◌*◌, length, arith}
use Rattle.line_words.specs.HexWords.{spelled}
use Rattle.line_words.proofs.Spellings.{counted}
use Rattle.line_words.proofs.hex_word.HexWord.read.Goals as goal

pub returns-in-Some-clause-short : goal.returns-in-Some-clause-short
returns-in-Some-clause-short c =
    let same : c.in-Some.count ≡ length (spelled c.args.word.now) = counted c.args.word.now c.in-Some.count c.in-Some.ensures.count in
    omega (arith, same, c.in-Some.ensures.short)
