use Rattle.transcript_pairs.proofs.PairParsing.{pairs_one_way}
use Rattle.transcript_pairs.proofs.laws.pairs_parse_in_one_way.Goals as goal

pub returns : goal.returns
returns c = pairs_one_way
