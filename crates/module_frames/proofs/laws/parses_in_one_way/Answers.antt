use Rattle.module_frames.proofs.Parsing.{no_prefix, one_way}
use Rattle.module_frames.proofs.laws.parses_in_one_way.Goals as goal

pub returns-clause-no_prefix : goal.returns-clause-no_prefix
returns-clause-no_prefix c = no_prefix

pub returns-clause-one_way : goal.returns-clause-one_way
returns-clause-one_way c = one_way
