use Rattle.module_frames.specs.PublicState.{unpowered}
use Rattle.transcript_check.proofs.Walks.{yes_is_walk, walk_is_yes, no_is_first, first_is_no, not_both}
use Rattle.transcript_check.proofs.laws.first_no_tells.Goals as goal

pub returns-clause-yes : goal.returns-clause-yes
returns-clause-yes c = λ transcript answers checked. (λ none. yes_is_walk unpowered transcript answers checked none, λ lawful. walk_is_yes unpowered lawful.0 transcript answers checked lawful.1)

pub returns-clause-no : goal.returns-clause-no
returns-clause-no c = λ transcript answers number checked. (λ said. no_is_first unpowered transcript answers number checked said, λ first. first_is_no unpowered transcript answers number checked first)

pub returns-clause-not_both : goal.returns-clause-not_both
returns-clause-not_both c = λ transcript number first lawful. not_both unpowered lawful.0 number transcript first lawful.1
