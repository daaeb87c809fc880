use Rattle.module_frames.specs.PublicState.{unpowered}
use Rattle.transcript_check.proofs.Blanking.{blanked_walk}
use Rattle.transcript_check.proofs.laws.entered_bytes_may_be_blanked.Goals as goal

pub returns-clause-walk : goal.returns-clause-walk
returns-clause-walk c = λ before after transcript blanked are walk. blanked_walk before after transcript blanked are walk

pub returns-clause-lawful : goal.returns-clause-lawful
returns-clause-lawful c = λ transcript blanked are lawful. (lawful.0, blanked_walk unpowered lawful.0 transcript blanked are lawful.1)
