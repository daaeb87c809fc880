use Rattle.transcript_report.proofs.OneVerdict.{lawful_tells, unlawful_tells}
use Rattle.transcript_report.proofs.laws.verdicts_tell.Goals as goal

pub returns-clause-lawful : goal.returns-clause-lawful
returns-clause-lawful c = lawful_tells

pub returns-clause-unlawful : goal.returns-clause-unlawful
returns-clause-unlawful c = unlawful_tells
