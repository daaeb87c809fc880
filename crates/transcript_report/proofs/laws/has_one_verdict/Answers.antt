use Rattle.transcript_report.proofs.OneVerdict.{one_verdict}
use Rattle.transcript_report.proofs.laws.has_one_verdict.Goals as goal

pub returns : goal.returns
returns c = one_verdict
