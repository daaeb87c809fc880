use Rattle.vector_reports.proofs.OneReport.{one_report}
use Rattle.vector_reports.proofs.laws.has_one_report.Goals as goal

pub returns : goal.returns
returns g c engine = one_report g.E.Engine.calls engine
