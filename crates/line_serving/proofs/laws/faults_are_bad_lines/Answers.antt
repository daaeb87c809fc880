use Rattle.std.proofs.Common.{ℕ, Some, sym, ◌∙◌, ap}
use Rattle.line_serving.proofs.LineFaults.{bad_shows, shown_bad}
use Rattle.line_serving.proofs.laws.faults_are_bad_lines.Goals as goal

pub returns : goal.returns
returns c = λ bytes number. (λ shows. shown_bad bytes number shows, λ bad. bad_shows bytes bad.1 ∙ ap (λ (n : ℕ). Some n) (sym bad.0))
