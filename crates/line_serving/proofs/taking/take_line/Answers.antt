use Rattle.std.proofs.Common.{ap, subst}
use Rattle.line_input.specs.HeldLines.{HeldLine}
use Rattle.command_lines.specs.CommandLines.{IsBadLine}
use Rattle.line_serving.proofs.LineUnits.{bad_line_shows}
use Rattle.line_serving.proofs.taking.take_line.Goals as goal

pub returns-in-Bad : goal.returns-in-Bad
returns-in-Bad c =
    let taken = c.in-Whole.ensures.fed.before c.requires.unfinished.not_refused in
    let bad : IsBadLine c.line.result.now = record { no_comment = c.in-Bad.ensures.0; no_command = c.in-Bad.ensures.1 } in (
      (bad_line_shows c.args.lines.now.text c.args.piece.now c.feed.new.self.text c.in-Whole.count taken.2.no_feed taken.1 (subst IsBadLine c.line.ensures.line bad)),
      ap (λ (line : HeldLine). line.text) c.clear-in-Bad.ensures,
      ap (λ (line : HeldLine). line.whole) c.clear-in-Bad.ensures,
      c.in-Bad.ensures.2,
    )
