use Rattle.std.proofs.Common.{◌≤◌, ◌<◌, ◌≡◌, ◌+◌, ◌++◌, List, ℕ, length, take, subst, ap, arith}
use Rattle.std.proofs.lemmas.List.{length-take-le}
use Rattle.line_input.specs.HeldLines.{HeldLine, BeginsTooLong}
use Rattle.line_input.proofs.Refusals.{too_many}
use Rattle.line_input.proofs.lines.Lines.feed.Goals as goal

pub returns-then-count-self-clause-fed : goal.returns-then-count-self-clause-fed
returns-then-count-self-clause-fed c =
    let used = c.self.inside.used in
    let bytes = c.self.inside.buffer.items in
    let text : take used bytes ≡ c.args.self.now.text = ap (λ (l : HeldLine). l.text) c.self.view_is in
    let have : length (take used bytes) ≡ used = length-take-le used bytes (omega arith) in
    let refused : c.self.inside.too_long ≡ c.args.self.now.too_long = ap (λ (l : HeldLine). l.too_long) c.self.view_is in
    let begins : BeginsTooLong (take used bytes ++ c.args.piece.now) =
    too_many (take used bytes) c.args.piece.now c.line_length-count.result c.self.invariant.no_feed c.line_length-count.ensures.line c.line_length-count.ensures.within (omega arith) in
    record {
      before = λ h. (let P : List ℕ → Type 0 = λ xs. BeginsTooLong (xs ++ c.args.piece.now) in subst P text begins, c.refuse.ensures);
      after = λ h. absurd (cc);
    }
