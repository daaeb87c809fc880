use Rattle.std.proofs.Common.{◌≡◌, ◌++◌, [], ◌<◌, length, ap, ◌∙◌, sym, arith}
use Rattle.std.proofs.lemmas.Bool.Decides.{nat_tests}
use Rattle.std.proofs.lemmas.List.{append-nil}
use Rattle.drbg_core.specs.Generator.{update}
use Rattle.drbg_core.proofs.Requests.{primed_none, primed_some}
use Rattle.drbg_core.proofs.generator.Drbg.prime.Goals as goal

pub returns-then-not-is_empty : goal.returns-then-not-is_empty
returns-then-not-is_empty c =
    let input = c.args.input.now in
    let some : 0 < length input = grind (arith, nat_tests) in
    c.update.ensures
    ∙ ap (update c.args.self.now) (append-nil (input ++ []) ∙ append-nil input)
    ∙ sym (primed_some c.args.self.now input some)

pub returns-else-not-is_empty : goal.returns-else-not-is_empty
returns-else-not-is_empty c =
    let none : length c.args.input.now ≡ 0 = grind (arith, nat_tests) in
    sym (primed_none c.args.self.now c.args.input.now none)
