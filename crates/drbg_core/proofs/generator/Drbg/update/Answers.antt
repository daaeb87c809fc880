use Rattle.std.proofs.Common.{◌≡◌, ◌++◌, ◌<◌, length, ap, ◌∙◌, sym, rules}
use Rattle.drbg_core.specs.Generator.{mix}
use Rattle.drbg_core.specs.declared.generator.Drbg.{Drbg}
use Rattle.drbg_core.proofs.Requests.{update_none, update_some}
use Rattle.drbg_core.proofs.generator.Drbg.update.Goals as goal

pub returns-then-have_bytes : goal.returns-then-have_bytes
returns-then-have_bytes c =
    let input = c.args.first.now ++ c.args.second.now ++ c.args.third.now in
    let some : 0 < length input = search rules in
    c.mix-then-have_bytes.ensures
    ∙ ap (λ (g : Drbg). mix g 1 input) c.mix.ensures
    ∙ sym (update_some c.args.self.now input some)

pub returns-else-have_bytes : goal.returns-else-have_bytes
returns-else-have_bytes c =
    let input = c.args.first.now ++ c.args.second.now ++ c.args.third.now in
    let none : length input ≡ 0 = search rules in
    c.mix.ensures ∙ sym (update_none c.args.self.now input none)
