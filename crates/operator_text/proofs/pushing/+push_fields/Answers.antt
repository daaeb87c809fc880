use Rattle.std.proofs.Common.{◌≡◌, ◌<◌, List, [], length, arith}
use Rattle.operator_text.specs.declared.forms.Field.{Field}
use Rattle.operator_text.proofs.Bodies.{no_elements}
use Rattle.operator_text.proofs.pushing.+push_fields.Goals as goal

pub returns-in-empty : goal.returns-in-empty
returns-in-empty t c = λ values h.
    let none : c.args.fields.now ≡ [] = no_elements c.args.fields.now (omega (arith, c.in-empty.len_below)) in
    rw none c.push_within.ensures
