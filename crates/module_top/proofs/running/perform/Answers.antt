use Rattle.std.proofs.Common.{◌≡◌, Some, sym, ap, ◌∙◌}
use Rattle.std.specs.Prelude.{map}
use Rattle.std.specs.String.{string_bytes}
use Rattle.program_words.specs.Forms.{Check, Vectors, form_of, form_value}
use Rattle.module_top.proofs.running.perform.Goals as goal

pub returns-in-Some-Vectors-clause-outcome : goal.returns-in-Some-Vectors-clause-outcome
returns-in-Some-Vectors-clause-outcome g c =
    let is : form_of (map string_bytes c.args.words.now) ≡ Some Vectors =
    sym (ap (λ form. Some (form_value form)) (sym c.in-Some-Vectors.field-0-is) ∙ c.in-Some-Vectors.ensures.form) in
    rw is (c.check_vectors.ensures.outcome (g.F.Files.content c.args.files.now) (g.F.Files.faults c.args.files.now))

pub returns-in-Some-Check-clause-outcome : goal.returns-in-Some-Check-clause-outcome
returns-in-Some-Check-clause-outcome g c =
    let is : form_of (map string_bytes c.args.words.now) ≡ Some Check =
    sym (ap (λ form. Some (form_value form)) (sym c.in-Some-Check.field-0-is) ∙ c.in-Some-Check.ensures.form) in
    rw is (c.check_pairs.ensures.outcome c.args.engine (g.F.Files.content c.args.files.now) (g.F.Files.faults c.args.files.now))
