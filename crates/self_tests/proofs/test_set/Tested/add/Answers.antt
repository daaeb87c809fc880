use Rattle.std.proofs.Common.{◌≡◌, ℕ, ◌*◌, ◌%◌, ◌^◌, ◌<◌, ◌==◌, ◌||◌, sym, ap, subst, ◌∙◌}
use Rattle.std.specs.Int.Bits.{bit_or}
use Rattle.self_tests.specs.Tests.{number_of}
use Rattle.self_tests.specs.TestSet.{has_test}
use Rattle.self_tests.proofs.Sets.{bit_fits, set_below, test_in_union}
use Rattle.self_tests.proofs.test_set.Tested.add.Goals as goal

pub invariant_of-self : goal.invariant_of-self
invariant_of-self c =
    let bit : 1 * 2 ^ c.number.result % 65536 ≡ 2 ^ number_of c.args.test = ap (λ n. 1 * 2 ^ n % 65536) c.number.ensures ∙ bit_fits c.args.test in
    let P : ℕ → Type 0 = λ b. bit_or c.self.inside.bits b < 2 ^ 15 in
    subst P (sym bit) (set_below c.self.inside.bits c.args.test c.self.invariant)

pub returns-clause-each : goal.returns-clause-each
returns-clause-each c other =
    let bit : 1 * 2 ^ c.number.result % 65536 ≡ 2 ^ number_of c.args.test = ap (λ n. 1 * 2 ^ n % 65536) c.number.ensures ∙ bit_fits c.args.test in
    ap (λ b. has_test (bit_or c.self.inside.bits b) other) bit ∙ test_in_union c.self.inside.bits c.args.test other
    ∙ ap (λ n. has_test n other || number_of other == number_of c.args.test) c.self.view_is
