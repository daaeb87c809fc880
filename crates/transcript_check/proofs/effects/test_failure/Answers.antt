use Rattle.std.proofs.Common.{sym, ap, ◌∙◌}
use Rattle.std.specs.Option.{option_map}
use Rattle.service_table.specs.KnownAnswers.{test_of}
use Rattle.service_table.specs.declared.failure.Failure.TheVariants as failure
use Rattle.service_table.specs.declared.service.Service.{Service}
use Rattle.module_frames.specs.Requests.{request_value}
use Rattle.transcript_check.proofs.RequestKinds.{test_failure_by}
use Rattle.transcript_check.proofs.effects.test_failure.Goals as goal

pub returns-in_err-test : goal.returns-in_err-test
returns-in_err-test c =
    let by = test_failure_by (request_value c.args.request.now) c.alg_named.result c.args.tests_done c.alg_named.ensures (c.is_test_step.ensures.other c.if-is_test_step.false) in
    let none = sym c.in_err-test.was ∙ c.test_of.ensures ∙ ap (λ (s : Service). test_of s c.alg_named.result) c.service_for.ensures in
    c.from_residual.ensures ∙ ap (option_map (λ test. failure.KnownAnswer test)) none ∙ sym by

pub returns : goal.returns
returns c =
    let by = test_failure_by (request_value c.args.request.now) c.alg_named.result c.args.tests_done c.alg_named.ensures (c.is_test_step.ensures.other c.if-is_test_step.false) in
    let some = sym c.in_ok-test.was ∙ c.test_of.ensures ∙ ap (λ (s : Service). test_of s c.alg_named.result) c.service_for.ensures in
    ap (option_map (λ test. failure.KnownAnswer test)) some ∙ sym by
