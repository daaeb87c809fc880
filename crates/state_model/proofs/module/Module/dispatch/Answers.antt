use Rattle.std.proofs.Common.{◌≡◌, [], refl, sym, ◌∙◌, ap, subst, rules}
use Rattle.std.specs.Option.{option_map}
use Rattle.bits_core.specs.OutboxContents.{OutboxContents}
use denote.Enum.Bare.{same_true, same_false}
use Rattle.service_table.specs.contracts.service.Service.{the_type}
use Rattle.service_table.specs.declared.service.Service.TheVariants as service
use Rattle.service_table.specs.declared.status.Status.TheVariants as status
use Rattle.service_table.specs.Numbers.{service_numbered}
use Rattle.service_table.specs.Services.{is_cryptographic}
use Rattle.module_frames.specs.Requests.{request_value, service_for}
use Rattle.state_model.specs.ModuleView.{ModuleView}
use Rattle.state_model.specs.MachineState.{MachineState, state_of}
use Rattle.state_model.specs.Step.{request_at}
use Rattle.state_model.specs.Represents.{Represents}
use Rattle.state_model.proofs.Permitted.{is_test_step}
use Rattle.state_model.proofs.Order.{dispatch_unknown, dispatch_not_permitted, dispatch_requested, refused_leaves}
use Rattle.state_model.proofs.Statuses.{perform_left, no_noise_fault, cryptographic_request, not_indicated}
use Rattle.outside.proofs.Explanations.{explained_none, explained_by}
use Rattle.state_model.proofs.module.Module.dispatch.Goals as goal

-- the state of a module is the machine's
same_state : {V : Type 0} {kept m : ModuleView V} {s : MachineState V} → kept ≡ m → Represents m s → kept.public.state ≡ state_of s
same_state {V} {kept} {m} {s} seen represents = ap (λ (k : ModuleView V). k.public.state) seen ∙ ap (λ (t : MachineState V). state_of t) represents.same

pub returns-in_default-clause-answer : goal.returns-in_default-clause-answer
returns-in_default-clause-answer g c = explained_none _ _ (λ events s represents.
    let unknown = rw c.service.ensures at (sym c.service_of.ensures ∙ c.in_default.is) in
    rw (dispatch_unknown g.E.Engine.calls s events c.args.command.now unknown, c.management_outcome.ensures)
    (refused_leaves c.args.self.now s events _ c.args.block.now _ represents c.requires.block (ap (λ (contents : OutboxContents). contents.bytes) c.requires.payload), refl))

pub returns-then-not-permitted-clause-answer : goal.returns-then-not-permitted-clause-answer
returns-then-not-permitted-clause-answer g c = explained_none _ _ (λ events s represents.
    let known = rw c.service.ensures at (sym c.service_of.ensures ∙ c.in-Some.is) in
    let refusal = rw (same_state c.self.view_is represents) at (sym c.permitted.ensures ∙ c.if-not-permitted.true) in
    rw (dispatch_not_permitted g.E.Engine.calls s events c.args.command.now c.in-Some.service known refusal, c.management_outcome-then-not-permitted.ensures)
    (refused_leaves c.args.self.now s events _ c.args.block.now _ represents c.requires.block (ap (λ (contents : OutboxContents). contents.bytes) c.requires.payload), refl))

pub returns-then-not-permitted-clause-approved : goal.returns-then-not-permitted-clause-approved
returns-then-not-permitted-clause-approved g c = rw c.management_outcome-then-not-permitted.ensures
    (sym (not_indicated (request_at (service_numbered c.args.command.now.service) c.args.command.now.body) status.NotInState c.args.self.now.vault.slots refl))

pub returns-in_default-read_request-clause-answer : goal.returns-in_default-read_request-clause-answer
returns-in_default-read_request-clause-answer g c = explained_none _ _ (λ events s represents.
    let known = rw c.service.ensures at (sym c.service_of.ensures ∙ c.in-Some.is) in
    let leave = rw (same_state c.self.view_is represents) at (sym c.permitted.ensures ∙ c.if-not-permitted.false) in
    let bad = rw c.body.ensures.body at (sym c.read_request.ensures.read ∙ ap (option_map request_value) c.in_default-read_request.is) in
    rw (dispatch_requested g.E.Engine.calls s events c.args.command.now c.in-Some.service known leave, bad, c.management_outcome-in_default-read_request.ensures)
    (refused_leaves c.args.self.now s events _ c.args.block.now _ represents c.requires.block (ap (λ (contents : OutboxContents). contents.bytes) c.requires.payload), refl))

pub run_cryptographic_service-requires-clause-cryptographic : goal.run_cryptographic_service-requires-clause-cryptographic
run_cryptographic_service-requires-clause-cryptographic g c =
    let what = cryptographic_request (request_value c.in-Some-read_request.request)
    (ap is_cryptographic c.in-Some-read_request.ensures.of_service ∙ sym c.is_cryptographic.ensures ∙ c.if-is_cryptographic.true) c.in-Some-read_request.ensures.in_range in
    (what.0, what.1, what.2, sym (ap service_for what.1) ∙ c.in-Some-read_request.ensures.of_service)

pub returns-then-is_cryptographic-clause-answer : goal.returns-then-is_cryptographic-clause-answer
returns-then-is_cryptographic-clause-answer g c = explained_by _ _ c.run_cryptographic_service.ensures.answer (λ events left answer s represents.
    let known = rw c.service.ensures at (sym c.service_of.ensures ∙ c.in-Some.is) in
    let leave = rw (same_state c.self.view_is represents) at (sym c.permitted.ensures ∙ c.if-not-permitted.false) in
    let good = rw c.body.ensures.body at (sym c.read_request.ensures.read ∙ ap (option_map request_value) c.in-Some-read_request.is) in
    let what = cryptographic_request (request_value c.in-Some-read_request.request)
    (ap is_cryptographic c.in-Some-read_request.ensures.of_service ∙ sym c.is_cryptographic.ensures ∙ c.if-is_cryptographic.true) c.in-Some-read_request.ensures.in_range in
    rw (dispatch_requested g.E.Engine.calls s events c.args.command.now c.in-Some.service known leave, good, what.1, c.requires.block) (answer s represents what.0 what.1))

pub returns-clause-answer : goal.returns-clause-answer
returns-clause-answer g c = explained_none _ _ (λ events s represents.
    let known = rw c.service.ensures at (sym c.service_of.ensures ∙ c.in-Some.is) in
    let leave = rw (same_state c.self.view_is represents) at (sym c.permitted.ensures ∙ c.if-not-permitted.false) in
    let good = rw c.body.ensures.body at (sym c.read_request.ensures.read ∙ ap (option_map request_value) c.in-Some-read_request.is) in
    rw (dispatch_requested g.E.Engine.calls s events c.args.command.now c.in-Some.service known leave, good, c.management_outcome-2.ensures, ap (λ (contents : OutboxContents). contents.bytes) c.requires.payload) (
      c.run_management_service.ensures.answer s events represents,
      perform_left g.E.Engine.calls s events (request_value c.in-Some-read_request.request) (λ is. same_false the_type _ _ (sym c.eq.ensures ∙ c.if-eq.false) (sym c.in-Some-read_request.ensures.of_service ∙ ap service_for is))
          (ap is_cryptographic c.in-Some-read_request.ensures.of_service ∙ sym c.is_cryptographic.ensures ∙ c.if-is_cryptographic.false),
    ))

pub returns-then-eq-clause-answer : goal.returns-then-eq-clause-answer
returns-then-eq-clause-answer g c = explained_by _ _ c.test_step.ensures.answer (λ events left answer s represents.
    let known = rw c.service.ensures at (sym c.service_of.ensures ∙ c.in-Some.is) in
    let leave = rw (same_state c.self.view_is represents) at (sym c.permitted.ensures ∙ c.if-not-permitted.false) in
    let good = rw c.body.ensures.body at (sym c.read_request.ensures.read ∙ ap (option_map request_value) c.in-Some-read_request.is) in
    let asked : c.in-Some.service ≡ service.TestStep = same_true the_type (search rules) _ _ (sym c.eq.ensures ∙ c.if-eq.true) in
    let what = is_test_step (request_value c.in-Some-read_request.request) (c.in-Some-read_request.ensures.of_service ∙ asked) in
    rw (dispatch_requested g.E.Engine.calls s events c.args.command.now c.in-Some.service known leave, good, what, c.management_outcome-then-eq.ensures, c.requires.block, ap (λ (contents : OutboxContents). contents.bytes) c.requires.payload)
    (answer s represents))

pub returns-clause-noise_failed : goal.returns-clause-noise_failed
returns-clause-noise_failed g c fault =
    let At : ModuleView g.row.E.Denot → Type 0 = λ m. Represents m c.self.invariant.0 in
    let result = c.run_management_service.ensures.answer c.self.invariant.0 [] (subst At c.self.view_is c.self.invariant.1) in
    let told = rw c.management_outcome-2.ensures at fault in
    λ code. absurd (no_noise_fault g.E.Engine.calls c.self.invariant.0 [] (request_value c.in-Some-read_request.request) (λ is. same_false the_type _ _ (sym c.eq.ensures ∙ c.if-eq.false) (sym c.in-Some-read_request.ensures.of_service ∙ ap service_for is))
    (ap is_cryptographic c.in-Some-read_request.ensures.of_service ∙ sym c.is_cryptographic.ensures ∙ c.if-is_cryptographic.false) (sym result.same_status ∙ told))
