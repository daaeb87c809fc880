use Rattle.std.proofs.Common.{◌≡◌, ◌∙◌, [], refl, subst, sym, ap}
use Rattle.bits_core.specs.OutboxContents.{OutboxContents}
use Rattle.outside.proofs.Explanations.{explained_none, explained_by}
use Rattle.module_frames.specs.PublicState.{no_block}
use Rattle.crypto_services.specs.declared.parts.Parts.{Parts}
use Rattle.state_model.specs.declared.self_testing.Judgement.{Judgement}
use Rattle.state_model.specs.SelfTesting.{test_for, due_at_first_use}
use Rattle.state_model.specs.ModuleView.{ModuleView}
use Rattle.state_model.specs.ModuleInvariant.{view_of}
use Rattle.state_model.specs.MachineState.{MachineState}
use Rattle.state_model.specs.Cryptographic.{cryptographic_step}
use Rattle.state_model.specs.Represents.{Represents, IsServiceResult, machine_of}
use Rattle.state_model.proofs.Permitted.{return_for_hash, return_is_faultless}
use Rattle.state_model.proofs.Representing.{rules_here}
use Rattle.state_model.proofs.Serving.{with_fields}
use Rattle.state_model.proofs.Judging.{refused_represents, performed_represents, performed_failure, performed_approved, noise_counted, passed_code}
use Rattle.state_model.proofs.module.Module.run_cryptographic_service.Goals as goal

-- the test failed
pub invariant_of-self : goal.invariant_of-self
invariant_of-self g c =
    let allowed = rw (← c.self.view_is) at c.requires.permitted in
    let held = c.self.invariant in
    let m = view_of c.self.inside in
    let (what, is, range, same) = c.requires.cryptographic in
    let due = due_at_first_use m.tests_passed (test_for what) in
    let judged = rw (c.use_counted-counted.ensures, c.due_at_first_use-due.ensures, c.test_for.ensures what is) at c.run_test-judged.ensures.judgement in
    let engine = rw (c.use_counted-counted.ensures, c.due_at_first_use-due.ensures, c.test_for.ensures what is) at c.run_test-judged.ensures.engine in
    let refused = sym (ap (λ (j : Judgement). j.refused) judged) ∙ c.in-Some.is in
    let served = refused_represents g.E.Engine.calls m held.0.shared.samples [] what due c.in-Some.status (rules_here held.1) allowed refused in
    rw (judged, engine) (_, served.0.represents)

pub returns-in-Some-clause-answer : goal.returns-in-Some-clause-answer
returns-in-Some-clause-answer g c = explained_none _ _ (λ events s represents what is.
    let allowed = rw (← c.self.view_is) at c.requires.permitted in
    let At : ModuleView g.row.E.Denot → Type 0 = λ m. Represents m s in
    let held : Represents (view_of c.self.inside) s = subst At (sym c.self.view_is) represents in
    let m = view_of c.self.inside in
    let t : MachineState g.row.E.Denot = machine_of m s.shared.samples in
    let due = due_at_first_use m.tests_passed (test_for what) in
    let judged = rw (c.use_counted-counted.ensures, c.due_at_first_use-due.ensures, c.test_for.ensures what is) at c.run_test-judged.ensures.judgement in
    let engine = rw (c.use_counted-counted.ensures, c.due_at_first_use-due.ensures, c.test_for.ensures what is) at c.run_test-judged.ensures.engine in
    let refused = sym (ap (λ (j : Judgement). j.refused) judged) ∙ c.in-Some.is in
    let served = refused_represents g.E.Engine.calls m s.shared.samples events what due c.in-Some.status (rules_here held) allowed refused in
    let after : ModuleView g.row.E.Denot = record m { public = c.run_test-judged.result.public; engine = c.run_test-judged.new.engine } in
    let Done : MachineState g.row.E.Denot → Type 0 = λ u. (let step = cryptographic_step g.E.Engine.calls u events what in IsServiceResult step after c.in-Some.status no_block [] × (step.left ≡ events)) in
    let there : Done t = rw (judged, engine) served in
    rw (c.management_outcome.ensures, ap (λ (contents : OutboxContents). contents.bytes) c.requires.payload) (subst Done held.same there))

pub perform-outcome-requires-clause-counts : goal.perform-outcome-requires-clause-counts
perform-outcome-requires-clause-counts g c =
    let allowed = rw (← c.self.view_is) at c.requires.permitted in
    let held = c.self.invariant in (held.0.shared.samples, held.1.counts (return_is_faultless _ (return_for_hash _ allowed)))

pub invariant_of-self-2 : goal.invariant_of-self-2
invariant_of-self-2 g c =
    let allowed = rw (← c.self.view_is) at c.requires.permitted in
    let held = c.self.invariant in
    let m = view_of c.self.inside in
    let (what, is, range, same) = c.requires.cryptographic in
    let due = due_at_first_use m.tests_passed (test_for what) in
    let judged = rw (c.use_counted-counted.ensures, c.due_at_first_use-due.ensures, c.test_for.ensures what is) at c.run_test-judged.ensures.judgement in
    let engine = rw (c.use_counted-counted.ensures, c.due_at_first_use-due.ensures, c.test_for.ensures what is) at c.run_test-judged.ensures.engine in
    let none = sym (ap (λ (j : Judgement). j.refused) judged) ∙ c.in_default.is in
    let counts = held.1.counts (return_is_faultless _ (return_for_hash _ allowed)) in
    let performs = c.perform-outcome.ensures.performs.some.1 [] held.0.shared.samples what counts is in
    let settled = rw (c.after_failure-performed.ensures, judged) at c.settled-tests_passed.ensures in
    let old : Parts g.row.E.Denot = record c.self.inside.parts { engine = c.run_test-judged.new.engine; vault = c.note_link.new.vault } in (
      _,
      (performed_represents g.E.Engine.calls m held.0.shared.samples _ [] what due old c.perform-outcome.new.parts c.perform-outcome.result c.perform-outcome.new.payload.bytes c.settled-tests_passed.result
          g.met.E.Engine.keeps (rules_here held.1) allowed none engine refl (c.note_link.ensures.linked what is) performs c.perform-outcome.ensures.well_formed settled).0.represents,
    )

pub returns-clause-answer : goal.returns-clause-answer
returns-clause-answer g c = explained_by _ _ c.perform-outcome.ensures.performs (λ events left performs s represents what is.
    let allowed = rw (← c.self.view_is) at c.requires.permitted in
    let At : ModuleView g.row.E.Denot → Type 0 = λ m. Represents m s in
    let held : Represents (view_of c.self.inside) s = subst At (sym c.self.view_is) represents in
    let m = view_of c.self.inside in
    let t : MachineState g.row.E.Denot = machine_of m s.shared.samples in
    let due = due_at_first_use m.tests_passed (test_for what) in
    let judged = rw (c.use_counted-counted.ensures, c.due_at_first_use-due.ensures, c.test_for.ensures what is) at c.run_test-judged.ensures.judgement in
    let engine = rw (c.use_counted-counted.ensures, c.due_at_first_use-due.ensures, c.test_for.ensures what is) at c.run_test-judged.ensures.engine in
    let none = sym (ap (λ (j : Judgement). j.refused) judged) ∙ c.in_default.is in
    let counts = held.counts (return_is_faultless _ (return_for_hash _ allowed)) in
    let settled = rw (c.after_failure-performed.ensures, judged) at c.settled-tests_passed.ensures in
    let parts = c.perform-outcome.new.parts in
    let outcome = c.perform-outcome.result in
    let payload = c.perform-outcome.new.payload.bytes in
    let old : Parts g.row.E.Denot = record c.self.inside.parts { engine = c.run_test-judged.new.engine; vault = c.note_link.new.vault } in
    let after : ModuleView g.row.E.Denot = with_fields m c.settled-tests_passed.result parts.engine parts.health parts.drbg parts.vault in
    let Done : MachineState g.row.E.Denot → Type 0 = λ u. (let step = cryptographic_step g.E.Engine.calls u events what in IsServiceResult step after outcome.status no_block payload × (step.left ≡ left)) in
    let there : Done t =
    performed_represents g.E.Engine.calls m s.shared.samples events left what due old parts outcome payload c.settled-tests_passed.result
    g.met.E.Engine.keeps (rules_here held) allowed none engine refl (c.note_link.ensures.linked what is) (performs s.shared.samples what counts is) c.perform-outcome.ensures.well_formed settled in
    subst Done held.same there)

pub returns-clause-noise_failed : goal.returns-clause-noise_failed
returns-clause-noise_failed g c status code =
    let allowed = rw (← c.self.view_is) at c.requires.permitted in
    let held = c.self.invariant in
    let m = view_of c.self.inside in
    let (what, is, range, same) = c.requires.cryptographic in
    let counts = held.1.counts (return_is_faultless _ (return_for_hash _ allowed)) in
    let performs = c.perform-outcome.ensures.performs.some.1 [] held.0.shared.samples what counts is in
    let old : Parts g.row.E.Denot = record c.self.inside.parts { engine = c.run_test-judged.new.engine; vault = c.note_link.new.vault } in
    let fails = performed_failure g.E.Engine.calls m held.0.shared.samples _ [] what old c.perform-outcome.new.parts c.perform-outcome.result c.perform-outcome.new.payload.bytes
    g.met.E.Engine.keeps (rules_here held.1) allowed refl performs in
    let due = due_at_first_use m.tests_passed (test_for what) in
    let judged = rw (c.use_counted-counted.ensures, c.due_at_first_use-due.ensures, c.test_for.ensures what is) at c.run_test-judged.ensures.judgement in
    let none = sym (ap (λ (j : Judgement). j.refused) judged) ∙ c.in_default.is in
    let rules = rules_here held.1 in
    let faultless : c.run_test-judged.result.public.error_code ≡ 0 =
    ap (λ (j : Judgement). j.public.error_code) judged ∙ passed_code g.E.Engine.calls m.engine m.public m.tests_passed due none ∙ rules.public.faultless (return_is_faultless _ (return_for_hash _ allowed)) in
    noise_counted c.run_test-judged.result.public c.run_test-judged.result.tests_passed c.perform-outcome.result.failure c.settled-tests_passed.result _ _ faultless fails
    c.perform-outcome.ensures.fault_counted (rw c.after_failure-performed.ensures at c.settled-tests_passed.ensures) code

pub returns-clause-approved : goal.returns-clause-approved
returns-clause-approved g c =
    let allowed = rw (← c.self.view_is) at c.requires.permitted in
    let held = c.self.invariant in
    let (what, is, range, same) = c.requires.cryptographic in
    let counts = held.1.counts (return_is_faultless _ (return_for_hash _ allowed)) in
    let performs = c.perform-outcome.ensures.performs.some.1 [] held.0.shared.samples what counts is in
    let old : Parts g.row.E.Denot = record c.self.inside.parts { engine = c.run_test-judged.new.engine; vault = c.note_link.new.vault } in
    rw is (performed_approved g.E.Engine.calls held.0.shared.samples _ [] what old c.perform-outcome.new.parts c.perform-outcome.result c.perform-outcome.new.payload.bytes performs)
