use Rattle.outside.specs.declared.traits.Sample.TheVariants as event
use Rattle.tested_noise.proofs.EventTaken.{explained_event}
use Rattle.tested_noise.proofs.Taking.{byte_taken, fault_taken, ended_taken, failed_taken}
use Rattle.std.proofs.Common.{◌≡◌, ◌++◌, ◌∷◌, [], None, Some, ◌∙◌, sym, subst}
use Rattle.noise_health.specs.Signals.{health_signal}
use Rattle.tested_noise.specs.Taken.{health_failure, FailsWithin}
use Rattle.tested_noise.proofs.samples.take_sample.Goals as goal

pub returns-in-Ended-clause-taken : goal.returns-in-Ended-clause-taken
returns-in-Ended-clause-taken g c = explained_event _ _ event.Ended _ c.in-Ended.ensures.taken (λ events is samples counts. ended_taken samples events is)

pub returns-in-Failed-clause-taken : goal.returns-in-Failed-clause-taken
returns-in-Failed-clause-taken g c = explained_event _ _ event.Failed _ c.in-Failed.ensures.taken (λ events is samples counts. failed_taken samples events is)

pub returns-in-None-clause-taken : goal.returns-in-None-clause-taken
returns-in-None-clause-taken g c =
    explained_event _ _ (event.Byte c.in-Byte.byte) _ c.in-Byte.ensures.taken
    (λ events is samples counts.
    let healthy : health_signal (samples ++ c.in-Byte.byte ∷ []) ≡ None = sym (c.in-None.ensures.signal samples counts) in
    byte_taken samples events c.in-Byte.byte is healthy)

pub returns-in-Some-clause-taken : goal.returns-in-Some-clause-taken
returns-in-Some-clause-taken g c =
    let reason = c.failure_of.ensures in
    explained_event _ _ (event.Byte c.in-Byte.byte) _ c.in-Byte.ensures.taken
    (λ events is samples counts.
    let shows : health_signal (samples ++ c.in-Byte.byte ∷ []) ≡ Some c.in-Some.fault = sym (c.in-Some.ensures.signal samples counts) in
    rw reason (fault_taken samples events c.in-Byte.byte c.in-Some.fault is shows))
