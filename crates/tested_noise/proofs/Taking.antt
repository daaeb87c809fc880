-- Samples taken one after another.
use Rattle.std.proofs.Common.{◌≡◌, ◌+◌, ◌-◌, ◌<◌, ℕ, zero, suc, List, [], ◌∷◌, ◌++◌, length, Option, Some, None, refl, sym, ◌∙◌, ap, subst, arith, length-append, append_assoc, append-nil}
use Rattle.noise_health.specs.Signals.{health_signal}
use Rattle.noise_health.specs.declared.health.HealthFault.{HealthFault}
use Rattle.outside.specs.declared.traits.Sample.{Sample}
use Rattle.outside.specs.declared.traits.Sample.TheVariants as event
use Rattle.outside.specs.Events.{next_event, events_after}
use Rattle.service_table.specs.declared.failure.Failure.{Failure}
use Rattle.service_table.specs.declared.failure.Failure.TheVariants as failure
use Rattle.tested_noise.specs.Taken.{Taken, nothing_taken, health_failure, with_tested, with_event, one_more, samples_taken, taken_after, AreTaken, FailsWithin}

-- the first sample, by its event
first_taken : (samples : List ℕ) (events : List Sample) (event : Sample) → next_event events ≡ event
    → taken_after samples events 1 ≡ with_event (nothing_taken samples (events_after events)) event
unfolding samples_taken
first_taken samples events event is = ap (with_event (nothing_taken samples (events_after events))) is

-- a byte at which no fault shows
pub byte_taken : (samples : List ℕ) (events : List Sample) (byte : ℕ) → next_event events ≡ event.Byte byte → health_signal (samples ++ byte ∷ []) ≡ None
    → AreTaken samples (byte ∷ []) events (events_after events)
byte_taken samples events byte is healthy =
    first_taken samples events (event.Byte byte) is ∙ ap (with_tested (nothing_taken samples (events_after events)) byte) healthy

-- a byte at which one shows
pub fault_taken : (samples : List ℕ) (events : List Sample) (byte : ℕ) (shown : HealthFault) → next_event events ≡ event.Byte byte → health_signal (samples ++ byte ∷ []) ≡ Some shown
    → FailsWithin samples 1 (health_failure shown) events (events_after events)
fault_taken samples events byte shown is shows =
    let all = first_taken samples events (event.Byte byte) is ∙ ap (with_tested (nothing_taken samples (events_after events)) byte) shows in
    record { reason = ap (λ (t : Taken). t.failure) all; events_left = ap (λ (t : Taken). t.left) all }

pub ended_taken : (samples : List ℕ) (events : List Sample) → next_event events ≡ event.Ended → FailsWithin samples 1 failure.NoiseEnded events (events_after events)
ended_taken samples events is =
    let all = first_taken samples events event.Ended is in
    record { reason = ap (λ (t : Taken). t.failure) all; events_left = ap (λ (t : Taken). t.left) all }

pub failed_taken : (samples : List ℕ) (events : List Sample) → next_event events ≡ event.Failed → FailsWithin samples 1 failure.NoiseFailed events (events_after events)
failed_taken samples events is =
    let all = first_taken samples events event.Failed is in
    record { reason = ap (λ (t : Taken). t.failure) all; events_left = ap (λ (t : Taken). t.left) all }

-- no sample
pub none_taken : (samples : List ℕ) (events : List Sample) → AreTaken samples [] events events
unfolding samples_taken
none_taken samples events = ap (λ all. record { samples = all; left = events; bytes = []; failure = None }) (sym (append-nil samples))

-- what was handed out before makes no difference to what comes next
tested_behind : (s a : List ℕ) (mid left : List Sample) (byte sample : ℕ) (shown : Option HealthFault)
    → with_tested (record { samples = s; left = mid; bytes = []; failure = None }) sample shown ≡ record { samples = s ++ byte ∷ []; left = left; bytes = byte ∷ []; failure = None }
    → with_tested (record { samples = s; left = mid; bytes = a; failure = None }) sample shown ≡ record { samples = s ++ byte ∷ []; left = left; bytes = a ++ byte ∷ []; failure = None }
tested_behind s a mid left byte sample None is =
    let bytes : sample ∷ [] ≡ byte ∷ [] = ap (λ (t : Taken). t.bytes) is in
    let same : sample ≡ byte = cc in
    let rest : mid ≡ left = ap (λ (t : Taken). t.left) is in
    rw same (rw rest refl)
tested_behind s a mid left byte sample (Some shown) is =
    let failed : Some (health_failure shown) ≡ None = ap (λ (t : Taken). t.failure) is in
    cc

event_behind : (s a : List ℕ) (mid left : List Sample) (byte : ℕ) (event : Sample)
    → with_event (record { samples = s; left = mid; bytes = []; failure = None }) event ≡ record { samples = s ++ byte ∷ []; left = left; bytes = byte ∷ []; failure = None }
    → with_event (record { samples = s; left = mid; bytes = a; failure = None }) event ≡ record { samples = s ++ byte ∷ []; left = left; bytes = a ++ byte ∷ []; failure = None }
event_behind s a mid left byte (event.Byte sample) is = tested_behind s a mid left byte sample (health_signal (s ++ sample ∷ [])) is
event_behind s a mid left byte event.Ended is =
    let failed : Some failure.NoiseEnded ≡ None = ap (λ (t : Taken). t.failure) is in
    cc
event_behind s a mid left byte event.Failed is =
    let failed : Some failure.NoiseFailed ≡ None = ap (λ (t : Taken). t.failure) is in
    cc

-- one sample more is the next event's, where none failed
next_taken : (samples a : List ℕ) (events mid : List Sample) → AreTaken samples a events mid
    → taken_after samples events (suc (length a)) ≡ with_event (record { samples = samples ++ a; left = events_after mid; bytes = a; failure = None }) (next_event mid)
unfolding samples_taken
next_taken samples a events mid before = ap (λ (t : Taken). one_more t t.failure) before

-- some samples and then one
pub both_taken : (samples a : List ℕ) (byte : ℕ) (events mid left : List Sample) → AreTaken samples a events mid → AreTaken (samples ++ a) (byte ∷ []) mid left
    → AreTaken samples (a ++ byte ∷ []) events left
both_taken samples a byte events mid left before last =
    let long : length (a ++ byte ∷ []) ≡ suc (length a) = omega (arith, length-append a (byte ∷ [])) in
    let more = sym (first_taken (samples ++ a) mid (next_event mid) refl) ∙ last in
    ap (taken_after samples events) long ∙ next_taken samples a events mid before ∙ event_behind (samples ++ a) a (events_after mid) left byte (next_event mid) more
    ∙ ap (λ all. record { samples = all; left = left; bytes = a ++ byte ∷ []; failure = None }) (append_assoc samples a (byte ∷ []))

-- a failure of the next sample is one also behind others
fails_tested : (s a : List ℕ) (mid : List Sample) (sample : ℕ) (shown : Option HealthFault)
    → let alone = with_tested (record { samples = s; left = mid; bytes = []; failure = None }) sample shown in
    let behind = with_tested (record { samples = s; left = mid; bytes = a; failure = None }) sample shown in (behind.failure ≡ alone.failure) × (behind.left ≡ alone.left)
fails_tested s a mid sample None = (refl, refl)
fails_tested s a mid sample (Some shown) = (refl, refl)

fails_event : (s a : List ℕ) (mid : List Sample) (event : Sample)
    → let alone = with_event (record { samples = s; left = mid; bytes = []; failure = None }) event in
    let behind = with_event (record { samples = s; left = mid; bytes = a; failure = None }) event in (behind.failure ≡ alone.failure) × (behind.left ≡ alone.left)
fails_event s a mid (event.Byte sample) = fails_tested s a mid sample (health_signal (s ++ sample ∷ []))
fails_event s a mid event.Ended = (refl, refl)
fails_event s a mid event.Failed = (refl, refl)

fails_next : (samples a : List ℕ) (events mid left : List Sample) (why : Failure) → AreTaken samples a events mid → FailsWithin (samples ++ a) 1 why mid left
    → FailsWithin samples (suc (length a)) why events left
fails_next samples a events mid left why before last =
    let one = first_taken (samples ++ a) mid (next_event mid) refl in
    let all = next_taken samples a events mid before in
    let same = fails_event (samples ++ a) a (events_after mid) (next_event mid) in
    record {
      reason = ap (λ (t : Taken). t.failure) all ∙ same.0 ∙ sym (ap (λ (t : Taken). t.failure) one) ∙ last.reason;
      events_left = ap (λ (t : Taken). t.left) all ∙ same.1 ∙ sym (ap (λ (t : Taken). t.left) one) ∙ last.events_left;
    }

-- after a failure no event is taken
fails_on : (taken : Taken) (why : Failure) → taken.failure ≡ Some why → one_more taken taken.failure ≡ taken
fails_on taken why is = ap (one_more taken) is

stays_failed : (taken : Taken) (count more : ℕ) (why : Failure) → (samples_taken taken count).failure ≡ Some why → samples_taken taken (more + count) ≡ samples_taken taken count
unfolding samples_taken
stays_failed taken count zero why is = ap (samples_taken taken) (let e : zero + count ≡ count = omega arith in e)
stays_failed taken count (suc more) why is =
    let next : suc more + count ≡ suc (more + count) = omega arith in
    let same = stays_failed taken count more why is in
    let failed : (samples_taken taken (more + count)).failure ≡ Some why = ap (λ (t : Taken). t.failure) same ∙ is in
    ap (samples_taken taken) next ∙ fails_on (samples_taken taken (more + count)) why failed ∙ same

-- so a failure of a sample is one of any longer run of them
pub fails_within : (samples a : List ℕ) (count : ℕ) (events mid left : List Sample) (why : Failure) → length a < count → AreTaken samples a events mid
    → FailsWithin (samples ++ a) 1 why mid left → FailsWithin samples count why events left
fails_within samples a count events mid left why short before last =
    let next = fails_next samples a events mid left why before last in
    let most : (count - suc (length a)) + suc (length a) ≡ count = omega (arith, short) in
    let same : taken_after samples events count ≡ taken_after samples events (suc (length a)) =
    ap (taken_after samples events) (sym most) ∙ stays_failed (nothing_taken samples events) (suc (length a)) (count - suc (length a)) why next.reason in
    record { reason = ap (λ (t : Taken). t.failure) same ∙ next.reason; events_left = ap (λ (t : Taken). t.left) same ∙ next.events_left }
