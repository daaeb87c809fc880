-- What a draw gives with a standard engine, and that whether it fails is the noise's matter alone.
use Rattle.std.proofs.Common.{◌≡◌, ◌+◌, ◌∷◌, ◌++◌, ℕ, zero, suc, List, [], Bool, true, false, Option, Some, None, length, refl, sym, ◌∙◌, arith, nat_lt, if◌then◌else◌, length-append}
use Rattle.std.proofs.lemmas.Bool.Decides.{nat_tests}
use Rattle.drbg_core.specs.declared.generator.Drbg.{Drbg}
use Rattle.drbg_core.specs.Generator.{reseed}
use Rattle.drbg_core.proofs.Requests.{length-bytes}
use Rattle.noise_health.specs.Signals.{health_signal}
use Rattle.noise_health.specs.declared.health.HealthFault.{HealthFault}
use Rattle.service_table.specs.declared.failure.Failure.{Failure}
use Rattle.outside.specs.declared.traits.Sample.{Sample}
use Rattle.outside.specs.declared.traits.Sample.TheVariants as event
use Rattle.outside.specs.Events.{next_event, events_after}
use Rattle.tested_noise.specs.Taken.{Taken, nothing_taken, with_tested, with_event, one_more, samples_taken, taken_after}
use Rattle.module_frames.specs.Requests.{CryptographicRequest}
use Rattle.module_frames.specs.Requests as request
use Rattle.engine_core.specs.Calls.{Calls, IsStandard}
use Rattle.random_bits.specs.Draws.{Drawn, reseeded_from, reseeded, refreshed, generated_by, drawn}
use Rattle.state_model.specs.Cryptographic.{drawn_for}
use Rattle.state_model.specs.Meaning.{IsReady, AreDrawn}

-- where nothing fails, nothing has failed before, and one sample more is handed out
record IsOneMore (before after : Taken) (failure : Option Failure) : Type 0 where
  sound : failure ≡ None
  long : length after.bytes ≡ length before.bytes + 1

tested_more : (before : Taken) (sample : ℕ) (shown : Option HealthFault) → (with_tested before sample shown).failure ≡ None → length (with_tested before sample shown).bytes ≡ length before.bytes + 1
tested_more before sample None none = length-append before.bytes (sample ∷ [])
tested_more before sample (Some fault) none = cc

event_more : (before : Taken) (event : Sample) → (with_event before event).failure ≡ None → length (with_event before event).bytes ≡ length before.bytes + 1
event_more before (event.Byte sample) none = tested_more before sample (health_signal (before.samples ++ sample ∷ [])) none
event_more before event.Ended none = cc
event_more before event.Failed none = cc

taken_more : (before : Taken) (failure : Option Failure) → before.failure ≡ failure → (one_more before failure).failure ≡ None → IsOneMore before (one_more before failure) failure
taken_more before None is none = record { sound = refl; long = event_more (record before { left = events_after before.left }) (next_event before.left) none }
taken_more before (Some fault) is none = cc

-- as many samples are handed out as are asked for
samples_long : (taken : Taken) (count : ℕ) → (samples_taken taken count).failure ≡ None → length (samples_taken taken count).bytes ≡ length taken.bytes + count
unfolding samples_taken
samples_long taken zero none = omega arith
samples_long taken (suc count) none =
    let before = samples_taken taken count in
    let more = taken_more before before.failure refl none in
    more.long ∙ omega (arith, samples_long taken count more.sound)

taken_long : (samples : List ℕ) (events : List Sample) (count : ℕ) → (taken_after samples events count).failure ≡ None → length (taken_after samples events count).bytes ≡ count
taken_long samples events count none = let long = samples_long (nothing_taken samples events) count none in omega (arith, long)

-- the generator was reseeded with 256 samples
abbrev pub IsReseeded : Drbg → Drbg → List ℕ → Type 0
IsReseeded found after additional = (samples : List ℕ) × (length samples ≡ 256) × (after ≡ reseed found samples additional)

reseeded_from_means : {V : Type 0} (calls : Calls V) → IsStandard calls → (engine : V) (found : Drbg) (additional : List ℕ) (taken : Taken) (failure : Option Failure) → taken.failure ≡ failure
    → (taken.failure ≡ None → length taken.bytes ≡ 256) → (reseeded_from calls engine found additional taken failure).failure ≡ None
    → IsReseeded found (reseeded_from calls engine found additional taken failure).generator additional
reseeded_from_means calls standard engine found additional taken None is long none = (taken.bytes, long is, standard.reseed engine found taken.bytes additional)
reseeded_from_means calls standard engine found additional taken (Some fault) is long none = cc

pub reseeded_means : {V : Type 0} (calls : Calls V) → IsStandard calls → (engine : V) (found : Drbg) (additional samples : List ℕ) (events : List Sample)
    → (reseeded calls engine found additional samples events).failure ≡ None → IsReseeded found (reseeded calls engine found additional samples events).generator additional
reseeded_means calls standard engine found additional samples events none =
    let taken = taken_after samples events 256 in
    reseeded_from_means calls standard engine found additional taken taken.failure refl (taken_long samples events 256) none

refreshed_means : {V : Type 0} (calls : Calls V) → IsStandard calls → (engine : V) (found : Drbg) (samples : List ℕ) (events : List Sample)
    → (refreshed calls engine found samples events).failure ≡ None → IsReady found (refreshed calls engine found samples events).generator
refreshed_means {V} calls standard engine found samples events = chosen (nat_lt 1024 found.counter) refl
  where
    still : Drawn V
    still = record { engine = engine; generator = found; samples = samples; left = events; bytes = []; failure = None }

    chosen : (due : Bool) → nat_lt 1024 found.counter ≡ due → (if due then reseeded calls engine found [] samples events else still).failure ≡ None
        → IsReady found (if due then reseeded calls engine found [] samples events else still).generator
    chosen true is none = record { same = λ few. absurd (grind (arith, nat_tests, is, few)); reseeded = λ _. reseeded_means calls standard engine found [] samples events none }
    chosen false is none = record { same = λ _. refl; reseeded = λ many. absurd (grind (arith, nat_tests, is, many)) }

generated_means : {V : Type 0} (calls : Calls V) → IsStandard calls → (found : Drbg) (ready : Drawn V) (additional : List ℕ) (n : ℕ) (failure : Option Failure) → ready.failure ≡ failure
    → (ready.failure ≡ None → IsReady found ready.generator) → (generated_by calls ready additional n failure).failure ≡ None
    → (let d = generated_by calls ready additional n failure in AreDrawn found d.generator additional n d.bytes)
generated_means calls standard found ready additional n None is ready_is none =
    let answered = standard.generate ready.engine ready.generator additional n in
    record {
      ready = ready.generator;
      is_ready = ready_is is;
      same_bytes = rw answered refl;
      same_after = rw answered refl;
      long = rw answered (length-bytes ready.generator additional n);
    }
generated_means calls standard found ready additional n (Some fault) is ready_is none = cc

draw_means : {V : Type 0} (calls : Calls V) → IsStandard calls → (engine : V) (found : Drbg) (additional : List ℕ) (n : ℕ) (samples : List ℕ) (events : List Sample)
    → (drawn calls engine found additional n samples events).failure ≡ None → (let d = drawn calls engine found additional n samples events in AreDrawn found d.generator additional n d.bytes)
draw_means calls standard engine found additional n samples events none =
    let ready = refreshed calls engine found samples events in
    generated_means calls standard found ready additional n ready.failure refl (refreshed_means calls standard engine found samples events) none

-- what a request has drawn
abbrev pub HasDrawn : {V : Type 0} → CryptographicRequest → Drbg → Drawn V → Type 0
HasDrawn (request.Seal slot tag_length aad text) found d = AreDrawn found d.generator [] 12 d.bytes
HasDrawn (request.Random long additional) found d = AreDrawn found d.generator additional long d.bytes
HasDrawn (request.Generate target header long) found d = AreDrawn found d.generator [] long d.bytes
HasDrawn (request.Reseed additional) found d = IsReseeded found d.generator additional
HasDrawn other found d = Unit {0}

pub has_drawn : {V : Type 0} (calls : Calls V) → IsStandard calls → (engine : V) (found : Drbg) (samples : List ℕ) (events : List Sample) (what : CryptographicRequest)
    → (drawn_for calls engine found samples events what).failure ≡ None → HasDrawn what found (drawn_for calls engine found samples events what)
has_drawn calls standard engine found samples events (request.Hash alg text) none = tt
has_drawn calls standard engine found samples events (request.Mac slot alg mac_length text) none = tt
has_drawn calls standard engine found samples events (request.MacVerify slot alg tag text) none = tt
has_drawn calls standard engine found samples events (request.Seal slot tag_length aad text) none = draw_means calls standard engine found [] 12 samples events none
has_drawn calls standard engine found samples events (request.SealIv slot tag_length iv aad text) none = tt
has_drawn calls standard engine found samples events (request.Open slot iv aad text tag) none = tt
has_drawn calls standard engine found samples events (request.Wrap pad kek second) none = tt
has_drawn calls standard engine found samples events (request.Unwrap pad kek target kind export uses wrapped) none = tt
has_drawn calls standard engine found samples events (request.Derive source target kind export uses long label context) none = tt
has_drawn calls standard engine found samples events (request.Random long additional) none = draw_means calls standard engine found additional long samples events none
has_drawn calls standard engine found samples events (request.Generate target header long) none = draw_means calls standard engine found [] long samples events none
has_drawn calls standard engine found samples events (request.Reseed additional) none = reseeded_means calls standard engine found additional samples events none

-- what fails in a draw is the same with any engine
reseed_fails : {V : Type 0} (calls : Calls V) (engine engine' : V) (found : Drbg) (additional : List ℕ) (taken : Taken) (failure : Option Failure)
    → (reseeded_from calls engine found additional taken failure).failure ≡ (reseeded_from calls engine' found additional taken failure).failure
reseed_fails calls engine engine' found additional taken None = refl
reseed_fails calls engine engine' found additional taken (Some fault) = refl

refresh_fails : {V : Type 0} (calls : Calls V) (engine engine' : V) (found : Drbg) (samples : List ℕ) (events : List Sample)
    → (refreshed calls engine found samples events).failure ≡ (refreshed calls engine' found samples events).failure
refresh_fails {V} calls engine engine' found samples events = chosen (nat_lt 1024 found.counter)
  where
    still : V → Drawn V
    still e = record { engine = e; generator = found; samples = samples; left = events; bytes = []; failure = None }

    chosen : (due : Bool) → (if due then reseeded calls engine found [] samples events else still engine).failure ≡ (if due then reseeded calls engine' found [] samples events else still engine').failure
    chosen true = let taken = taken_after samples events 256 in reseed_fails calls engine engine' found [] taken taken.failure
    chosen false = refl

generate_fails : {V : Type 0} (calls : Calls V) (ready : Drawn V) (additional : List ℕ) (n : ℕ) (failure : Option Failure) → ready.failure ≡ failure
    → (generated_by calls ready additional n failure).failure ≡ failure
generate_fails calls ready additional n None is = is
generate_fails calls ready additional n (Some fault) is = is

draw_fails : {V : Type 0} (calls : Calls V) (engine engine' : V) (found : Drbg) (additional : List ℕ) (n : ℕ) (samples : List ℕ) (events : List Sample)
    → (drawn calls engine found additional n samples events).failure ≡ (drawn calls engine' found additional n samples events).failure
draw_fails calls engine engine' found additional n samples events =
    let ready = refreshed calls engine found samples events in
    let ready' = refreshed calls engine' found samples events in
    generate_fails calls ready additional n ready.failure refl ∙ refresh_fails calls engine engine' found samples events ∙ sym (generate_fails calls ready' additional n ready'.failure refl)

pub drawn_fails : {V : Type 0} (calls : Calls V) (engine engine' : V) (found : Drbg) (samples : List ℕ) (events : List Sample) (what : CryptographicRequest)
    → (drawn_for calls engine found samples events what).failure ≡ (drawn_for calls engine' found samples events what).failure
drawn_fails calls engine engine' found samples events (request.Hash alg text) = refl
drawn_fails calls engine engine' found samples events (request.Mac slot alg mac_length text) = refl
drawn_fails calls engine engine' found samples events (request.MacVerify slot alg tag text) = refl
drawn_fails calls engine engine' found samples events (request.Seal slot tag_length aad text) = draw_fails calls engine engine' found [] 12 samples events
drawn_fails calls engine engine' found samples events (request.SealIv slot tag_length iv aad text) = refl
drawn_fails calls engine engine' found samples events (request.Open slot iv aad text tag) = refl
drawn_fails calls engine engine' found samples events (request.Wrap pad kek second) = refl
drawn_fails calls engine engine' found samples events (request.Unwrap pad kek target kind export uses wrapped) = refl
drawn_fails calls engine engine' found samples events (request.Derive source target kind export uses long label context) = refl
drawn_fails calls engine engine' found samples events (request.Random long additional) = draw_fails calls engine engine' found additional long samples events
drawn_fails calls engine engine' found samples events (request.Generate target header long) = draw_fails calls engine engine' found [] long samples events
drawn_fails calls engine engine' found samples events (request.Reseed additional) =
    let taken = taken_after samples events 256 in reseed_fails calls engine engine' found additional taken taken.failure
