-- What a draw leaves: a healthy noise and a generator that answers one more request, or a failure.
use Rattle.std.proofs.Common.{◌≡◌, ◌≤◌, ℕ, List, [], Bool, true, false, Option, Some, None, refl, arith, nat_lt, if◌then◌else◌}
use Rattle.std.specs.Prelude.{IfSome}
use Rattle.std.proofs.lemmas.Bool.Decides.{nat_tests}
use Rattle.drbg_core.specs.declared.generator.Drbg.{Drbg}
use Rattle.service_table.specs.declared.failure.Failure.{Failure}
use Rattle.outside.specs.declared.traits.Sample.{Sample}
use Rattle.tested_noise.specs.Taken.{Taken, nothing_taken, taken_after}
use Rattle.engine_core.specs.Calls.{Calls, Keeps}
use Rattle.engine_core.specs.Results.{AreBytes}
use Rattle.random_bits.specs.Draws.{Drawn, reseeded_from, reseeded, refreshed, generated_by, drawn}
use Rattle.module_frames.specs.Requests.{CryptographicRequest}
use Rattle.module_frames.specs.Requests as request
use Rattle.state_model.specs.MachineState.{AreHealthy, IsFailure}
use Rattle.state_model.specs.Cryptographic.{drawn_for}
use Rattle.state_model.proofs.Seeding.{IsFine, all_fine}

-- what is drawn has the length that is asked for
abbrev pub IsDrawnFor : CryptographicRequest → List ℕ → Type 0
IsDrawnFor (request.Seal slot tag_length aad text) bytes = AreBytes 12 bytes
IsDrawnFor (request.Random long additional) bytes = AreBytes long bytes
IsDrawnFor (request.Generate target header long) bytes = AreBytes long bytes
IsDrawnFor other bytes = Unit {0}

-- where nothing failed the samples are healthy and the generator has answered at most so many requests, and what failed is a failure
pub record Answers {V : Type 0} (most : ℕ) (after : Drawn V) : Type 0 where
  pub healthy : after.failure ≡ None → AreHealthy after.samples
  pub fails : IfSome after.failure IsFailure
  pub least : after.failure ≡ None → 1 ≤ after.generator.counter
  pub requests : after.failure ≡ None → after.generator.counter ≤ most

reseeded_answers : {V : Type 0} (calls : Calls V) (engine : V) (generator : Drbg) (additional : List ℕ) (taken : Taken) (failure : Option Failure) → Keeps calls → taken.failure ≡ failure → IsFine taken
    → Answers 1024 (reseeded_from calls engine generator additional taken failure)
reseeded_answers calls engine generator additional taken None keeps is fine =
    let once = keeps.reseed_counter engine generator taken.bytes additional in
    record { healthy = fine.healthy; fails = rw is tt; least = λ _. omega (arith, once); requests = λ _. omega (arith, once) }
reseeded_answers calls engine generator additional taken (Some failure) keeps is fine =
    record { healthy = fine.healthy; fails = fine.fails; least = λ none. cc; requests = λ none. cc }

reseed_answers : {V : Type 0} (calls : Calls V) (engine : V) (generator : Drbg) (additional samples : List ℕ) (events : List Sample) → Keeps calls → AreHealthy samples
    → Answers 1024 (reseeded calls engine generator additional samples events)
reseed_answers calls engine generator additional samples events keeps healthy =
    let taken = taken_after samples events 256 in
    reseeded_answers calls engine generator additional taken taken.failure keeps refl (all_fine (nothing_taken samples events) 256 (record { healthy = λ _. healthy; fails = tt }))

refresh_answers : {V : Type 0} (calls : Calls V) (engine : V) (generator : Drbg) (samples : List ℕ) (events : List Sample) → Keeps calls → AreHealthy samples → 1 ≤ generator.counter
    → Answers 1024 (refreshed calls engine generator samples events)
refresh_answers {V} calls engine generator samples events keeps healthy seeded = chosen (nat_lt 1024 generator.counter) refl
  where
    chosen : (due : Bool) → nat_lt 1024 generator.counter ≡ due
        → Answers 1024 (if due then reseeded calls engine generator [] samples events
        else (let still : Drawn V = record { engine = engine; generator = generator; samples = samples; left = events; bytes = []; failure = None } in still))
    chosen true is = reseed_answers calls engine generator [] samples events keeps healthy
    chosen false is = record { healthy = λ _. healthy; fails = tt; least = λ _. seeded; requests = λ _. grind (arith, nat_tests, is) }

generated_answers : {V : Type 0} (calls : Calls V) (ready : Drawn V) (additional : List ℕ) (n : ℕ) (failure : Option Failure) → Keeps calls → ready.failure ≡ failure → Answers 1024 ready
    → Answers 1025 (generated_by calls ready additional n failure)
generated_answers calls ready additional n None keeps is answers =
    let more = keeps.generate_counter ready.engine ready.generator additional n in
    let most = answers.requests is in
    record { healthy = answers.healthy; fails = answers.fails; least = λ _. omega (arith, more); requests = λ _. omega (arith, more, most) }
generated_answers calls ready additional n (Some failure) keeps is answers =
    record { healthy = answers.healthy; fails = answers.fails; least = λ none. cc; requests = λ none. cc }

draw_answers : {V : Type 0} (calls : Calls V) (engine : V) (generator : Drbg) (additional : List ℕ) (n : ℕ) (samples : List ℕ) (events : List Sample) → Keeps calls → AreHealthy samples
    → 1 ≤ generator.counter → Answers 1025 (drawn calls engine generator additional n samples events)
draw_answers calls engine generator additional n samples events keeps healthy seeded =
    let ready = refreshed calls engine generator samples events in
    generated_answers calls ready additional n ready.failure keeps refl (refresh_answers calls engine generator samples events keeps healthy seeded)

-- a new seed answers as many requests as any
more_answers : {V : Type 0} (after : Drawn V) → Answers 1024 after → Answers 1025 after
more_answers after answers =
    record { healthy = answers.healthy; fails = answers.fails; least = answers.least; requests = λ none. let most = answers.requests none in omega (arith, most) }

pub drawn_answers : {V : Type 0} (calls : Calls V) (engine : V) (generator : Drbg) (samples : List ℕ) (events : List Sample) (what : CryptographicRequest) → Keeps calls → AreHealthy samples
    → 1 ≤ generator.counter → generator.counter ≤ 1025 → Answers 1025 (drawn_for calls engine generator samples events what)
drawn_answers calls engine generator samples events (request.Hash alg text) keeps healthy seeded most = record { healthy = λ _. healthy; fails = tt; least = λ _. seeded; requests = λ _. most }
drawn_answers calls engine generator samples events (request.Mac slot alg mac_length text) keeps healthy seeded most = record { healthy = λ _. healthy; fails = tt; least = λ _. seeded; requests = λ _. most }
drawn_answers calls engine generator samples events (request.MacVerify slot alg tag text) keeps healthy seeded most = record { healthy = λ _. healthy; fails = tt; least = λ _. seeded; requests = λ _. most }
drawn_answers calls engine generator samples events (request.Seal slot tag_length aad text) keeps healthy seeded most = draw_answers calls engine generator [] 12 samples events keeps healthy seeded
drawn_answers calls engine generator samples events (request.SealIv slot tag_length iv aad text) keeps healthy seeded most = record { healthy = λ _. healthy; fails = tt; least = λ _. seeded; requests = λ _. most }
drawn_answers calls engine generator samples events (request.Open slot iv aad text tag) keeps healthy seeded most = record { healthy = λ _. healthy; fails = tt; least = λ _. seeded; requests = λ _. most }
drawn_answers calls engine generator samples events (request.Wrap pad kek second) keeps healthy seeded most = record { healthy = λ _. healthy; fails = tt; least = λ _. seeded; requests = λ _. most }
drawn_answers calls engine generator samples events (request.Unwrap pad kek target kind export uses wrapped) keeps healthy seeded most = record { healthy = λ _. healthy; fails = tt; least = λ _. seeded; requests = λ _. most }
drawn_answers calls engine generator samples events (request.Derive source target kind export uses long label context) keeps healthy seeded most = record { healthy = λ _. healthy; fails = tt; least = λ _. seeded; requests = λ _. most }
drawn_answers calls engine generator samples events (request.Random long additional) keeps healthy seeded most = draw_answers calls engine generator additional long samples events keeps healthy seeded
drawn_answers calls engine generator samples events (request.Generate target header long) keeps healthy seeded most = draw_answers calls engine generator [] long samples events keeps healthy seeded
drawn_answers calls engine generator samples events (request.Reseed additional) keeps healthy seeded most = more_answers _ (reseed_answers calls engine generator additional samples events keeps healthy)

generated_bytes : {V : Type 0} (calls : Calls V) (ready : Drawn V) (additional : List ℕ) (n : ℕ) (failure : Option Failure) → Keeps calls → ready.failure ≡ failure
    → (generated_by calls ready additional n failure).failure ≡ None → AreBytes n (generated_by calls ready additional n failure).bytes
generated_bytes calls ready additional n None keeps is none = keeps.generate_bytes ready.engine ready.generator additional n
generated_bytes calls ready additional n (Some failure) keeps is none = cc

pub drawn_bytes : {V : Type 0} (calls : Calls V) (engine : V) (generator : Drbg) (samples : List ℕ) (events : List Sample) (what : CryptographicRequest) → Keeps calls
    → (drawn_for calls engine generator samples events what).failure ≡ None → IsDrawnFor what (drawn_for calls engine generator samples events what).bytes
drawn_bytes calls engine generator samples events (request.Hash alg text) keeps none = tt
drawn_bytes calls engine generator samples events (request.Mac slot alg mac_length text) keeps none = tt
drawn_bytes calls engine generator samples events (request.MacVerify slot alg tag text) keeps none = tt
drawn_bytes calls engine generator samples events (request.Seal slot tag_length aad text) keeps none = let ready = refreshed calls engine generator samples events in generated_bytes calls ready [] 12 ready.failure keeps refl none
drawn_bytes calls engine generator samples events (request.SealIv slot tag_length iv aad text) keeps none = tt
drawn_bytes calls engine generator samples events (request.Open slot iv aad text tag) keeps none = tt
drawn_bytes calls engine generator samples events (request.Wrap pad kek second) keeps none = tt
drawn_bytes calls engine generator samples events (request.Unwrap pad kek target kind export uses wrapped) keeps none = tt
drawn_bytes calls engine generator samples events (request.Derive source target kind export uses long label context) keeps none = tt
drawn_bytes calls engine generator samples events (request.Random long additional) keeps none = let ready = refreshed calls engine generator samples events in generated_bytes calls ready additional long ready.failure keeps refl none
drawn_bytes calls engine generator samples events (request.Generate target header long) keeps none = let ready = refreshed calls engine generator samples events in generated_bytes calls ready [] long ready.failure keeps refl none
drawn_bytes calls engine generator samples events (request.Reseed additional) keeps none = tt
