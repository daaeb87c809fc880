-- What a handler did is what a request asks for.
use Rattle.std.proofs.Common.{◌≡◌, ℕ, List, [], refl, sym, subst}
use Rattle.noise_health.specs.declared.health.Health.{Health}
use Rattle.noise_health.specs.Counts.{Counts}
use Rattle.outside.specs.declared.traits.Sample.{Sample}
use Rattle.module_frames.specs.Requests.{RequestValue, CryptographicRequest, Cryptographic}
use Rattle.engine_core.specs.Calls.{Calls}
use Rattle.random_bits.specs.Draws.{Drawn}
use Rattle.crypto_services.specs.declared.outcome.Outcome.{Outcome}
use Rattle.crypto_services.specs.declared.parts.Parts.{Parts}
use Rattle.crypto_services.specs.Serves.{Serves}
use Rattle.crypto_services.specs.Drawing.{ServesDrawn, after_draw}
use Rattle.state_model.specs.Cryptographic.{undrawn, drawn_for, service_at, use_of}
use Rattle.state_model.specs.Performs.{Performs}

-- one value is that of one request
same_request : {value : RequestValue} {found what : CryptographicRequest} → value ≡ Cryptographic found → value ≡ Cryptographic what → found ≡ what
same_request one other = cc

-- a handler of a service that draws
pub performed : {V : Type 0} (calls : Calls V) (found : CryptographicRequest) (value : RequestValue) (old new : Parts V) (outcome : Outcome) (payload samples : List ℕ) (events left : List Sample)
    → value ≡ Cryptographic found → Performs calls found old new outcome payload samples events left → (what : CryptographicRequest) → value ≡ Cryptographic what
    → Performs calls what old new outcome payload samples events left
performed calls found value old new outcome payload samples events left is performs what same =
    let Done : CryptographicRequest → Type 0 = λ request. Performs calls request old new outcome payload samples events left in subst Done (same_request is same) performs

served : {V : Type 0} (drawn : Drawn V) (found : CryptographicRequest) (calls : Calls V) (old new : Parts V) (outcome : Outcome) (payload samples : List ℕ) (events : List Sample)
    → drawn ≡ undrawn old.engine old.drbg samples events → Counts old.health samples → Serves (use_of found) (service_at calls old.engine [] old.vault.slots found) old new outcome payload
    → ServesDrawn (use_of found) drawn (after_draw drawn old.vault.slots (λ engine bytes slots. service_at calls engine bytes slots found)) old new outcome payload events
served {V} drawn found calls old new outcome payload samples events is counts serves =
    let At : Drawn V → Type 0 = λ d. ServesDrawn (use_of found) d (after_draw d old.vault.slots (λ engine bytes slots. service_at calls engine bytes slots found)) old new outcome payload events in
    let Counting : Health → Type 0 = λ health. Counts health samples in
    subst At (sym is) (record {
      engine = serves.leaves.engine;
      vault = serves.leaves.vault;
      generator = serves.leaves.generator;
      counts = λ _. subst Counting (sym serves.leaves.health) counts;
      same_outcome = serves.same_outcome;
      same_payload = serves.same_payload;
      events_left = refl;
    })

-- and one of a service that doesn't
pub performed_undrawn : {V : Type 0} (calls : Calls V) (found : CryptographicRequest) (value : RequestValue) (old new : Parts V) (outcome : Outcome) (payload : List ℕ) → value ≡ Cryptographic found
    → ((samples : List ℕ) (events : List Sample) → drawn_for calls old.engine old.drbg samples events found ≡ undrawn old.engine old.drbg samples events)
    → Serves (use_of found) (service_at calls old.engine [] old.vault.slots found) old new outcome payload
    → (events : List Sample) (samples : List ℕ) (what : CryptographicRequest) → Counts old.health samples → value ≡ Cryptographic what → Performs calls what old new outcome payload samples events events
performed_undrawn calls found value old new outcome payload is none serves events samples what counts same =
    performed calls found value old new outcome payload samples events events is (served _ found calls old new outcome payload samples events (none samples events) counts serves) what same
