-- A cryptographic service as the parts of a module do it: its draw, and what it does at the slots.
use Rattle.std.specs.Prelude.{ℕ, List}
use Rattle.outside.specs.declared.traits.Sample.{Sample}
use Rattle.module_frames.specs.Requests.{CryptographicRequest}
use Rattle.engine_core.specs.Calls.{Calls}
use Rattle.crypto_services.specs.declared.outcome.Outcome.{Outcome}
use Rattle.crypto_services.specs.declared.parts.Parts.{Parts}
use Rattle.crypto_services.specs.Drawing.{ServesDrawn, after_draw}
use Rattle.state_model.specs.Cryptographic.{drawn_for, service_at, use_of}

-- parts, outcome, payload and the events left are those of the service, with the noise of these events after these samples
abbrev pub Performs : {V : Type 0} → Calls V → CryptographicRequest → (old new : Parts V) → Outcome → (payload samples : List ℕ) → (events left : List Sample) → Type 0
Performs calls what old new outcome payload samples events left =
    let drawn = drawn_for calls old.engine old.drbg samples events what in
    let result = after_draw drawn old.vault.slots (λ engine bytes slots. service_at calls engine bytes slots what) in
    ServesDrawn (use_of what) drawn result old new outcome payload left
