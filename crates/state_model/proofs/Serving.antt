-- A cryptographic service, between what comes before the slots and what comes after them.
use Rattle.std.proofs.Common.{◌≡◌, ◌≢◌, ◌∙◌, ℕ, List, Bool, true, false, Option, Some, None, refl, ap, subst, if◌then◌else◌}
use Rattle.drbg_core.specs.declared.generator.Drbg.{Drbg}
use Rattle.noise_health.specs.declared.health.Health.{Health}
use Rattle.noise_health.specs.Counts.{Counts}
use Rattle.service_table.specs.declared.failure.Failure.{Failure}
use Rattle.service_table.specs.declared.service.Service.TheVariants as service
use Rattle.service_table.specs.Services.{is_permitted}
use Rattle.ssp_slots.specs.Slots.{Contents, AreWellFormed}
use Rattle.outside.specs.declared.traits.Sample.{Sample}
use Rattle.module_frames.specs.declared.public_state.PublicState.{PublicState}
use Rattle.module_frames.specs.PublicState.{no_block}
use Rattle.module_frames.specs.PublicEffects.{use_counted, is_period_over, sent_to_tests, has_failed}
use Rattle.module_frames.specs.Requests.{CryptographicRequest}
use Rattle.engine_core.specs.Calls.{Calls}
use Rattle.random_bits.specs.Draws.{Drawn}
use Rattle.crypto_services.specs.declared.outcome.Outcome.{Outcome}
use Rattle.crypto_services.specs.declared.parts.Parts.{Parts}
use Rattle.crypto_services.specs.AtSlots.{SlotsResult}
use Rattle.crypto_services.specs.Drawing.{ServesDrawn, after_draw_by}
use Rattle.state_model.specs.ModuleView.{ModuleView}
use Rattle.state_model.specs.MachineState.{MachineState, Shared, IsWellFormed}
use Rattle.state_model.specs.Cryptographic.{service_at, served, link_of, with_link, with_drawn, ready_drawn, failed_by, use_of}
use Rattle.state_model.specs.Represents.{machine_of, Represents, IsServiceResult}
use Rattle.state_model.proofs.PublicRules.{failed_is_not_over}
use Rattle.state_model.proofs.Testing.{Includes}
use Rattle.state_model.proofs.Draws.{Answers}
use Rattle.state_model.proofs.Rules.{cryptographic_kept, failed_use_is_kept}

-- public state and tests that passed, settled as values
abbrev pub settled_as : PublicState → ℕ → Bool → PublicState × ℕ
settled_as public tests over = if over then (sent_to_tests public, 0) else (public, tests)

-- a module with these fields in place of its own, but for image, digest and entry
abbrev pub with_fields : {V : Type 0} → ModuleView V → PublicState × ℕ → V → Health → Drbg → Contents → ModuleView V
with_fields m ended engine health generator vault = record {
  public = ended.0;
  tests_passed = ended.1;
  engine = engine;
  health = health;
  generator = generator;
  image = m.image;
  digest = m.digest;
  vault = vault;
  entry = m.entry;
}

-- a module that has settled as the machine has
settled_represents : {V : Type 0} (m : ModuleView V) (public : PublicState) (tests : ℕ) (engine : V) (health : Health) (generator : Drbg) (samples : List ℕ) (vault : Contents) (over : Bool) → Counts health samples
    → (let counted : Shared V = record (machine_of m samples).shared { public = public; tests_passed = tests; engine = engine; generator = generator; ancestry = vault.rows } in
    let after : Shared V = if over then record counted { public = sent_to_tests counted.public; tests_passed = 0 } else counted in
    let u : MachineState V = record (machine_of m samples) { shared = after; slots = vault.slots } in
    IsWellFormed u → Represents (with_fields m (settled_as public tests over) engine health generator vault) u)
settled_represents m public tests engine health generator samples vault true counts kept = record { same = refl; well_formed = kept; counts = λ _. counts }
settled_represents m public tests engine health generator samples vault false counts kept = record { same = refl; well_formed = kept; counts = λ _. counts }

-- what is served after its draw is the machine's step
pub drawn_represents : {V : Type 0} (calls : Calls V) (m : ModuleView V) (samples : List ℕ) (left : List Sample) (what : CryptographicRequest) (more : ℕ) (engine : V) (d : Drawn V) (failure : Option Failure)
    (old new : Parts V) (outcome : Outcome) (payload : List ℕ) (ended : PublicState × ℕ)
    → d.failure ≡ failure → IsWellFormed (machine_of m samples) → is_permitted service.Hash m.public.state ≡ true → Includes more m.tests_passed → Answers 1025 d
    → (failure ≢ None → link_of what ≡ None) → old.vault ≡ record m.vault { rows = with_link m.vault.rows (link_of what) }
    → ServesDrawn (use_of what) d (after_draw_by d failure m.vault.slots (λ engine bytes slots. service_at calls engine bytes slots what)) old new outcome payload left
    → AreWellFormed new.vault
    → (let p : PublicState = failed_by outcome.failure (use_counted m.public) in ended ≡ settled_as p more (is_period_over p))
    → (let s : MachineState V = machine_of m samples in
    let counted : Shared V = record s.shared { public = use_counted s.shared.public; tests_passed = more; engine = engine } in
    let after = served calls s (ready_drawn (with_drawn counted d) d failure what) what in
    IsServiceResult after (with_fields m ended new.engine new.health new.drbg new.vault) outcome.status no_block payload × (after.left ≡ left))
drawn_represents {V} calls m samples left what more engine d None old new outcome payload ended is rules allowed includes answers unlinked linked serves are settled =
    let s : MachineState V = machine_of m samples in
    let counted = use_counted m.public in
    let result : SlotsResult V = service_at calls d.engine d.bytes m.vault.slots what in
    let rows = with_link m.vault.rows (link_of what) in
    let vault : Contents = record { slots = result.slots; rows = rows } in
    let same_vault : new.vault ≡ vault = rw linked at serves.vault in
    let Well : Contents → Type 0 = λ v. AreWellFormed v in
    let kept = cryptographic_kept s more result.engine d.generator d.samples rows result.slots rules allowed includes (answers.healthy is) (answers.least is) (answers.requests is) (subst Well same_vault are) in
    let none : outcome.failure ≡ None = ap (λ (o : Outcome). o.failure) serves.same_outcome ∙ is in
    let settled' : ended ≡ settled_as counted more (is_period_over counted) = rw none at settled in (
      record {
        represents = rw (settled', serves.engine, same_vault, serves.generator) (settled_represents m counted more result.engine new.health d.generator d.samples vault (is_period_over counted) (serves.counts is) kept);
        same_status = ap (λ (o : Outcome). o.status) serves.same_outcome;
        same_block = refl;
        same_payload = serves.same_payload;
      },
      serves.events_left,
    )
drawn_represents {V} calls m samples left what more engine d (Some fault) old new outcome payload ended is rules allowed includes answers unlinked linked serves are settled =
    let s : MachineState V = machine_of m samples in
    let failed = has_failed fault (use_counted m.public) in
    let same_vault : new.vault ≡ m.vault = rw (linked, unlinked (λ e. cc)) at serves.vault in
    let kept = failed_use_is_kept s fault more d.engine d.generator d.samples (rw is at answers.fails) rules allowed in
    let some : outcome.failure ≡ Some fault = ap (λ (o : Outcome). o.failure) serves.same_outcome ∙ is in
    let settled' : ended ≡ settled_as failed more false = rw (some, failed_is_not_over (use_counted m.public) fault) at settled in (
      record {
        represents = rw (settled', serves.engine, same_vault, serves.generator) (record {
          same = rw (failed_is_not_over (use_counted m.public) fault) refl;
          well_formed = kept;
          counts = λ other. absurd (other refl);
        });
        same_status = ap (λ (o : Outcome). o.status) serves.same_outcome;
        same_block = refl;
        same_payload = serves.same_payload;
      },
      serves.events_left,
    )
