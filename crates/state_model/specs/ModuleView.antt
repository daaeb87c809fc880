-- What the fields of a module show: counters where the machine keeps the samples of noise that they count.
use Rattle.std.specs.Prelude.{ℕ, List}
use Rattle.drbg_core.specs.declared.generator.Drbg.{Drbg}
use Rattle.noise_health.specs.declared.health.Health.{Health}
use Rattle.ssp_slots.specs.Slots.{Contents}
use Rattle.module_frames.specs.declared.public_state.PublicState.{PublicState}
use Rattle.state_model.specs.declared.entry.Entry.{Entry}

pub record ModuleView (V : Type 0) : Type 0 where
  pub public : PublicState
  pub tests_passed : ℕ
  pub engine : V
  pub health : Health
  pub generator : Drbg
  pub image : List ℕ
  pub digest : List ℕ
  pub vault : Contents
  pub entry : Entry
