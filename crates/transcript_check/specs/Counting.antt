-- What is true of the public state all along a walk.
use Rattle.std.specs.Prelude.{◌≤◌, ◌<◌, ◌≢◌}
use Rattle.service_table.specs.declared.state.State.TheVariants as state
use Rattle.module_frames.specs.declared.public_state.PublicState.{PublicState}

-- the period is of the length that PowerOn may set, and where nothing failed a use can still be counted
pub record IsCountable (public : PublicState) : Type 0 where
  pub period : public.period ≤ 1000000
  pub uses : public.state ≢ state.Error → 0 < public.period → public.uses_since_tests < public.period
