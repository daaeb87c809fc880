-- A prepared key that some key filled can be used.
use Rattle.std.proofs.Common.{ℕ, List, ap, arith}
use Rattle.aes_core.specs.Schedules.{KeySchedule}
use Rattle.gcm_mode.specs.Filled.{IsFilled, IsReady}
use Rattle.gcm_mode.specs.declared.prepared_key.Prepared.{Prepared}

pub filled_is_ready : (p : Prepared) (key : List ℕ) → IsFilled p key → IsReady p
filled_is_ready p key filled =
    let rounds = ap (λ (s : KeySchedule). s.rounds) filled.schedule.whole in
    omega arith
