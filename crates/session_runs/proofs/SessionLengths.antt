-- How many commands a session has.
use Rattle.std.proofs.Common.{◌≡◌, ◌+◌, ◌≤◌, ◌<◌, ◌^◌, ℕ, zero, suc, refl, ap, length, arith, length-append}
use Rattle.session_commands.specs.SessionCommands.{first_commands, drawn_commands, next_number, session_commands}
use Rattle.session_runs.specs.declared.limits.TheConstants.{LONGEST_SESSION}

drawn_long : (x count : ℕ) → length (drawn_commands x count) ≡ count
unfolding drawn_commands
drawn_long x zero = refl
drawn_long x (suc count) = ap (λ (n : ℕ). suc n) (drawn_long (next_number x) count)

pub session_long : (seed count : ℕ) → length (session_commands seed count) ≡ 11 + count
session_long seed count = omega (arith, length-append first_commands (drawn_commands seed count), drawn_long seed count)

-- what a caller of `run_session` owes for a new session
pub session_is_short : (seed count : ℕ) → count < 2 ^ 32 → length (session_commands seed count) ≤ LONGEST_SESSION
session_is_short seed count h = omega (arith, session_long seed count)
