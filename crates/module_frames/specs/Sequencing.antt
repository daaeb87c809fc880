-- The order of numbered commands: a rule of this project's own.
use Rattle.std.specs.Prelude.{ℕ, ◌==◌, Bool, true, Option, Some, None}
use Rattle.module_frames.specs.PublicEffects.{sequence_taken}
use Rattle.module_frames.specs.declared.public_state.PublicState.{PublicState}

-- whether a command comes in its order: without a sequence number, or with the one that is expected
abbrev pub is_in_order : Option ℕ → ℕ → Bool
is_in_order None expected = true
is_in_order (Some number) expected = number == expected

-- the number of a command that comes in its order is taken, whatever becomes of the command
abbrev pub sequence_seen : Option ℕ → PublicState → PublicState
sequence_seen None public = public
sequence_seen (Some number) public = sequence_taken public
