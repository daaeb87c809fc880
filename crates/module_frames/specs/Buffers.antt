-- How a buffer holds a command.
use Rattle.std.specs.Prelude.{◌≡◌, ◌≤◌, ◌-◌, length, take, drop, replicate}
use Rattle.bits_core.specs.declared.limits.TheConstants.{LARGEST_BODY}
use Rattle.module_frames.specs.declared.command.Command.TheInside.{Inside}
use Rattle.module_frames.specs.CommandFrames.{CommandFrame}

abbrev pub command_of : Inside → CommandFrame
command_of c = record { service = c.service; sequence = c.sequence; body = take c.used c.buffer.items }

-- the buffer has room for the longest body, and its bytes past the body are zero
pub record IsCommandBuffer (c : Inside) : Type 0 where
  pub room : length c.buffer.items ≡ LARGEST_BODY
  pub within : c.used ≤ LARGEST_BODY
  pub spare : drop c.used c.buffer.items ≡ replicate (LARGEST_BODY - c.used) 0
