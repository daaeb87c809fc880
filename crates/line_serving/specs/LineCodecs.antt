-- How a codec of lines holds its stream.
use Rattle.std.specs.Prelude.{◌≡◌, ◌≢◌, ◌<◌, ◌^◌, true, false, [], None}
use Rattle.bits_core.specs.OutboxContents.{holding}
use Rattle.line_input.specs.TextLines.{HasNoLineFeed}
use Rattle.module_frames.specs.Fragments.{Fragment}
use Rattle.operator_text.specs.Spelling.{Spells, cleared_command}
use Rattle.line_serving.specs.declared.limits.TheConstants.{REPLY_ROOM}
use Rattle.line_serving.specs.declared.line_codec.LineCodec.TheInside.{Inside}
use Rattle.line_serving.specs.LineTaking.{held_bytes}

-- faults behind what is held are counted from the lines that ended before it
abbrev pub fragment_of : Inside → Fragment
fragment_of c = record { start = c.ended; bytes = held_bytes c.lines; fault = c.fault }

-- A line that stands spells the command, and its number can be told. Where none stands no command is held. A line that was too long is a
-- fault, and no reply is held.
pub record IsLineCodec (c : Inside) : Type 0 where
  pub no_feed : HasNoLineFeed c.lines.text
  pub no_command : c.lines.whole ≡ false → c.command ≡ cleared_command
  pub spelled : c.lines.whole ≡ true → Spells c.lines.text c.command
  pub countable : c.lines.whole ≡ true → c.ended < 2 ^ 63
  pub refused : c.lines.too_long ≡ true → c.fault ≢ None
  pub no_reply : c.reply ≡ holding [] REPLY_ROOM
