-- How a buffer holds a line.
use Rattle.std.specs.Prelude.{◌≡◌, ◌≤◌, ◌-◌, length, take, drop, true}
use Rattle.bits_core.specs.ByteList.{zeros}
use Rattle.line_input.specs.declared.limits.TheConstants.{LARGEST_LINE}
use Rattle.line_input.specs.declared.lines.Lines.TheInside.{Inside}
use Rattle.line_input.specs.TextLines.{HasNoLineFeed}
use Rattle.line_input.specs.HeldLines.{HeldLine}

abbrev pub line_of : Inside → HeldLine
line_of l = record { text = take l.used l.buffer.items; whole = l.whole; too_long = l.too_long }

-- the buffer has room for the longest line, its bytes past those held are zero, and of a line that is too long none is held
pub record IsLineBuffer (l : Inside) : Type 0 where
  pub room : length l.buffer.items ≡ LARGEST_LINE
  pub within : l.used ≤ LARGEST_LINE
  pub spare : drop l.used l.buffer.items ≡ zeros (LARGEST_LINE - l.used)
  pub no_feed : HasNoLineFeed (take l.used l.buffer.items)
  pub nothing_refused : l.too_long ≡ true → l.used ≡ 0
