-- The grammar of lines.
use Rattle.std.specs.Prelude.{◌≡◌, ◌++◌, ℕ, Bool, List, [], ◌∷◌, Some, None, if◌then◌else◌, refl}
use Rattle.line_input.specs.declared.limits.TheConstants.{LINE_FEED}
use Rattle.module_frames.specs.CommandFrames.{CommandFrame}
use Rattle.reply_lines.specs.ReplyLines.{reply_line}
use Rattle.command_serving.specs.Grammars.{Grammar, IsParse, IsLawful}
use Rattle.command_lines.specs.CommandLines.{AreCommandLines, BeginsNoGoodLine, line_feeds}
use Rattle.command_lines.proofs.Counts.{feeds_both, feeds_within}
use Rattle.command_lines.proofs.Deciding.{truth, bad_or_not}
use Rattle.command_lines.proofs.Faults.{nothing_begins, nothing_shows, fault_stays, fault_begins_no_line}
use Rattle.command_lines.proofs.Readings.{no_lines, lines_both, one_reading}

-- whether the bytes begin with a bad line
unfoldable pub begins_bad : (bytes : List ℕ) → Bool
begins_bad bytes = truth (bad_or_not bytes)

-- Each unit is a line, and makes a command or, as a comment, none. A fault has the number of its line, counted from 1, and the end of the
-- source ends the last line.
abbrev pub line_grammar : Grammar
line_grammar = record {
  Encodes = AreCommandLines;
  BeginsNoUnit = BeginsNoGoodLine;
  first_fault = λ bytes. if begins_bad bytes then Some 1 else None;
  advance = line_feeds;
  at_end = λ bytes. bytes ++ LINE_FEED ∷ [];
  reply_encoding = reply_line;
}

one_parse : (bytes : List ℕ) (ones others : List CommandFrame) (remainder left : List ℕ) → IsParse line_grammar bytes ones remainder → IsParse line_grammar bytes others left
    → (ones ≡ others) × (remainder ≡ left)
one_parse bytes ones others remainder left one other =
    one_reading bytes ones others remainder left
    (record { front = one.front; whole = one.whole; made = one.encoded; unfinished = one.unfinished })
    (record { front = other.front; whole = other.whole; made = other.encoded; unfinished = other.unfinished })

pub line_grammar_is_lawful : IsLawful line_grammar
unfolding begins_bad
line_grammar_is_lawful = record {
  nothing = no_lines;
  nothing_begun = nothing_begins;
  nothing_wrong = nothing_shows;
  both = lines_both;
  fault_stays = fault_stays;
  fault_begins_no_unit = fault_begins_no_line;
  advance_both = feeds_both;
  advance_within = feeds_within;
  mark = LINE_FEED ∷ [];
  is_mark = λ bytes. refl;
  one_way = one_parse;
}
