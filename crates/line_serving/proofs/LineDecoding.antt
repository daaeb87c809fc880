-- What a codec of lines answers, by what became of a piece.
use Rattle.std.proofs.Common.{◌≡◌, ◌+◌, ◌++◌, ℕ, Bool, true, false, List, [], ◌∷◌, Option, None, take, refl, sym, ◌∙◌, ap, subst, arith, if◌then◌else◌}
use Rattle.std.specs.Option.{option_map}
use Rattle.bits_core.specs.OutboxContents.{OutboxContents, holding}
use Rattle.line_input.specs.TextLines.{ended_line}
use Rattle.line_input.specs.HeldLines.{HeldLine, IsLineText, cleared_line}
use Rattle.module_frames.specs.CommandFrames.{CommandFrame}
use Rattle.module_frames.specs.Fragments.{Fragment}
use Rattle.command_serving.specs.Decoding.{IsReady, Decodes, cleared}
use Rattle.command_serving.specs.declared.codec.Decoded.TheVariants as decoded
use Rattle.line_serving.specs.declared.line_codec.LineCodec.TheInside.{Inside}
use Rattle.line_serving.specs.declared.taking.Taken.TheVariants as taken
use Rattle.command_lines.specs.CommandLines.{AreCommandLines, BeginsBad, line_feeds}
use Rattle.line_serving.specs.LineGrammar.{line_grammar}
use Rattle.line_serving.specs.LineTaking.{IsUnfinished, TakesLine, held_bytes}
use Rattle.line_serving.specs.LineCodecs.{fragment_of, IsLineCodec}
use Rattle.line_serving.proofs.LineFaults.{bad_shows, none_shows}
use Rattle.line_serving.proofs.LineUnits.{spelled_unit, comment_unit, text_begins_no_line, text_is_not_bad, text_makes_none, good_line_begins, no_feeds, one_feed}

-- what is held where no line stands, and where one does
held_text : (line : HeldLine) → line.whole ≡ false → held_bytes line ≡ line.text
held_text line stands = ap (λ whole. if whole then ended_line line.text else line.text) stands

held_line : (line : HeldLine) → line.whole ≡ true → held_bytes line ≡ ended_line line.text
held_line line stands = ap (λ whole. if whole then ended_line line.text else line.text) stands

-- no line stands where one may go on with what is held
no_line_stands : (c : Inside) → IsLineCodec c → IsReady line_grammar (fragment_of c) → (whole : Bool) → c.lines.whole ≡ whole → c.lines.whole ≡ false
no_line_stands c kept ready true e =
    let Begins : List ℕ → Type 0 = λ bytes. line_grammar.BeginsNoUnit bytes in
    absurd (good_line_begins c.lines.text c.command kept.no_feed (kept.spelled e) (subst Begins (held_line c.lines e) ready.unfinished))
no_line_stands c kept ready false e = e

none_refused : (c : Inside) → IsLineCodec c → IsReady line_grammar (fragment_of c) → (refused : Bool) → c.lines.too_long ≡ refused → c.lines.too_long ≡ false
none_refused c kept ready true e = absurd (kept.refused e ready.no_earlier_fault)
none_refused c kept ready false e = e

pub ready_is_unfinished : (c : Inside) → IsLineCodec c → IsReady line_grammar (fragment_of c) → IsUnfinished c.lines
ready_is_unfinished c kept ready =
    record { stands = no_line_stands c kept ready c.lines.whole refl; not_refused = none_refused c kept ready c.lines.too_long refl; no_feed = kept.no_feed }

-- with a part of a line nothing is whole and nothing bad
text_is_ready : (start : ℕ) (text : List ℕ) → IsLineText text → IsReady line_grammar (record { start = start; bytes = text; fault = None })
text_is_ready start text is = record { no_earlier_fault = refl; no_fault = none_shows text (text_is_not_bad text is); unfinished = text_begins_no_line text is.no_feed }

pub decoded_more : (c : Inside) (lines : HeldLine) (command : CommandFrame) (piece : List ℕ) → IsLineCodec c → IsReady line_grammar (fragment_of c) → TakesLine c.lines piece taken.More lines command
    → Decodes line_grammar (fragment_of c) piece decoded.More (fragment_of (record c { lines = lines; command = command }))
decoded_more c lines command piece kept ready (is, fits, none) =
    let unfinished = ready_is_unfinished c kept ready in
    let stands : lines.whole ≡ false = ap (λ (line : HeldLine). line.whole) is ∙ unfinished.stands in
    let text : lines.text ≡ c.lines.text ++ piece = ap (λ (line : HeldLine). line.text) is in
    let bytes : held_bytes lines ≡ held_bytes c.lines ++ piece = held_text lines stands ∙ text ∙ ap (λ xs. xs ++ piece) (sym (held_text c.lines unfinished.stands)) in
    let Ready : List ℕ → Option ℕ → Type 0 = λ xs fault. IsReady line_grammar (record { start = c.ended; bytes = xs; fault = fault }) in
    let here : Ready (held_bytes lines) None = subst (λ xs. Ready xs None) (sym (held_text lines stands)) (text_is_ready c.ended lines.text fits) in
    (ap (λ xs. record { start = c.ended; bytes = xs; fault = c.fault }) bytes, subst (λ fault. Ready (held_bytes lines) fault) (sym ready.no_earlier_fault) here)

pub decoded_command : (c : Inside) (lines : HeldLine) (command : CommandFrame) (piece : List ℕ) (count : ℕ) → IsLineCodec c → IsReady line_grammar (fragment_of c)
    → TakesLine c.lines piece (taken.Command count) lines command → Decodes line_grammar (fragment_of c) piece (decoded.Command count) (fragment_of (record c { lines = lines; command = command }))
decoded_command c lines command piece count kept ready (ends, is, spells) =
    let unfinished = ready_is_unfinished c kept ready in
    let stands : lines.whole ≡ true = ap (λ (line : HeldLine). line.whole) is in
    let bytes : held_bytes lines ≡ held_bytes c.lines ++ take count piece =
    held_line lines stands ∙ sym ends.whole ∙ ap (λ xs. xs ++ take count piece) (sym (held_text c.lines unfinished.stands)) in
    let Units : List ℕ → Type 0 = λ xs. AreCommandLines xs (command ∷ []) in (
      ends.some,
      ends.within,
      ap (λ xs. record { start = c.ended; bytes = xs; fault = c.fault }) bytes,
      (command, subst Units (sym (held_line lines stands)) (spelled_unit lines.text command ends.no_feed spells)),
    )

pub decoded_comment : (c : Inside) (lines : HeldLine) (command : CommandFrame) (piece : List ℕ) (count : ℕ) → IsLineCodec c → IsReady line_grammar (fragment_of c)
    → TakesLine c.lines piece (taken.Comment count) lines command
    → Decodes line_grammar (fragment_of c) piece (decoded.Skipped count) (fragment_of (record c { lines = lines; command = command; ended = c.ended + 1 }))
decoded_comment c lines command piece count kept ready (line, ends, comment, is, none) =
    let unfinished = ready_is_unfinished c kept ready in
    let whole : ended_line line ≡ held_bytes c.lines ++ take count piece = sym ends.whole ∙ ap (λ xs. xs ++ take count piece) (sym (held_text c.lines unfinished.stands)) in
    let one : c.ended + 1 ≡ c.ended + line_feeds (held_bytes c.lines ++ take count piece) = ap (λ n. c.ended + n) (sym (one_feed line ends.no_feed) ∙ ap line_feeds whole) in
    let Units : List ℕ → Type 0 = λ xs. AreCommandLines xs [] in (
      ends.some,
      ends.within,
      ap (λ held. record { start = c.ended + 1; bytes = held_bytes held; fault = c.fault }) is ∙ ap (λ n. record { start = n; bytes = []; fault = c.fault }) one,
      subst Units whole (comment_unit line ends.no_feed comment),
    )

pub decoded_fault : (c : Inside) (lines : HeldLine) (command : CommandFrame) (piece : List ℕ) → IsLineCodec c → IsReady line_grammar (fragment_of c) → TakesLine c.lines piece taken.Bad lines command → (new : Fragment)
    → Decodes line_grammar (fragment_of c) piece (decoded.Fault (c.ended + 1)) new
decoded_fault c lines command piece kept ready (bad, nothing, stands, none) new =
    let unfinished = ready_is_unfinished c kept ready in
    let Bad : List ℕ → Type 0 = λ xs. BeginsBad (xs ++ piece) in
    ap (λ found. option_map (λ number. c.ended + number) found) (bad_shows (held_bytes c.lines ++ piece) (subst Bad (sym (held_text c.lines unfinished.stands)) bad))

-- the command that is held is the one that stands
pub stands_command : (c : Inside) → IsLineCodec c → (command : CommandFrame) × AreCommandLines (held_bytes c.lines) (command ∷ [])
    → AreCommandLines (held_bytes c.lines) (c.command ∷ [])
stands_command c kept (command, units) = by_stands c.lines.whole refl
  where
    by_stands : (whole : Bool) → c.lines.whole ≡ whole → AreCommandLines (held_bytes c.lines) (c.command ∷ [])
    by_stands true e = let Units : List ℕ → Type 0 = λ xs. AreCommandLines xs (c.command ∷ []) in subst Units (sym (held_line c.lines e)) (spelled_unit c.lines.text c.command kept.no_feed (kept.spelled e))
    by_stands false e = let Units : List ℕ → Type 0 = λ xs. AreCommandLines xs (command ∷ []) in absurd (text_makes_none c.lines.text command kept.no_feed (subst Units (held_text c.lines e) units))

-- what stands is counted as it is forgotten, and the beginning of a line isn't
pub counted_line : (c : Inside) → IsLineCodec c → c.lines.whole ≡ true → c.ended + 1 ≡ c.ended + line_feeds (held_bytes c.lines)
counted_line c kept stands = ap (λ n. c.ended + n) (sym (one_feed c.lines.text kept.no_feed) ∙ ap line_feeds (sym (held_line c.lines stands)))

pub counted_none : (c : Inside) → IsLineCodec c → c.lines.whole ≡ false → c.ended ≡ c.ended + line_feeds (held_bytes c.lines)
counted_none c kept stands =
    let none : line_feeds (held_bytes c.lines) ≡ 0 = ap line_feeds (held_text c.lines stands) ∙ no_feeds c.lines.text kept.no_feed in
    omega (arith, none)

-- forgotten, with this count of lines that ended
pub forgotten : (c : Inside) (lines : HeldLine) (ended : ℕ) → lines ≡ cleared_line c.lines → ended ≡ c.ended + line_feeds (held_bytes c.lines)
    → record { start = ended; bytes = held_bytes lines; fault = c.fault } ≡ cleared line_grammar (fragment_of c)
forgotten c lines ended is count = ap (λ held. record { start = ended; bytes = held_bytes held; fault = c.fault }) is ∙ ap (λ n. record { start = n; bytes = []; fault = c.fault }) count

-- where no line stands, no byte is held exactly where there is no text
pub text_is_all : (c : Inside) → IsLineCodec c → IsReady line_grammar (fragment_of c) → held_bytes c.lines ≡ c.lines.text
text_is_all c kept ready = held_text c.lines (ready_is_unfinished c kept ready).stands

-- the type's rule, where a line may go on
pub kept_more : (c : Inside) (lines : HeldLine) (command : CommandFrame) (piece : List ℕ) → IsLineCodec c → IsUnfinished c.lines → TakesLine c.lines piece taken.More lines command
    → IsLineCodec (record c { lines = lines; command = command })
kept_more c lines command piece kept unfinished (is, fits, none) =
    let stands : lines.whole ≡ false = ap (λ (line : HeldLine). line.whole) is ∙ unfinished.stands in
    let not_refused : lines.too_long ≡ false = ap (λ (line : HeldLine). line.too_long) is ∙ unfinished.not_refused in record {
      no_feed = fits.no_feed;
      no_command = λ stands. none;
      spelled = λ whole. let wrong : true ≡ false = sym whole ∙ stands in absurd (cc wrong);
      countable = λ whole. let wrong : true ≡ false = sym whole ∙ stands in absurd (cc wrong);
      refused = λ refused. let wrong : true ≡ false = sym refused ∙ not_refused in absurd (cc wrong);
      no_reply = kept.no_reply;
    }

-- and where the outbox is empty again
pub kept_reply : (c : Inside) (reply : OutboxContents) → IsLineCodec c → reply ≡ holding [] c.reply.room → IsLineCodec (record c { reply = reply })
kept_reply c reply kept gone =
    record {
      no_feed = kept.no_feed;
      no_command = kept.no_command;
      spelled = kept.spelled;
      countable = kept.countable;
      refused = kept.refused;
      no_reply = gone ∙ ap (λ (held : OutboxContents). holding [] held.room) kept.no_reply;
    }
