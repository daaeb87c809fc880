-- Whether bytes begin with a bad line.
use Rattle.std.proofs.Common.{◌≤◌, ◌⊎◌, inl, inr, ℕ, suc, Bool, true, false, List, [], length, sym, ◌∙◌, ap, append-nil, subst, arith}
use Rattle.std.proofs.lemmas.List.{length-append}
use Rattle.line_input.specs.declared.limits.TheConstants.{LARGEST_LINE}
use Rattle.line_input.specs.TextLines.{HasNoLineFeed}
use Rattle.module_frames.specs.CommandFrames.{CommandFrame}
use Rattle.operator_text.specs.Spelling.{Spells, IsComment}
use Rattle.command_lines.specs.CommandLines.{IsBadLine, BeginsNoGoodLine, BeginsBad}
use Rattle.command_lines.proofs.Choices.{Choice, choice_of, within_or_not}
use Rattle.command_lines.proofs.FirstLines.{HasFirstLine, first_or_none, first_apart, feed_between, one_first_line, front_within}
use Rattle.command_lines.proofs.WordChoices.{spelled_or_not, comment_or_not}

-- whether it is so, as it was decided
abbrev pub truth : {P : Type 0} → (P ⊎ (P → ⊥)) → Bool
truth (inl is) = true
truth (inr not) = false

bad_line_or_not : (line : List ℕ) → Choice (IsBadLine line)
bad_line_or_not line = by_both (comment_or_not line) (spelled_or_not line)
  where
    by_both : Choice (IsComment line) → Choice ((command : CommandFrame) × Spells line command) → Choice (IsBadLine line)
    by_both (inl comment) spelled = inr (λ bad. bad.no_comment comment)
    by_both (inr none) (inl spelled) = inr (λ bad. bad.no_command spelled.0 spelled.1)
    by_both (inr none) (inr nothing) = inl (record { no_comment = none; no_command = λ command spells. nothing (command, spells) })

-- where no line ends, only the length can be wrong
unended_or_not : (bytes : List ℕ) → HasNoLineFeed bytes → Choice (BeginsBad bytes)
unended_or_not bytes none = by_length (within_or_not (suc LARGEST_LINE) (length bytes))
  where
    not_bad : (suc LARGEST_LINE ≤ length bytes → ⊥) → BeginsBad bytes → ⊥
    not_bad within (inl long) =
        within (let whole = ap length long.parts in let sum = length-append long.front long.more in let many = long.many in omega (arith, whole, sum, many))
    not_bad within (inr bad) = feed_between bad.line bad.rest (subst HasNoLineFeed (bad.parts ∙ first_apart bad.line bad.rest) none)

    by_length : Choice (suc LARGEST_LINE ≤ length bytes) → Choice (BeginsBad bytes)
    by_length (inl long) = inl (inl (record { front = bytes; more = []; parts = sym (append-nil bytes); no_feed = none; many = omega (arith, long) }))
    by_length (inr within) = inr (not_bad within)

-- bytes that begin with a bad line begin with no good one
pub no_good_line : (bytes : List ℕ) → BeginsBad bytes → BeginsNoGoodLine bytes
no_good_line bytes (inl long) line rest h e =
    let many = long.many in
    let less = front_within long.front long.more line rest long.no_feed (sym long.parts ∙ e) in record {
      no_comment = λ comment. let within = comment.within in absurd (omega (arith, many, less, within));
      no_command = λ command spelled. let within = spelled.within in absurd (omega (arith, many, less, within));
    }
no_good_line bytes (inr bad) line rest h e =
    let same = one_first_line bad.line line bad.rest rest bad.no_feed h (sym bad.parts ∙ e) in
    subst IsBadLine same.0 bad.bad

-- where one ends, it is bad or not; one that is too long is bad
ended_or_not : (bytes : List ℕ) → HasFirstLine bytes → Choice (BeginsBad bytes)
ended_or_not bytes first = choice_of there back (bad_line_or_not first.line)
  where
    there : IsBadLine first.line → BeginsBad bytes
    there bad = inr (record { line = first.line; rest = first.rest; no_feed = first.no_feed; parts = first.parts; bad = bad })

    back : BeginsBad bytes → IsBadLine first.line
    back bad = no_good_line bytes bad first.line first.rest first.no_feed first.parts

pub bad_or_not : (bytes : List ℕ) → BeginsBad bytes ⊎ (BeginsBad bytes → ⊥)
bad_or_not bytes = by_feed (first_or_none bytes)
  where
    by_feed : HasNoLineFeed bytes ⊎ HasFirstLine bytes → Choice (BeginsBad bytes)
    by_feed (inl none) = unended_or_not bytes none
    by_feed (inr first) = ended_or_not bytes first
