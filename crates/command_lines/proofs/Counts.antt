-- How many lines end in some bytes.
use Rattle.std.proofs.Common.{◌≡◌, ◌≤◌, ◌+◌, ◌==◌, ◌++◌, ℕ, List, length, cond}
use Rattle.std.proofs.lemmas.List.Sums.{count_by-le-length, sum_by-append}
use Rattle.line_input.specs.declared.limits.TheConstants.{LINE_FEED}
use Rattle.command_lines.specs.CommandLines.{line_feeds}

pub feeds_both : (a b : List ℕ) → line_feeds (a ++ b) ≡ line_feeds a + line_feeds b
feeds_both a b = let f : ℕ → ℕ = λ byte. cond (byte == LINE_FEED) 1 0 in sum_by-append f a b

pub feeds_within : (a : List ℕ) → line_feeds a ≤ length a
feeds_within a = count_by-le-length (λ byte. byte == LINE_FEED) a
