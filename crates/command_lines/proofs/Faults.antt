-- The fault that bytes show, as it was decided whether they begin with a bad line.
use Rattle.std.proofs.Common.{◌≡◌, ◌⊎◌, inl, inr, ◌++◌, ℕ, List, [], ◌∷◌, length, Bool, Option, Some, None, if◌then◌else◌, refl, sym, ◌∙◌, ap, append_assoc, subst, arith}
use Rattle.std.proofs.lemmas.List.{length-append}
use Rattle.line_input.specs.declared.limits.TheConstants.{LINE_FEED}
use Rattle.line_input.specs.TextLines.{HasNoLineFeed, ended_line}
use Rattle.command_lines.specs.CommandLines.{BeginsBad, BeginsNoGoodLine}
use Rattle.command_lines.proofs.Choices.{Choice}
use Rattle.command_lines.proofs.FirstLines.{HasFirstLine, first_or_none, feed_between}
use Rattle.command_lines.proofs.Deciding.{truth, bad_or_not, no_good_line}

-- the first of the bytes' lines where it is bad
abbrev pub first_if : Bool → Option ℕ
first_if bad = if bad then Some 1 else None

abbrev pub shown : List ℕ → Option ℕ
shown bytes = first_if (truth (bad_or_not bytes))

pub bad_shows : (bytes : List ℕ) → BeginsBad bytes → shown bytes ≡ Some 1
bad_shows bytes bad = by_choice (bad_or_not bytes)
  where
    by_choice : (choice : Choice (BeginsBad bytes)) → first_if (truth choice) ≡ Some 1
    by_choice (inl is) = refl
    by_choice (inr not) = absurd (not bad)

pub none_shows : (bytes : List ℕ) → (BeginsBad bytes → ⊥) → shown bytes ≡ None
none_shows bytes none = by_choice (bad_or_not bytes)
  where
    by_choice : (choice : Choice (BeginsBad bytes)) → first_if (truth choice) ≡ None
    by_choice (inl is) = absurd (none is)
    by_choice (inr not) = refl

pub shown_bad : (bytes : List ℕ) (number : ℕ) → shown bytes ≡ Some number → (number ≡ 1) × BeginsBad bytes
shown_bad bytes number = by_choice (bad_or_not bytes)
  where
    by_choice : (choice : Choice (BeginsBad bytes)) → first_if (truth choice) ≡ Some number → (number ≡ 1) × BeginsBad bytes
    by_choice (inl is) e = (cc e, is)
    by_choice (inr not) e = cc e

pub none_shown : (bytes : List ℕ) → shown bytes ≡ None → BeginsBad bytes → ⊥
none_shown bytes e bad = let wrong : None ≡ Some 1 = sym e ∙ bad_shows bytes bad in cc wrong

-- a bad line stays in front, however the bytes go on
bad_stays : (bytes more : List ℕ) → BeginsBad bytes → BeginsBad (bytes ++ more)
bad_stays bytes more (inl long) = inl (record {
  front = long.front;
  more = long.more ++ more;
  parts = ap (λ xs. xs ++ more) long.parts ∙ append_assoc long.front long.more more;
  no_feed = long.no_feed;
  many = long.many;
})
bad_stays bytes more (inr bad) = inr (record {
  line = bad.line;
  rest = bad.rest ++ more;
  no_feed = bad.no_feed;
  parts = ap (λ xs. xs ++ more) bad.parts ∙ append_assoc (ended_line bad.line) bad.rest more;
  bad = bad.bad;
})

pub fault_stays : (bytes more : List ℕ) (number : ℕ) → shown bytes ≡ Some number → shown (bytes ++ more) ≡ Some number
fault_stays bytes more number e =
    let bad = shown_bad bytes number e in
    bad_shows (bytes ++ more) (bad_stays bytes more bad.1) ∙ ap (λ (n : ℕ). Some n) (sym bad.0)

pub fault_begins_no_line : (bytes : List ℕ) (number : ℕ) → shown bytes ≡ Some number → BeginsNoGoodLine bytes
fault_begins_no_line bytes number e = let bad = shown_bad bytes number e in no_good_line bytes bad.1

-- no byte begins no line, and is no fault
pub nothing_begins : BeginsNoGoodLine []
nothing_begins [] rest h e = cc e
nothing_begins (byte ∷ line) rest h e = cc e

nothing_is_bad : BeginsBad [] → ⊥
nothing_is_bad (inl long) = let whole = ap (length {A = ℕ}) long.parts in let sum = length-append long.front long.more in let many = long.many in omega (arith, whole, sum, many)
nothing_is_bad (inr bad) = by_line bad.line bad.parts
  where
    by_line : (line : List ℕ) → [] ≡ ended_line line ++ bad.rest → ⊥
    by_line [] e = cc e
    by_line (byte ∷ line) e = cc e

pub nothing_shows : shown [] ≡ None
nothing_shows = none_shows [] nothing_is_bad

-- bytes that end with an LF have one in each part that stands at their end
feed_at_end : (bytes front : List ℕ) (byte : ℕ) (remainder : List ℕ) → bytes ++ LINE_FEED ∷ [] ≡ front ++ byte ∷ remainder → HasNoLineFeed (byte ∷ remainder) → ⊥
feed_at_end bytes [] byte remainder e h = let P : List ℕ → Type 0 = λ xs. HasNoLineFeed xs in feed_between bytes [] (subst P (sym e) h)
feed_at_end [] (x ∷ front) byte remainder e h = nowhere front (cc e)
  where
    nowhere : (xs : List ℕ) → [] ≡ xs ++ byte ∷ remainder → ⊥
    nowhere [] q = cc q
    nowhere (y ∷ xs) q = cc q
feed_at_end (y ∷ bytes) (x ∷ front) byte remainder e h = feed_at_end bytes front byte remainder (cc e) h

-- What is left of bytes that end with an LF, and begins with no good line, begins with a bad one.
pub left_is_bad : (bytes front : List ℕ) (byte : ℕ) (remainder : List ℕ) → bytes ++ LINE_FEED ∷ [] ≡ front ++ byte ∷ remainder → BeginsNoGoodLine (byte ∷ remainder)
    → BeginsBad (byte ∷ remainder)
left_is_bad bytes front byte remainder e unfinished = by_feed (first_or_none (byte ∷ remainder))
  where
    by_feed : HasNoLineFeed (byte ∷ remainder) ⊎ HasFirstLine (byte ∷ remainder) → BeginsBad (byte ∷ remainder)
    by_feed (inl none) = absurd (feed_at_end bytes front byte remainder e none)
    by_feed (inr first) =
        inr (record { line = first.line; rest = first.rest; no_feed = first.no_feed; parts = first.parts; bad = unfinished first.line first.rest first.no_feed first.parts })
