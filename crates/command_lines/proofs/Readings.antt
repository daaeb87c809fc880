-- Lines behind lines, and the commands that they make.
use Rattle.std.proofs.Common.{◌≡◌, inl, inr, ◌++◌, ℕ, List, [], ◌∷◌, refl, sym, ◌∙◌, ap, append_assoc, subst}
use Rattle.std.specs.List.{flat_map, AllByRecursion}
use Rattle.line_input.specs.TextLines.{HasNoLineFeed, ended_line}
use Rattle.module_frames.specs.CommandFrames.{CommandFrame}
use Rattle.operator_text.proofs.OneCommand.{one_command, comment_spells_none}
use Rattle.command_lines.specs.CommandLines.{IsBadLine, Make, AreCommandLines, BeginsNoGoodLine, ReadsAs}
use Rattle.command_lines.proofs.FirstLines.{one_first_line}

pub no_lines : AreCommandLines [] []
no_lines = record { lines = []; ended = refl; lines_whole = tt; make = tt }

make_both : (a b : List (List ℕ)) (first more : List CommandFrame) → Make a first → Make b more → Make (a ++ b) (first ++ more)
make_both [] b [] more h k = k
make_both [] b (command ∷ first) more h k = absurd h
make_both (line ∷ a) b [] [] h k = (h.0, make_both a b [] [] h.1 k)
make_both (line ∷ a) b [] (next ∷ more) h k = inl (h.0, make_both a b [] (next ∷ more) h.1 k)
make_both (line ∷ a) b (command ∷ first) more (inl h) k = inl (h.0, make_both a b (command ∷ first) more h.1 k)
make_both (line ∷ a) b (command ∷ first) more (inr h) k = inr (h.0, make_both a b first more h.1 k)

ended_both : (a b : List (List ℕ)) → flat_map ended_line (a ++ b) ≡ flat_map ended_line a ++ flat_map ended_line b
ended_both [] b = refl
ended_both (line ∷ a) b = ap (λ xs. ended_line line ++ xs) (ended_both a b) ∙ sym (append_assoc (ended_line line) (flat_map ended_line a) (flat_map ended_line b))

whole_both : (a b : List (List ℕ)) → AllByRecursion HasNoLineFeed a → AllByRecursion HasNoLineFeed b → AllByRecursion HasNoLineFeed (a ++ b)
whole_both [] b h k = k
whole_both (line ∷ a) b h k = (h.0, whole_both a b h.1 k)

-- lines behind lines make their commands behind theirs
pub lines_both : (a b : List ℕ) (first more : List CommandFrame) → AreCommandLines a first → AreCommandLines b more → AreCommandLines (a ++ b) (first ++ more)
lines_both a b first more one other = record {
  lines = one.lines ++ other.lines;
  ended = ap (λ xs. xs ++ b) one.ended ∙ ap (λ xs. flat_map ended_line one.lines ++ xs) other.ended ∙ sym (ended_both one.lines other.lines);
  lines_whole = whole_both one.lines other.lines one.lines_whole other.lines_whole;
  make = make_both one.lines other.lines first more one.make other.make;
}

-- a line that is a comment or spells a command isn't bad
first_is_good : (line : List ℕ) (lines : List (List ℕ)) (commands : List CommandFrame) → Make (line ∷ lines) commands → IsBadLine line → ⊥
first_is_good line lines [] h bad = bad.no_comment h.0
first_is_good line lines (command ∷ commands) (inl h) bad = bad.no_comment h.0
first_is_good line lines (command ∷ commands) (inr h) bad = bad.no_command command h.0

-- the same line makes the same of its command
by_line : (R : Type 0) (line : List ℕ) (these those : List (List ℕ)) (ones others : List CommandFrame)
    → ((x y : List CommandFrame) → Make these x → Make those y → (x ≡ y) × R)
    → Make (line ∷ these) ones → Make (line ∷ those) others → (ones ≡ others) × R
by_line R line these those [] [] behind h k = behind [] [] h.1 k.1
by_line R line these those [] (d ∷ others) behind h (inl k) = behind [] (d ∷ others) h.1 k.1
by_line R line these those [] (d ∷ others) behind h (inr k) = absurd (comment_spells_none line d h.0 k.0)
by_line R line these those (c ∷ ones) [] behind (inl h) k = behind (c ∷ ones) [] h.1 k.1
by_line R line these those (c ∷ ones) [] behind (inr h) k = absurd (comment_spells_none line c k.0 h.0)
by_line R line these those (c ∷ ones) (d ∷ others) behind (inl h) (inl k) = behind (c ∷ ones) (d ∷ others) h.1 k.1
by_line R line these those (c ∷ ones) (d ∷ others) behind (inl h) (inr k) = absurd (comment_spells_none line d h.0 k.0)
by_line R line these those (c ∷ ones) (d ∷ others) behind (inr h) (inl k) = absurd (comment_spells_none line c k.0 h.0)
by_line R line these those (c ∷ ones) (d ∷ others) behind (inr h) (inr k) =
    let head = one_command line c d h.0 k.0 in
    let later = behind ones others h.1 k.1 in
    let tail = later.0 in (cc (head, tail), later.1)

by_lines : (these those : List (List ℕ)) (ones others : List CommandFrame) (remainder left : List ℕ) → AllByRecursion HasNoLineFeed these → AllByRecursion HasNoLineFeed those
    → Make these ones → Make those others → BeginsNoGoodLine remainder → BeginsNoGoodLine left → flat_map ended_line these ++ remainder ≡ flat_map ended_line those ++ left
    → (ones ≡ others) × (remainder ≡ left)
by_lines [] [] [] [] remainder left h k m n r l e = (refl, e)
by_lines [] [] [] (d ∷ others) remainder left h k m n r l e = absurd n
by_lines [] [] (c ∷ ones) others remainder left h k m n r l e = absurd m
by_lines [] (b ∷ those) ones others remainder left h k m n r l e =
    absurd (first_is_good b those others n (r b (flat_map ended_line those ++ left) k.0 (e ∙ append_assoc (ended_line b) (flat_map ended_line those) left)))
by_lines (a ∷ these) [] ones others remainder left h k m n r l e =
    absurd (first_is_good a these ones m (l a (flat_map ended_line these ++ remainder) h.0 (sym e ∙ append_assoc (ended_line a) (flat_map ended_line these) remainder)))
by_lines (a ∷ these) (b ∷ those) ones others remainder left h k m n r l e =
    let x : List ℕ = flat_map ended_line these ++ remainder in
    let y : List ℕ = flat_map ended_line those ++ left in
    let apart : ended_line a ++ x ≡ ended_line b ++ y =
    sym (append_assoc (ended_line a) (flat_map ended_line these) remainder) ∙ e ∙ append_assoc (ended_line b) (flat_map ended_line those) left in
    let first = one_first_line a b x y h.0 k.0 apart in
    by_line (remainder ≡ left) a these those ones others
    (λ u v p q. by_lines these those u v remainder left h.1 k.1 p q r l first.1)
    m (subst (λ (line : List ℕ). Make (line ∷ those) others) (sym first.0) n)

pub one_reading : (bytes : List ℕ) (ones others : List CommandFrame) (remainder left : List ℕ) → ReadsAs bytes ones remainder → ReadsAs bytes others left
    → (ones ≡ others) × (remainder ≡ left)
one_reading bytes ones others remainder left one other =
    by_lines one.made.lines other.made.lines ones others remainder left one.made.lines_whole other.made.lines_whole one.made.make other.made.make one.unfinished other.unfinished
    (sym (ap (λ xs. xs ++ remainder) one.made.ended) ∙ sym one.whole ∙ other.whole ∙ ap (λ xs. xs ++ left) other.made.ended)
