-- Bytes without an LF, and how bytes split at their LFs.
use Rattle.std.proofs.Common.{◌≡◌, ◌≢◌, ℕ, List, [], ◌∷◌, ◌++◌, sym, ◌∙◌, ap, append_assoc, refl}
use Rattle.std.specs.List.{flat_map, AllByRecursion}
use Rattle.line_input.specs.declared.limits.TheConstants.{LINE_FEED}
use Rattle.line_input.specs.TextLines.{HasNoLineFeed, ended_line, SplitsInto}

pub no_feed_both : (a b : List ℕ) → HasNoLineFeed a → HasNoLineFeed b → HasNoLineFeed (a ++ b)
no_feed_both [] b h k = k
no_feed_both (x ∷ a) b h k = (h.0, no_feed_both a b h.1 k)

-- an LF stands between the two
feed_between : (a b : List ℕ) → HasNoLineFeed (a ++ LINE_FEED ∷ b) → ⊥
feed_between [] b h = h.0 refl
feed_between (x ∷ a) b h = feed_between a b h.1

-- the bytes in front of the first LF, and those behind it
first_line : (a b x y : List ℕ) → HasNoLineFeed a → HasNoLineFeed b → a ++ LINE_FEED ∷ x ≡ b ++ LINE_FEED ∷ y → (a ≡ b) × (x ≡ y)
first_line [] [] x y h k e = (refl, cc)
first_line [] (p ∷ b) x y h k e = absurd (k.0 (cc))
first_line (p ∷ a) [] x y h k e = absurd (h.0 (cc))
first_line (p ∷ a) (q ∷ b) x y h k e =
    let behind = first_line a b x y h.1 k.1 (cc) in
    (let head : p ≡ q = cc in let tail = behind.0 in cc, behind.1)

-- a first line, and then the bytes behind it
first_apart : (line more remainder : List ℕ) → (ended_line line ++ more) ++ remainder ≡ line ++ LINE_FEED ∷ (more ++ remainder)
first_apart line more remainder =
    append_assoc (ended_line line) more remainder ∙ append_assoc line (LINE_FEED ∷ []) (more ++ remainder)

pub one_way : (ones others : List (List ℕ)) (remainder left : List ℕ) → AllByRecursion HasNoLineFeed ones → AllByRecursion HasNoLineFeed others
    → HasNoLineFeed remainder → HasNoLineFeed left → flat_map ended_line ones ++ remainder ≡ flat_map ended_line others ++ left
    → (ones ≡ others) × (remainder ≡ left)
one_way [] [] remainder left h k r l e = (refl, e)
one_way [] (b ∷ others) remainder left h k r l e =
    absurd (feed_between b (flat_map ended_line others ++ left) (let P : List ℕ → Type 0 = λ xs. HasNoLineFeed xs in
    rw (e ∙ first_apart b (flat_map ended_line others) left) at r))
one_way (a ∷ ones) [] remainder left h k r l e =
    absurd (feed_between a (flat_map ended_line ones ++ remainder) (rw (sym e ∙ first_apart a (flat_map ended_line ones) remainder) at l))
one_way (a ∷ ones) (b ∷ others) remainder left h k r l e =
    let apart : a ++ LINE_FEED ∷ (flat_map ended_line ones ++ remainder) ≡ b ++ LINE_FEED ∷ (flat_map ended_line others ++ left) =
    sym (first_apart a (flat_map ended_line ones) remainder) ∙ e ∙ first_apart b (flat_map ended_line others) left in
    let first = first_line a b (flat_map ended_line ones ++ remainder) (flat_map ended_line others ++ left) h.0 k.0 apart in
    let behind = one_way ones others remainder left h.1 k.1 r l first.1 in
    (let head = first.0 in let tail = behind.0 in cc, behind.1)
