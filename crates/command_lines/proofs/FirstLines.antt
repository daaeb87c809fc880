-- The first line of some bytes, up to their first LF.
use Rattle.std.proofs.Common.{◌≡◌, ◌≢◌, ◌≤◌, ◌⊎◌, inl, inr, ◌++◌, ℕ, List, [], ◌∷◌, length, refl, sym, ◌∙◌, ap, append_assoc, arith}
use Rattle.std.proofs.lemmas.Bool.{cases_eq}
use Rattle.line_input.specs.declared.limits.TheConstants.{LINE_FEED}
use Rattle.line_input.specs.TextLines.{HasNoLineFeed, ended_line}

-- the first line, and the bytes behind its LF
pub record HasFirstLine (bytes : List ℕ) : Type 0 where
  pub line : List ℕ
  pub rest : List ℕ
  pub no_feed : HasNoLineFeed line
  pub parts : bytes ≡ ended_line line ++ rest

pub first_apart : (line rest : List ℕ) → ended_line line ++ rest ≡ line ++ LINE_FEED ∷ rest
first_apart line rest = append_assoc line (LINE_FEED ∷ []) rest

-- there is no LF, or a first one
pub first_or_none : (bytes : List ℕ) → HasNoLineFeed bytes ⊎ HasFirstLine bytes
first_or_none [] = inl tt
first_or_none (byte ∷ bytes) = by_first (cases_eq byte LINE_FEED) (first_or_none bytes)
  where
    by_first : (byte ≡ LINE_FEED) ⊎ (byte ≢ LINE_FEED) → HasNoLineFeed bytes ⊎ HasFirstLine bytes → HasNoLineFeed (byte ∷ bytes) ⊎ HasFirstLine (byte ∷ bytes)
    by_first (inl feed) later = inr (record { line = []; rest = bytes; no_feed = tt; parts = ap (λ (b : ℕ). b ∷ bytes) feed })
    by_first (inr other) (inl none) = inl (other, none)
    by_first (inr other) (inr later) =
        inr (record { line = byte ∷ later.line; rest = later.rest; no_feed = (other, later.no_feed); parts = ap (λ (xs : List ℕ). byte ∷ xs) later.parts })

-- an LF stands between the two
pub feed_between : (a b : List ℕ) → HasNoLineFeed (a ++ LINE_FEED ∷ b) → ⊥
feed_between [] b h = h.0 refl
feed_between (x ∷ a) b h = feed_between a b h.1

split_once : (a b x y : List ℕ) → HasNoLineFeed a → HasNoLineFeed b → a ++ LINE_FEED ∷ x ≡ b ++ LINE_FEED ∷ y → (a ≡ b) × (x ≡ y)
split_once [] [] x y h k e = (refl, cc)
split_once [] (p ∷ b) x y h k e = absurd (k.0 (cc))
split_once (p ∷ a) [] x y h k e = absurd (h.0 (cc))
split_once (p ∷ a) (q ∷ b) x y h k e =
    let behind = split_once a b x y h.1 k.1 (cc) in
    (let head : p ≡ q = cc in let tail = behind.0 in cc, behind.1)

-- bytes have one first line
pub one_first_line : (a b x y : List ℕ) → HasNoLineFeed a → HasNoLineFeed b → ended_line a ++ x ≡ ended_line b ++ y → (a ≡ b) × (x ≡ y)
one_first_line a b x y h k e = split_once a b x y h k (sym (first_apart a x) ∙ e ∙ first_apart b y)

within_line : (front more line rest : List ℕ) → HasNoLineFeed front → front ++ more ≡ line ++ LINE_FEED ∷ rest → length front ≤ length line
within_line [] more line rest h e = omega arith
within_line (x ∷ front) more [] rest h e = absurd (h.0 (cc))
within_line (x ∷ front) more (y ∷ line) rest h e = let behind = within_line front more line rest h.1 (cc) in omega (arith, behind)

-- bytes without an LF that stand in front are no longer than the first line
pub front_within : (front more line rest : List ℕ) → HasNoLineFeed front → front ++ more ≡ ended_line line ++ rest → length front ≤ length line
front_within front more line rest h e = within_line front more line rest h (e ∙ first_apart line rest)
