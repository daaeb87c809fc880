-- The commands that are left of a session.
use Rattle.std.proofs.Common.{◌≡◌, ◌+◌, ◌-◌, ◌<◌, ◌≤◌, ◌++◌, ℕ, zero, suc, true, List, [], ◌∷◌, length, drop, slice_get, Option, Some, refl, sym, ap, ◌∙◌, subst, arith}
use Rattle.module_frames.specs.CommandFrames.{CommandFrame}
use Rattle.session_commands.specs.declared.sessions.Session.TheInside.{Inside}
use Rattle.session_commands.specs.SessionCommands.{first_commands, drawn_command, drawn_commands, next_number, upper_half, GivesNext}
use Rattle.session_commands.specs.Sessions.{left_of}

-- the element at a place is the first one from there on
drop_there : {X : Type 0} (xs : List X) (place : ℕ) (x : X) → slice_get xs place ≡ Some x → drop place xs ≡ x ∷ drop (place + 1) xs
drop_there [] place x e = cc e
drop_there (y ∷ xs) zero x e = let same : y ≡ x = cc e in ap (λ z. z ∷ xs) same
drop_there (y ∷ xs) (suc place) x e = let next : suc place + 1 ≡ suc (place + 1) = omega arith in rw next (drop_there xs place x e)

drawn_next : (x count : ℕ) → 0 < count → drawn_commands x count ≡ drawn_command (upper_half (next_number x)) ∷ drawn_commands (next_number x) (count - 1)
unfolding drawn_commands
drawn_next x zero h = absurd (omega arith)
drawn_next x (suc count) h = let less : suc count - 1 ≡ count = omega arith in rw less refl

gives_first : (left more : List CommandFrame) (first : CommandFrame) → left ≡ first ∷ more → GivesNext left true first more
gives_first left more first e = subst (λ (l : List CommandFrame). GivesNext l true first more) (sym e) (refl, refl, refl)

-- one more of the beginning is given
pub begins : (begun number count : ℕ) (command : CommandFrame) → slice_get first_commands begun ≡ Some command
    → GivesNext (drop begun first_commands ++ drawn_commands number count) true command (drop (begun + 1) first_commands ++ drawn_commands number count)
begins begun number count command e =
    gives_first _ _ command (ap (λ (xs : List CommandFrame). xs ++ drawn_commands number count) (drop_there first_commands begun command e))

exactly : (begun : ℕ) → 11 ≤ begun → begun ≤ 11 → 11 ≡ begun
exactly begun h k = omega arith

-- one more is drawn
pub draws : (begun number next count : ℕ) (command : CommandFrame) → 11 ≤ begun → begun ≤ 11 → 0 < count → next ≡ next_number number
    → command ≡ drawn_command (upper_half next)
    → GivesNext (drop begun first_commands ++ drawn_commands number count) true command (drop begun first_commands ++ drawn_commands next (count - 1))
draws begun number next count command h k some e d =
    subst (λ (b : ℕ). GivesNext (drop b first_commands ++ drawn_commands number count) true command (drop b first_commands ++ drawn_commands next (count - 1)))
    (exactly begun h k) given
  where
    first : drawn_commands number count ≡ command ∷ drawn_commands next (count - 1)
    first = rw (d, e) (drawn_next number count some)

    given : GivesNext (drawn_commands number count) true command (drawn_commands next (count - 1))
    given = gives_first _ _ command first

-- none is left
pub ends : (begun number count : ℕ) → 11 ≤ begun → begun ≤ 11 → count ≡ 0 → drop begun first_commands ++ drawn_commands number count ≡ []
unfolding drawn_commands
ends begun number count h k e =
    rw e (subst (λ (b : ℕ). drop b first_commands ++ [] ≡ []) (exactly begun h k) refl)
