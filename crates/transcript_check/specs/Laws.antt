-- What follows from the rules of a lawful step, for transcripts.
use Rattle.std.specs.Prelude.{◌≡◌, ◌==◌, ◌||◌, ◌⊎◌, ℕ, ◌↔◌, Bool, true, List, [], ◌∷◌, length, Some, None}
use Rattle.service_table.specs.Numbers.{service_number}
use Rattle.service_table.specs.declared.service.Service.TheVariants as service
use Rattle.module_frames.specs.CommandFrames.{CommandFrame}
use Rattle.module_frames.specs.PublicState.{unpowered}
use Rattle.module_frames.specs.declared.public_state.PublicState.{PublicState}
use Rattle.transcript_check.specs.Transcripts.{Pair, IsWalk, IsLawful, IsFirstUnlawful}
use Rattle.transcript_check.specs.Checking.{IsChecked, first_no}

-- A checker says yes to all pairs exactly where the transcript is lawful.
abbrev pub YesIsLawful : Type 0
YesIsLawful = (transcript : List Pair) (answers : List Bool) → IsChecked (Some unpowered) transcript answers
    → (first_no answers ≡ None) ↔ IsLawful transcript

-- Its first no is to the first pair that isn't lawful.
abbrev pub NoIsFirstUnlawful : Type 0
NoIsFirstUnlawful = (transcript : List Pair) (answers : List Bool) (number : ℕ) → IsChecked (Some unpowered) transcript answers
    → (first_no answers ≡ Some number) ↔ IsFirstUnlawful unpowered number transcript

-- A transcript in which a pair isn't lawful isn't lawful.
abbrev pub UnlawfulIsNotLawful : Type 0
UnlawfulIsNotLawful = (transcript : List Pair) (number : ℕ) → IsFirstUnlawful unpowered number transcript → IsLawful transcript → ⊥

-- the body is that of a command that brings bytes of a parameter or its check value
abbrev pub brings_a_secret : CommandFrame → Bool
brings_a_secret command = command.service == service_number service.EntryBytes || command.service == service_number service.EntryCommit

-- the second command is the first, but for entered bytes, which are replaced by as many others
pub record IsBlanked (command blanked : CommandFrame) : Type 0 where
  pub service : blanked.service ≡ command.service
  pub sequence : blanked.sequence ≡ command.sequence
  pub length : length blanked.body ≡ length command.body
  pub body : (brings_a_secret command ≡ true) ⊎ (blanked.body ≡ command.body)

abbrev pub AreBlanked : List Pair → List Pair → Type 0
AreBlanked [] [] = Unit {0}
AreBlanked [] (pair ∷ rest) = ⊥
AreBlanked (pair ∷ rest) [] = ⊥
AreBlanked (pair ∷ rest) (blank ∷ others) = IsBlanked pair.command blank.command × (blank.reply ≡ pair.reply) × AreBlanked rest others

-- A transcript whose entered bytes are replaced by as many others is the same walk.
abbrev pub BlankedIsTheSameWalk : Type 0
BlankedIsTheSameWalk = (before after : PublicState) (transcript blanked : List Pair) → AreBlanked transcript blanked
    → IsWalk before transcript after → IsWalk before blanked after

-- and so it stays lawful
abbrev pub BlankedStaysLawful : Type 0
BlankedStaysLawful = (transcript blanked : List Pair) → AreBlanked transcript blanked → IsLawful transcript → IsLawful blanked

-- the commands are the same, and the replies have the same statuses and error codes
abbrev pub AreAlike : List Pair → List Pair → Type 0
AreAlike [] [] = Unit {0}
AreAlike [] (pair ∷ rest) = ⊥
AreAlike (pair ∷ rest) [] = ⊥
AreAlike (pair ∷ rest) (other ∷ others) =
    (other.command ≡ pair.command) × (other.reply.status ≡ pair.reply.status) × (other.reply.code ≡ pair.reply.code) × AreAlike rest others

-- Commands, statuses and error codes determine where a walk leads.
abbrev pub WalkIsDetermined : Type 0
WalkIsDetermined = (before one two : PublicState) (transcript other : List Pair) → AreAlike transcript other
    → IsWalk before transcript one → IsWalk before other two → one ≡ two
