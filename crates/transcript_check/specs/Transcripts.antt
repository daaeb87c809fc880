-- Transcripts: what was commanded, and the heads of what was answered. That one is lawful is a rule of this project's own.
use Rattle.std.specs.Prelude.{◌≡◌, ◌+◌, ℕ, List, [], ◌∷◌, ◌++◌, length}
use Rattle.module_frames.specs.CommandFrames.{CommandFrame}
use Rattle.module_frames.specs.LawfulSteps.{IsLawfulStep}
use Rattle.module_frames.specs.PublicState.{unpowered}
use Rattle.module_frames.specs.declared.head.ReplyHead.{ReplyHead}
use Rattle.module_frames.specs.declared.public_state.PublicState.{PublicState}

-- a command, and the head of its reply
pub record Pair : Type 0 where
  pub command : CommandFrame
  pub reply : ReplyHead

-- the pair is a lawful step from one public state to the other: the reply tells the state after it
abbrev pub Leads : PublicState → Pair → PublicState → Type 0
Leads before pair after = IsLawfulStep before pair.command pair.reply after

-- the pair is a lawful step from the public state
abbrev pub IsLawfulFrom : PublicState → Pair → Type 0
IsLawfulFrom before pair = (after : PublicState) × Leads before pair after

-- the pairs are lawful steps, one after another, from one public state to the other
abbrev pub IsWalk : PublicState → List Pair → PublicState → Type 0
IsWalk before [] after = before ≡ after
IsWalk before (pair ∷ rest) after = (between : PublicState) × Leads before pair between × IsWalk between rest after

-- A transcript is lawful where a walk through all of it begins without power.
abbrev pub IsLawful : List Pair → Type 0
IsLawful transcript = (after : PublicState) × IsWalk unpowered transcript after

-- The pair of this number, counted from 1, is the first that isn't lawful in a walk from a public state: the pairs before it are a walk, and
-- from where that leads it is no lawful step.
pub record IsFirstUnlawful (start : PublicState) (number : ℕ) (transcript : List Pair) : Type 0 where
  pub earlier : List Pair
  pub pair : Pair
  pub later : List Pair
  pub found : PublicState
  pub split : transcript ≡ earlier ++ (pair ∷ later)
  pub numbered : number ≡ length earlier + 1
  pub walk : IsWalk start earlier found
  pub unlawful : IsLawfulFrom found pair → ⊥
