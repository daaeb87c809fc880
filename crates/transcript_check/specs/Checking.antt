-- What a checker of transcripts answers.
use Rattle.std.specs.Prelude.{◌≡◌, ◌+◌, ℕ, Bool, true, false, List, [], ◌∷◌, Option, Some, None, MatchOption}
use Rattle.std.specs.Option.{option_map}
use Rattle.module_frames.specs.declared.public_state.PublicState.{PublicState}
use Rattle.transcript_check.specs.Transcripts.{Pair, Leads, IsLawfulFrom}

-- Yes to a pair that is a lawful step from where the walk is, and the walk goes on to where that leads.
abbrev pub AnswersFrom : PublicState → Pair → Bool → Option PublicState → Type 0
AnswersFrom before pair true after = MatchOption after ⊥ (λ public. Leads before pair public)
-- No to a pair that isn't, and the walk ends.
AnswersFrom before pair false after = (IsLawfulFrom before pair → ⊥) × (after ≡ None)

-- What is answered to a pair, by the public state to which the walk came, and where the walk is then. After its end it is no for good.
abbrev pub Answers : Option PublicState → Pair → Bool → Option PublicState → Type 0
Answers walk pair answer after = MatchOption walk ((answer ≡ false) × (after ≡ None)) (λ before. AnswersFrom before pair answer after)

-- a checker that is asked of the pairs, one after another, gives these answers
abbrev pub IsChecked : Option PublicState → List Pair → List Bool → Type 0
IsChecked walk [] answers = answers ≡ []
IsChecked walk (pair ∷ rest) [] = ⊥
IsChecked walk (pair ∷ rest) (answer ∷ answers) = (after : Option PublicState) × Answers walk pair answer after × IsChecked after rest answers

-- the number of the first no, counted from 1
abbrev pub first_no : List Bool → Option ℕ
first_no [] = None
first_no (true ∷ answers) = option_map (λ number. number + 1) (first_no answers)
first_no (false ∷ answers) = Some 1
