-- Walks, and what a checker answers along one.
use Rattle.std.proofs.Common.{◌≡◌, ◌+◌, ◌++◌, ℕ, Bool, true, false, List, [], ◌∷◌, Option, Some, None, length, refl, sym, ap, subst, ◌∙◌, arith}
use Rattle.std.specs.Option.{option_map}
use Rattle.module_frames.specs.CommandFrames.{CommandFrame}
use Rattle.module_frames.specs.LawfulSteps.{IsLawfulStep}
use Rattle.module_frames.specs.declared.public_state.PublicState.{PublicState}
use Rattle.transcript_check.specs.Transcripts.{Pair, Leads, IsLawfulFrom, IsWalk, IsFirstUnlawful}
use Rattle.transcript_check.specs.Checking.{Answers, IsChecked, first_no}
use Rattle.transcript_check.specs.Laws.{AreAlike}
use Rattle.transcript_check.proofs.Successors.{steps_one}

-- one pair leads to one public state
leads_one : (before one two : PublicState) (pair : Pair) → Leads before pair one → Leads before pair two → one ≡ two
leads_one before one two pair first second = steps_one before pair.command pair.reply pair.reply one two first second refl refl

-- two pairs that are alike lead to one public state
alike_one : (before one two : PublicState) (pair other : Pair) → other.command ≡ pair.command → other.reply.status ≡ pair.reply.status → other.reply.code ≡ pair.reply.code
    → Leads before pair one → Leads before other two → one ≡ two
alike_one before one two pair other command outcome code first second =
    let moved : IsLawfulStep before pair.command other.reply two = subst (λ (c : CommandFrame). IsLawfulStep before c other.reply two) command second in
    steps_one before pair.command pair.reply other.reply one two first moved outcome code

pub walk_determined : (before one two : PublicState) (transcript other : List Pair) → AreAlike transcript other → IsWalk before transcript one → IsWalk before other two → one ≡ two
walk_determined before one two [] [] alike first second = sym first ∙ second
walk_determined before one two [] (pair ∷ others) alike first second = absurd alike
walk_determined before one two (pair ∷ rest) [] alike first second = absurd alike
walk_determined before one two (pair ∷ rest) (other ∷ others) alike first second =
    let same = alike_one before first.0 second.0 pair other alike.0 alike.1 alike.2 first.1 second.1 in
    let moved : IsWalk first.0 others two = subst (λ (p : PublicState). IsWalk p others two) (sym same) second.2 in
    walk_determined first.0 one two rest others alike.3 first.2 moved

-- a walk goes on by a pair
pub walk_on : (before between after : PublicState) (earlier : List Pair) (pair : Pair) → IsWalk before earlier between → Leads between pair after → IsWalk before (earlier ++ pair ∷ []) after
walk_on before between after [] pair walk leads = (after, subst (λ (p : PublicState). Leads p pair after) (sym walk) leads, refl)
walk_on before between after (first ∷ rest) pair walk leads = (walk.0, walk.1, walk_on walk.0 between after rest pair walk.2 leads)

-- no walk goes on over a pair that isn't lawful
stops : (before found after : PublicState) (earlier : List Pair) (pair : Pair) (later : List Pair) → IsWalk before earlier found → (IsLawfulFrom found pair → ⊥)
    → IsWalk before (earlier ++ (pair ∷ later)) after → ⊥
stops before found after [] pair later walk unlawful whole = unlawful (whole.0, subst (λ (p : PublicState). Leads p pair whole.0) walk whole.1)
stops before found after (first ∷ rest) pair later walk unlawful whole =
    let same = leads_one before walk.0 whole.0 first walk.1 whole.1 in
    let moved : IsWalk walk.0 (rest ++ (pair ∷ later)) after = subst (λ (p : PublicState). IsWalk p (rest ++ (pair ∷ later)) after) (sym same) whole.2 in
    stops walk.0 found after rest pair later walk.2 unlawful moved

pub not_both : (before after : PublicState) (number : ℕ) (transcript : List Pair) → IsFirstUnlawful before number transcript → IsWalk before transcript after → ⊥
not_both before after number transcript first walk =
    stops before first.found after first.earlier first.pair first.later first.walk first.unlawful (subst (λ (t : List Pair). IsWalk before t after) first.split walk)

-- the number of the first no, one place further on
next_none : (rest : Option ℕ) → option_map (λ n. n + 1) rest ≡ None → rest ≡ None
next_none None e = refl
next_none (Some n) e = cc

next_some : (rest : Option ℕ) (number : ℕ) → option_map (λ n. n + 1) rest ≡ Some number → (n : ℕ) × (rest ≡ Some n) × (n + 1 ≡ number)
next_some None number e = cc
next_some (Some n) number e = (n, refl, cc)

-- where a yes leads
record IsYes (before : PublicState) (pair : Pair) (rest : List Pair) (answers : List Bool) : Type 0 where
  between : PublicState
  leads : Leads before pair between
  checked : IsChecked (Some between) rest answers

said_yes : (before : PublicState) (pair : Pair) (rest : List Pair) (answers : List Bool) → IsChecked (Some before) (pair ∷ rest) (true ∷ answers) → IsYes before pair rest answers
said_yes before pair rest answers checked = by_next checked.0 checked.1 checked.2
  where
    by_next : (after : Option PublicState) → Answers (Some before) pair true after → IsChecked after rest answers → IsYes before pair rest answers
    by_next None yes' more = absurd yes'
    by_next (Some between) yes' more = record { between = between; leads = yes'; checked = more }

-- only yes: a walk through all of it
pub yes_is_walk : (before : PublicState) (transcript : List Pair) (answers : List Bool) → IsChecked (Some before) transcript answers → first_no answers ≡ None → (after : PublicState) × IsWalk before transcript after
yes_is_walk before [] answers checked none = (before, refl)
yes_is_walk before (pair ∷ rest) [] checked none = absurd checked
yes_is_walk before (pair ∷ rest) (false ∷ answers) checked none = cc
yes_is_walk before (pair ∷ rest) (true ∷ answers) checked none =
    let went = said_yes before pair rest answers checked in
    let later = yes_is_walk went.between rest answers went.checked (next_none (first_no answers) none) in
    (later.0, (went.between, went.leads, later.1))

pub walk_is_yes : (before after : PublicState) (transcript : List Pair) (answers : List Bool) → IsChecked (Some before) transcript answers → IsWalk before transcript after → first_no answers ≡ None
walk_is_yes before after [] answers checked walk = ap first_no checked
walk_is_yes before after (pair ∷ rest) [] checked walk = absurd checked
walk_is_yes before after (pair ∷ rest) (false ∷ answers) checked walk = absurd (checked.1.0 (walk.0, walk.1))
walk_is_yes before after (pair ∷ rest) (true ∷ answers) checked walk =
    let went = said_yes before pair rest answers checked in
    let same = leads_one before walk.0 went.between pair walk.1 went.leads in
    let moved : IsWalk went.between rest after = subst (λ (p : PublicState). IsWalk p rest after) same walk.2 in
    ap (option_map (λ n. n + 1)) (walk_is_yes went.between after rest answers went.checked moved)

-- the first no is to the first pair that isn't lawful
pub no_is_first : (before : PublicState) (transcript : List Pair) (answers : List Bool) (number : ℕ) → IsChecked (Some before) transcript answers → first_no answers ≡ Some number → IsFirstUnlawful before number transcript
no_is_first before [] answers number checked said = let none = sym (ap first_no checked) ∙ said in cc
no_is_first before (pair ∷ rest) [] number checked said = absurd checked
no_is_first before (pair ∷ rest) (false ∷ answers) number checked said = record {
  earlier = [];
  pair = pair;
  later = rest;
  found = before;
  split = refl;
  numbered = cc;
  walk = refl;
  unlawful = checked.1.0;
}
no_is_first before (pair ∷ rest) (true ∷ answers) number checked said =
    let went = said_yes before pair rest answers checked in
    let next' = next_some (first_no answers) number said in
    let first = no_is_first went.between rest answers next'.0 went.checked next'.1 in
    record {
      earlier = pair ∷ first.earlier;
      pair = first.pair;
      later = first.later;
      found = first.found;
      split = ap (λ (t : List Pair). pair ∷ t) first.split;
      numbered = omega (arith, next'.2, first.numbered);
      walk = (went.between, went.leads, first.walk);
      unlawful = first.unlawful;
    }

first_is_no_at : (before found : PublicState) (earlier : List Pair) (pair : Pair) (later : List Pair) (answers : List Bool) → IsChecked (Some before) (earlier ++ (pair ∷ later)) answers
    → IsWalk before earlier found → (IsLawfulFrom found pair → ⊥) → first_no answers ≡ Some (length earlier + 1)
first_is_no_at before found [] pair later [] checked walk unlawful = absurd checked
first_is_no_at before found [] pair later (false ∷ answers) checked walk unlawful = refl
first_is_no_at before found [] pair later (true ∷ answers) checked walk unlawful =
    let went = said_yes before pair later answers checked in
    absurd (unlawful (went.between, subst (λ (p : PublicState). Leads p pair went.between) walk went.leads))
first_is_no_at before found (first ∷ rest) pair later [] checked walk unlawful = absurd checked
first_is_no_at before found (first ∷ rest) pair later (false ∷ answers) checked walk unlawful = absurd (checked.1.0 (walk.0, walk.1))
first_is_no_at before found (first ∷ rest) pair later (true ∷ answers) checked walk unlawful =
    let went = said_yes before first (rest ++ (pair ∷ later)) answers checked in
    let same = leads_one before walk.0 went.between first walk.1 went.leads in
    let moved : IsWalk went.between rest found = subst (λ (p : PublicState). IsWalk p rest found) same walk.2 in
    let one_more : length rest + 1 + 1 ≡ length (first ∷ rest) + 1 = omega arith in
    ap (option_map (λ n. n + 1)) (first_is_no_at went.between found rest pair later answers went.checked moved unlawful) ∙ ap (λ n. Some n) one_more

pub first_is_no : (before : PublicState) (transcript : List Pair) (answers : List Bool) (number : ℕ) → IsChecked (Some before) transcript answers → IsFirstUnlawful before number transcript → first_no answers ≡ Some number
first_is_no before transcript answers number checked first =
    let split : IsChecked (Some before) (first.earlier ++ (first.pair ∷ first.later)) answers = subst (λ (t : List Pair). IsChecked (Some before) t answers) first.split checked in
    first_is_no_at before first.found first.earlier first.pair first.later answers split first.walk first.unlawful ∙ ap (λ n. Some n) (sym first.numbered)
