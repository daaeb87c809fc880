-- A line spells at most one command, and a comment none.
use Rattle.std.proofs.Common.{◌≡◌, ℕ, true, false, List, [], ◌∷◌, refl, sym, ap, ◌∙◌, subst}
use Rattle.std.proofs.lemmas.Bool.Decides.{Decides-eqb}
use Rattle.line_words.specs.Words.{words_of, with_front}
use Rattle.module_frames.specs.CommandFrames.{CommandFrame}
use Rattle.service_table.specs.declared.service.Service.{Service}
use Rattle.operator_text.specs.LineForms.{line_name, word_types}
use Rattle.operator_text.specs.WordValues.{AreWords}
use Rattle.operator_text.specs.Spelling.{IsFilled, Spells, IsComment, begins_comment, command_with}
use Rattle.operator_text.proofs.NameTables.{one_service, no_comment_name}
use Rattle.operator_text.proofs.ValuesOf.{one_list}

pub one_filled : (service : Service) (texts : List (List ℕ)) (a b : CommandFrame) → IsFilled service texts a → IsFilled service texts b → a ≡ b
one_filled service texts a b one other =
    one.command_is ∙ ap (command_with service) (one_list (word_types service) texts one.values other.values one.spelled other.spelled) ∙ sym other.command_is

-- the words behind a name make one command, whichever service the name is said to be of
pub other_service : (s t : Service) (texts others : List (List ℕ)) (command : CommandFrame) → line_name s ∷ texts ≡ line_name t ∷ others
    → IsFilled t others command → IsFilled s texts command
other_service s t texts others command e filled =
    let same = one_service t s (cc e) in
    let behind : others ≡ texts = cc e in
    subst (λ (x : Service). IsFilled x texts command) same (subst (λ (xs : List (List ℕ)). IsFilled t xs command) behind filled)

pub one_command : (line : List ℕ) (a b : CommandFrame) → Spells line a → Spells line b → a ≡ b
one_command line a b one other =
    one_filled one.service one.texts a b one.filled
    (other_service one.service other.service one.texts other.texts b (sym one.worded ∙ other.worded) other.filled)

-- the first word of a comment begins as a comment does
first_word_begins : (byte : ℕ) (words : List (List ℕ)) (name : List ℕ) (texts : List (List ℕ)) → with_front byte words ≡ name ∷ texts → begins_comment (byte ∷ []) ≡ begins_comment name
first_word_begins byte [] name texts e = let same : byte ∷ [] ≡ name = cc e in ap begins_comment same
first_word_begins byte (word ∷ words) name texts e = let same : byte ∷ word ≡ name = cc e in ap begins_comment same

comment_word : (line name : List ℕ) (texts : List (List ℕ)) → begins_comment line ≡ true → words_of line ≡ name ∷ texts → begins_comment name ≡ true
unfolding words_of
comment_word [] name texts h e = let same : [] ≡ name = cc e in ap begins_comment (sym same)
comment_word (byte ∷ line) name texts h e =
    let sign : byte ≡ 0x23 = (Decides-eqb byte 0x23).0 h in
    let front : with_front 0x23 (words_of line) ≡ name ∷ texts = subst (λ (b : ℕ). words_of (b ∷ line) ≡ name ∷ texts) sign e in
    sym (first_word_begins 0x23 (words_of line) name texts front)

pub comment_spells_none : (line : List ℕ) (command : CommandFrame) → IsComment line → Spells line command → ⊥
comment_spells_none line command comment spelled =
    let begins = comment_word line (line_name spelled.service) spelled.texts comment.begins spelled.worded in
    let no = no_comment_name spelled.service in
    let wrong : true ≡ false = sym begins ∙ no in cc wrong
