-- Whether words spell values, and whether a line spells a command.
use Rattle.std.proofs.Common.{◌≡◌, ◌≤◌, ◌+◌, inl, inr, ℕ, Bool, true, false, List, [], ◌∷◌, length, Option, Some, None, refl, sym, ◌∙◌, ap, subst}
use Rattle.std.specs.Int.{to_be_bytes, w32}
use Rattle.std.specs.Fmt.{decimal}
use Rattle.bits_core.specs.declared.limits.TheConstants.{LARGEST_BODY}
use Rattle.line_input.specs.declared.limits.TheConstants.{LARGEST_LINE}
use Rattle.line_words.specs.Bytes.{bytes_of}
use Rattle.line_words.specs.Words.{words_of}
use Rattle.module_frames.specs.CommandFrames.{CommandFrame}
use Rattle.service_table.specs.declared.service.Service.{Service}
use Rattle.operator_text.specs.declared.forms.WordType.{WordType}
use Rattle.operator_text.specs.declared.forms.WordType.TheVariants as word
use Rattle.operator_text.specs.LineForms.{line_name, word_types}
use Rattle.operator_text.specs.Names.{names, first_number}
use Rattle.operator_text.specs.WordValues.{IsWord, AreWords, IsNameWord}
use Rattle.operator_text.specs.Spelling.{IsFilled, Spells, IsComment, begins_comment, command_with}
use Rattle.operator_text.proofs.OneCommand.{other_service}
use Rattle.operator_text.proofs.ValuesOf.{one_list}
use Rattle.command_lines.proofs.Choices.{Choice, choice_of, both_or_not, within_or_not, same_text_or_not, place_or_not, number_or_not, service_or_not}

-- the text spells a value of the type
abbrev HasValue : WordType → List ℕ → Type 0
HasValue type text = (value : List ℕ) × IsWord type text value

numeral_or_not : (most : ℕ) (text : List ℕ) → Choice ((n : ℕ) × (n ≤ most) × (text ≡ decimal n))
numeral_or_not most text = number_or_not (λ n. text ≡ decimal n) (λ n. same_text_or_not text (decimal n)) most

name_or_not : (type : WordType) (text : List ℕ) → Choice ((value : List ℕ) × IsNameWord type text value)
name_or_not type text =
    choice_of (λ found. ((first_number type + found.0) ∷ [], record { number = first_number type + found.0; spelled = record { place = found.0; named = found.1; numbered = refl }; encoded = refl }))
    (λ named. (named.1.spelled.place, named.1.spelled.named)) (place_or_not (names type) text)

bytes_or_not : (text : List ℕ) → Choice ((value : List ℕ) × (bytes_of text ≡ Some value))
bytes_or_not text = by_bytes (bytes_of text) refl
  where
    by_bytes : (found : Option (List ℕ)) → bytes_of text ≡ found → Choice ((value : List ℕ) × (bytes_of text ≡ Some value))
    by_bytes (Some value) e = inl (value, e)
    by_bytes None e = inr (λ found. let wrong : None ≡ Some found.0 = sym e ∙ found.1 in cc wrong)

short_or_not : (text : List ℕ) → Choice (HasValue word.ShortBytes text)
short_or_not text = by_bytes (bytes_or_not text)
  where
    by_length : (value : List ℕ) → bytes_of text ≡ Some value → Choice (length value ≤ 255) → Choice (HasValue word.ShortBytes text)
    by_length value e (inl within) = inl (value, record { spelled = e; within = within })
    by_length value e (inr not) = inr (λ found.
        let same : found.0 ≡ value = (let both = sym found.1.spelled ∙ e in cc both) in
        not (subst (λ (xs : List ℕ). length xs ≤ 255) same found.1.within))

    by_bytes : Choice ((value : List ℕ) × (bytes_of text ≡ Some value)) → Choice (HasValue word.ShortBytes text)
    by_bytes (inl found) = by_length found.0 found.1 (within_or_not (length found.0) 255)
    by_bytes (inr none) = inr (λ found. none (found.0, found.1.spelled))

word_or_not : (type : WordType) (text : List ℕ) → Choice (HasValue type text)
word_or_not word.Byte text =
    choice_of (λ found. (found.0 ∷ [], record { number = found.0; spelled = (found.2, found.1); encoded = refl }))
    (λ spelled. (spelled.1.number, spelled.1.spelled.1, spelled.1.spelled.0)) (numeral_or_not 255 text)
word_or_not word.Quad text =
    choice_of (λ found. (to_be_bytes w32 found.0, record { number = found.0; spelled = (found.2, found.1); encoded = refl }))
    (λ spelled. (spelled.1.number, spelled.1.spelled.1, spelled.1.spelled.0)) (numeral_or_not 4294967295 text)
word_or_not word.Role text = name_or_not word.Role text
word_or_not word.Kind text = name_or_not word.Kind text
word_or_not word.Domain text = name_or_not word.Domain text
word_or_not word.Export text = name_or_not word.Export text
word_or_not word.Alg text = name_or_not word.Alg text
word_or_not word.Bytes text = bytes_or_not text
word_or_not word.ShortBytes text = short_or_not text

-- the texts spell values of the types
abbrev HaveValues : List WordType → List (List ℕ) → Type 0
HaveValues types texts = (values : List (List ℕ)) × AreWords types texts values

words_or_not : (types : List WordType) (texts : List (List ℕ)) → Choice (HaveValues types texts)
words_or_not [] [] = inl ([], tt)
words_or_not [] (text ∷ texts) = inr (λ found. found.1)
words_or_not (type ∷ types) [] = inr (λ found. found.1)
words_or_not (type ∷ types) (text ∷ texts) = choice_of together (λ found. apart found.0 found.1) (both_or_not (word_or_not type text) (words_or_not types texts))
  where
    together : HasValue type text × HaveValues types texts → HaveValues (type ∷ types) (text ∷ texts)
    together both = (both.0.0 ∷ both.1.0, (both.0.1, both.1.1))

    apart : (values : List (List ℕ)) → AreWords (type ∷ types) (text ∷ texts) values → HasValue type text × HaveValues types texts
    apart [] h = absurd h
    apart (value ∷ values) h = ((value, h.0), (values, h.1))

filled_or_not : (service : Service) (texts : List (List ℕ)) → Choice ((command : CommandFrame) × IsFilled service texts command)
filled_or_not service texts = by_words (words_or_not (word_types service) texts)
  where
    by_length : (values : List (List ℕ)) → AreWords (word_types service) texts values → Choice (length (command_with service values).body ≤ LARGEST_BODY)
        → Choice ((command : CommandFrame) × IsFilled service texts command)
    by_length values are (inl within) = inl (command_with service values, record { values = values; spelled = are; command_is = refl; sendable = within })
    by_length values are (inr not) = inr (λ found.
        let same : found.0 ≡ command_with service values =
        found.1.command_is ∙ ap (command_with service) (one_list (word_types service) texts found.1.values values found.1.spelled are) in
        not (subst (λ (c : CommandFrame). length c.body ≤ LARGEST_BODY) same found.1.sendable))

    by_words : Choice (HaveValues (word_types service) texts) → Choice ((command : CommandFrame) × IsFilled service texts command)
    by_words (inl found) = by_length found.0 found.1 (within_or_not (length (command_with service found.0).body) LARGEST_BODY)
    by_words (inr none) = inr (λ found. none (found.1.values, found.1.spelled))

-- a line of these words, the first of which names a service or none
worded_or_not : (line : List ℕ) (words : List (List ℕ)) → length line ≤ LARGEST_LINE → words_of line ≡ words → Choice ((command : CommandFrame) × Spells line command)
worded_or_not line [] within worded = inr (λ found. let wrong = sym worded ∙ found.1.worded in cc wrong)
worded_or_not line (name ∷ texts) within worded = by_name (service_or_not (λ s. line_name s ≡ name) (λ s. same_text_or_not (line_name s) name))
  where
    there : (service : Service) → line_name service ≡ name → (command : CommandFrame) → IsFilled service texts command → Spells line command
    there service named command filled =
        record { service = service; texts = texts; within = within; worded = worded ∙ ap (λ (n : List ℕ). n ∷ texts) (sym named); filled = filled }

    back : (service : Service) → line_name service ≡ name → (command : CommandFrame) → Spells line command → IsFilled service texts command
    back service named command spelled =
        other_service service spelled.service texts spelled.texts command (ap (λ (n : List ℕ). n ∷ texts) named ∙ sym worded ∙ spelled.worded) spelled.filled

    by_name : Choice ((service : Service) × (line_name service ≡ name)) → Choice ((command : CommandFrame) × Spells line command)
    by_name (inl found) =
        choice_of (λ filled. (filled.0, there found.0 found.1 filled.0 filled.1)) (λ spelled. (spelled.0, back found.0 found.1 spelled.0 spelled.1)) (filled_or_not found.0 texts)
    by_name (inr none) = inr (λ spelled. let both = sym spelled.1.worded ∙ worded in let named : line_name spelled.1.service ≡ name = cc both in none (spelled.1.service, named))

pub spelled_or_not : (line : List ℕ) → Choice ((command : CommandFrame) × Spells line command)
spelled_or_not line = by_length (within_or_not (length line) LARGEST_LINE)
  where
    by_length : Choice (length line ≤ LARGEST_LINE) → Choice ((command : CommandFrame) × Spells line command)
    by_length (inl within) = worded_or_not line (words_of line) within refl
    by_length (inr not) = inr (λ found. not found.1.within)

pub comment_or_not : (line : List ℕ) → Choice (IsComment line)
comment_or_not line =
    choice_of (λ both. let is : IsComment line = record { within = both.0; begins = both.1 } in is) (λ is. (is.within, is.begins)) (both_or_not (within_or_not (length line) LARGEST_LINE) (by_test (begins_comment line) refl))
  where
    by_test : (test : Bool) → begins_comment line ≡ test → Choice (begins_comment line ≡ true)
    by_test true e = inl e
    by_test false e = inr (λ begins. let wrong : true ≡ false = sym begins ∙ e in cc wrong)
