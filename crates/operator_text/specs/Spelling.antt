-- The lines that spell commands, and comments (a form of this project's own).
use Rattle.std.specs.Prelude.{ℕ, ◌≡◌, ◌≤◌, ◌<◌, ◌+◌, ◌%◌, ◌==◌, Bool, true, false, List, [], ◌∷◌, ◌++◌, length, None, get_or}
use Rattle.std.specs.Int.{to_be_bytes, w32}
use Rattle.std.specs.List.{flat_map}
use Rattle.bits_core.specs.declared.limits.TheConstants.{LARGEST_BODY}
use Rattle.line_input.specs.declared.limits.TheConstants.{LARGEST_LINE}
use Rattle.line_words.specs.Words.{words_of}
use Rattle.module_frames.specs.CommandFrames.{CommandFrame}
use Rattle.service_table.specs.declared.service.Service.{Service}
use Rattle.service_table.specs.Numbers.{service_number}
use Rattle.operator_text.specs.declared.forms.Field.{Field}
use Rattle.operator_text.specs.declared.forms.Field.TheVariants as field
use Rattle.operator_text.specs.declared.reading.LineRead.{LineRead}
use Rattle.operator_text.specs.declared.reading.LineRead.TheVariants as read
use Rattle.operator_text.specs.LineForms.{line_name, word_types, body_fields}
use Rattle.operator_text.specs.WordValues.{AreWords}

-- the value of a word, counted from 0
abbrev pub value_at : List (List ℕ) → ℕ → List ℕ
value_at values place = get_or values place []

-- the bytes of a field, where the words have these values; a length stands in its byte or its four bytes
abbrev pub field_bytes : List (List ℕ) → Field → List ℕ
field_bytes values (field.Value place) = value_at values place
field_bytes values (field.Length place) = length (value_at values place) % 256 ∷ []
field_bytes values (field.LongLength place) = to_be_bytes w32 (length (value_at values place))

-- the fields' bytes, one behind the other
abbrev pub fields_bytes : List (List ℕ) → List Field → List ℕ
fields_bytes values fields = flat_map (field_bytes values) fields

-- the command of the service in whose line the words have these values: it is of version 1
abbrev pub command_with : Service → List (List ℕ) → CommandFrame
command_with service values = record { service = service_number service; sequence = None; body = fields_bytes values (body_fields service) }

-- the words are of the types of the service's line, and their values make the body, for which there is room
pub record IsFilled (service : Service) (texts : List (List ℕ)) (command : CommandFrame) : Type 0 where
  pub values : List (List ℕ)
  pub spelled : AreWords (word_types service) texts values
  pub command_is : command ≡ command_with service values
  pub sendable : length command.body ≤ LARGEST_BODY

-- The line spells the command: it is the service's name and the words behind it, parted by single spaces, and the words make the command.
pub record Spells (line : List ℕ) (command : CommandFrame) : Type 0 where
  pub service : Service
  pub texts : List (List ℕ)
  pub within : length line ≤ LARGEST_LINE
  pub worded : words_of line ≡ line_name service ∷ texts
  pub filled : IsFilled service texts command

-- it is empty or begins with the sign #
abbrev pub begins_comment : List ℕ → Bool
begins_comment [] = true
begins_comment (first ∷ more) = first == 0x23

-- The line is a comment, which makes no command.
pub record IsComment (line : List ℕ) : Type 0 where
  pub within : length line ≤ LARGEST_LINE
  pub begins : begins_comment line ≡ true

abbrev pub cleared_command : CommandFrame
cleared_command = record { service = 0; sequence = None; body = [] }

-- what is answered to a line, and the command that stands then
abbrev pub Reads : List ℕ → LineRead → CommandFrame → Type 0
Reads line read.Command new = Spells line new
Reads line read.Comment new = IsComment line × (new ≡ cleared_command)
Reads line read.Bad new = (IsComment line → ⊥) × ((command : CommandFrame) → Spells line command → ⊥) × (new ≡ cleared_command)

-- a line spells at most one command
abbrev pub SpellsOneCommand : Type 0
SpellsOneCommand = (line : List ℕ) (one other : CommandFrame) → Spells line one → Spells line other → one ≡ other

-- no comment spells a command
abbrev pub CommentsSpellNone : Type 0
CommentsSpellNone = (line : List ℕ) (command : CommandFrame) → IsComment line → Spells line command → ⊥

-- a piece is put behind a command's body, or there is no room for it
abbrev pub AppendsWithin : CommandFrame → List ℕ → Bool → CommandFrame → Type 0
AppendsWithin old piece true new = (length old.body + length piece ≤ LARGEST_BODY) × (new ≡ record old { body = old.body ++ piece })
AppendsWithin old piece false new = LARGEST_BODY < length old.body + length piece

-- it is filled so, or nothing is
abbrev pub Fills : Service → List (List ℕ) → Bool → CommandFrame → Type 0
Fills service texts true new = IsFilled service texts new
Fills service texts false new = (command : CommandFrame) → IsFilled service texts command → ⊥

-- the line spells the command, or none
abbrev pub MatchSpelled : List ℕ → Bool → CommandFrame → Type 0
MatchSpelled line true new = Spells line new
MatchSpelled line false new = (command : CommandFrame) → Spells line command → ⊥
