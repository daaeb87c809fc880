-- How the parts of a line's reading make the whole.
use Rattle.std.proofs.Common.{◌≡◌, ◌<◌, ◌≤◌, ◌+◌, ◌++◌, ℕ, Bool, true, false, List, [], ◌∷◌, length, None, refl, sym, ap, ◌∙◌, subst, arith, length-append}
use Rattle.bits_core.specs.declared.limits.TheConstants.{LARGEST_BODY}
use Rattle.line_input.specs.declared.limits.TheConstants.{LARGEST_LINE}
use Rattle.line_words.specs.Words.{words_of}
use Rattle.module_frames.specs.CommandFrames.{CommandFrame}
use Rattle.service_table.specs.declared.service.Service.{Service}
use Rattle.service_table.specs.Numbers.{service_number}
use Rattle.operator_text.specs.LineForms.{line_name, word_types, body_fields}
use Rattle.operator_text.specs.WordValues.{AreWords}
use Rattle.operator_text.specs.Spelling.{AppendsWithin, IsFilled, Fills, Spells, MatchSpelled, fields_bytes, command_with}
use Rattle.operator_text.proofs.Bodies.{appends_both, no_room_second}
use Rattle.operator_text.proofs.OneCommand.{other_service}

pub appends_next : (old mid new : CommandFrame) (first more : List ℕ) (result : Bool) → AppendsWithin old first true mid → AppendsWithin mid more result new
    → AppendsWithin old (first ++ more) result new
appends_next old mid new first more true one other = appends_both old mid new first more one other
appends_next old mid new first more false one other = no_room_second old mid new first more one other

abbrev begun : Service → CommandFrame
begun service = record { service = service_number service; sequence = None; body = [] }

-- the fields are put behind an empty body, or have no room
pub fills : (service : Service) (texts values : List (List ℕ)) (result : Bool) (old new : CommandFrame) → old ≡ begun service → AreWords (word_types service) texts values
    → ((all : List (List ℕ)) → AreWords (word_types service) texts all → AppendsWithin old (fields_bytes all (body_fields service)) result new)
    → Fills service texts result new
fills service texts values true old new e h put =
    let done = put values h in
    let whole : new ≡ command_with service values =
    done.1 ∙ ap (λ (c : CommandFrame). let d : CommandFrame = record c { body = c.body ++ fields_bytes values (body_fields service) } in d) e in
    let empty : length old.body ≡ 0 = ap (λ (c : CommandFrame). length c.body) e in
    let long : length new.body ≡ length (fields_bytes values (body_fields service)) = ap (λ (c : CommandFrame). length c.body) whole in
    record { values = values; spelled = h; command_is = whole; sendable = omega (arith, done.0, empty, long) }
fills service texts values false old new e h put = λ command filled.
    let over = put filled.values filled.spelled in
    let empty : length old.body ≡ 0 = ap (λ (c : CommandFrame). length c.body) e in
    let long = ap (λ (c : CommandFrame). length c.body) filled.command_is in
    let within = filled.sendable in
    omega (arith, over, empty, long, within)

pub fills_none : (service : Service) (texts : List (List ℕ)) (new : CommandFrame) → ((values : List (List ℕ)) → AreWords (word_types service) texts values → ⊥)
    → Fills service texts false new
fills_none service texts new never = λ command filled. never filled.values filled.spelled

-- a line that begins with the service's name
pub spells_by : (line : List ℕ) (service : Service) (texts : List (List ℕ)) (result : Bool) (new : CommandFrame) → length line ≤ LARGEST_LINE
    → words_of line ≡ line_name service ∷ texts → Fills service texts result new → MatchSpelled line result new
spells_by line service texts true new within worded filled = record { service = service; texts = texts; within = within; worded = worded; filled = filled }
spells_by line service texts false new within worded none = λ command spelled.
    none command (other_service service spelled.service texts spelled.texts command (sym worded ∙ spelled.worded) spelled.filled)

-- a line that begins with no service's name
pub spells_nothing : (line name : List ℕ) (texts : List (List ℕ)) (command : CommandFrame) → words_of line ≡ name ∷ texts
    → ((service : Service) → line_name service ≡ name → ⊥) → Spells line command → ⊥
spells_nothing line name texts command worded none spelled =
    let both : line_name spelled.service ∷ spelled.texts ≡ name ∷ texts = sym spelled.worded ∙ worded in
    none spelled.service (cc both)
