-- What the frame of a command begins with, and which bytes are one.
use Rattle.std.proofs.Common.{◌≡◌, ◌≤◌, ◌<◌, ◌+◌, ◌++◌, ℕ, true, false, not, List, [], ◌∷◌, Option, None, Some, length, get_or, refl, sym, ◌∙◌, ap, arith, length-append, if◌then◌else◌}
use Rattle.std.specs.Prelude.{nat_lt, ◌==◌, ◌&&◌}
use Rattle.std.specs.Int.{to_be_bytes, w32}
use Rattle.std.proofs.lemmas.Bool.Decides.{nat_tests}
use Rattle.std.proofs.lemmas.List.{nil_from_length, take_all}
use Rattle.std.proofs.lemmas.Nat.{from_be_bytes-to_be_bytes_4}
use Rattle.bits_core.specs.declared.limits.TheConstants.{LARGEST_BODY}
use Rattle.module_frames.specs.CommandFrames.{CommandFrame, command_encoding, version_of, sequence_bytes, IsSendable, IsSequence, IsCommandFrame}
use Rattle.module_frames.specs.Streams.{first_fault, body_length, length_bytes, header_length, BeginsNoCommand}
use Rattle.module_frames.specs.Readers.{TellsSequence}
use Rattle.module_frames.proofs.Headers.{headed, header_plain, header_numbered}
use Rattle.module_frames.proofs.Sequences.{header_of, length-sequence_bytes}

-- a frame tells the length of its body
pub body_length-encoding : (command : CommandFrame) (more : List ℕ) → IsSendable command
    → body_length (command_encoding command ++ more) ≡ length command.body
unfolding body_length
body_length-encoding command more h = from_be_bytes-to_be_bytes_4 (length command.body) (omega (arith, h.body))

by_version : (sequence : Option ℕ) → (if version_of sequence == 2 then 12 else 8) ≡ header_of sequence
by_version None = refl
by_version (Some number) = refl

-- and that of its header
pub header_length-encoding : (command : CommandFrame) (more : List ℕ) → header_length (command_encoding command ++ more) ≡ header_of command.sequence
unfolding header_length
header_length-encoding command more = by_version command.sequence

pub length-encoding : (command : CommandFrame) (more : List ℕ)
    → length (command_encoding command ++ more) ≡ header_of command.sequence + (length command.body + length more)
length-encoding command more =
    omega (arith, length-append (sequence_bytes command.sequence ++ command.body) more, length-append (sequence_bytes command.sequence) command.body, length-sequence_bytes command.sequence)

has_version : (sequence : Option ℕ) → (not (version_of sequence == 1) && not (version_of sequence == 2)) ≡ false
has_version None = refl
has_version (Some number) = refl

-- a frame shows no fault
pub first_fault-encoding : (command : CommandFrame) (more : List ℕ) → IsSendable command
    → first_fault (command_encoding command ++ more) ≡ None
unfolding first_fault
first_fault-encoding command more h =
    let few : nat_lt LARGEST_BODY (body_length (command_encoding command ++ more)) ≡ false =
    rw (body_length-encoding command more h) (grind (arith, nat_tests, h.body)) in
    rw (has_version command.sequence, few) refl

-- bytes that show a fault begin with no frame
pub broken_begins_none : (bytes : List ℕ) (offset : ℕ) → first_fault bytes ≡ Some offset → BeginsNoCommand bytes
broken_begins_none bytes offset fault command more sendable e =
    let none : first_fault bytes ≡ None = ap first_fault e ∙ first_fault-encoding command more sendable in
    let no : None ≡ Some offset = sym none ∙ fault in
    cc

-- bytes that are fewer than their header and the body that it tells begin with no frame
pub short_begins_none : (bytes : List ℕ) → length bytes < header_length bytes + body_length bytes → BeginsNoCommand bytes
short_begins_none bytes short command more sendable e =
    let long = ap length e ∙ length-encoding command more in
    let head = ap header_length e ∙ header_length-encoding command more in
    let body = ap body_length e ∙ body_length-encoding command more sendable in
    omega (arith, short, long, head, body)

version_cell : (b : ℕ) → (not (b == 1) && not (b == 2)) ≡ false → (b == 2) ≡ false → b ≡ 1
version_cell b h k = grind (arith, nat_tests)

sound_cells : (a b c d e f g h : ℕ) (remainder : List ℕ) → first_fault (a ∷ b ∷ c ∷ d ∷ e ∷ f ∷ g ∷ h ∷ remainder) ≡ None
    → (a ≡ 0xc5) × ((not (b == 1) && not (b == 2)) ≡ false) × (d ≡ 0x00) × (body_length (a ∷ b ∷ c ∷ d ∷ e ∷ f ∷ g ∷ h ∷ remainder) ≤ LARGEST_BODY)
unfolding first_fault
sound_cells a b c d e f g h remainder k = grind (arith, nat_tests)

-- a header without a fault tells a body that may be
pub faultless_length : (header : List ℕ) → 8 ≤ length header → first_fault header ≡ None → body_length header ≤ LARGEST_BODY
faultless_length header k no_fault =
    let front = headed header k in
    let none = rw front.is at no_fault in
    rw front.is (sound_cells front.a front.b front.c front.d front.e front.f front.g front.h front.remainder none).3

cells_frame : (a b c d e f g h : ℕ) (remainder body : List ℕ) (sequence : Option ℕ)
    → first_fault (a ∷ b ∷ c ∷ d ∷ e ∷ f ∷ g ∷ h ∷ remainder) ≡ None → TellsSequence sequence (a ∷ b ∷ c ∷ d ∷ e ∷ f ∷ g ∷ h ∷ remainder)
    → 8 + length remainder ≡ header_of sequence
    → (a ∷ b ∷ c ∷ d ∷ e ∷ f ∷ g ∷ h ∷ remainder) ++ body
    ≡ 0xc5 ∷ version_of sequence ∷ c ∷ 0x00 ∷ ((length_bytes (a ∷ b ∷ c ∷ d ∷ e ∷ f ∷ g ∷ h ∷ remainder) ++ sequence_bytes sequence) ++ body)
cells_frame a b c d e f g h remainder body None no_fault tells long =
    let cells = sound_cells a b c d e f g h remainder no_fault in
    let first : a ≡ 0xc5 = cells.0 in
    let version : b ≡ 0x01 = version_cell b cells.1 tells in
    let fourth : d ≡ 0x00 = cells.2 in
    let empty : remainder ≡ [] = nil_from_length remainder (omega (arith, long)) in
    rw (first, version, fourth, empty) refl
cells_frame a b c d e f g h remainder body (Some number) no_fault tells long =
    let cells = sound_cells a b c d e f g h remainder no_fault in
    let first : a ≡ 0xc5 = cells.0 in
    let version : b ≡ 0x02 = (let two : (b == 2) ≡ true = tells.0 in grind (arith, nat_tests, two)) in
    let fourth : d ≡ 0x00 = cells.2 in
    let last : remainder ≡ to_be_bytes w32 number = sym (tells.2 ∙ take_all 4 remainder (omega (arith, long))) in
    rw (first, version, fourth, last) refl

telling : (sequence : Option ℕ) (header : List ℕ) → TellsSequence sequence header → header_length header ≡ header_of sequence
telling None header tells = header_plain header tells
telling (Some number) header tells = header_numbered header tells.0

fitting : (sequence : Option ℕ) (header : List ℕ) → TellsSequence sequence header → IsSequence sequence
fitting None header tells = tt
fitting (Some number) header tells = tells.1

-- a whole header without a fault, and as many bytes as it tells, are the frame of the command that it tells
pub headed_frame : (command : CommandFrame) (header : List ℕ) → length header ≡ header_length header → first_fault header ≡ None
    → command.service ≡ get_or header 2 0 → TellsSequence command.sequence header → to_be_bytes w32 (length command.body) ≡ length_bytes header
    → length command.body ≤ LARGEST_BODY → 8 ≤ length header → IsCommandFrame command (header ++ command.body)
headed_frame command header long no_fault service tells known few least =
    let front = headed header least in
    let none = rw front.is at no_fault in
    let told = rw front.is at tells in
    let whole : 8 + length front.remainder ≡ header_of command.sequence = (let same = ap length front.is in omega (arith, same, long, telling command.sequence header tells)) in
    let third : command.service ≡ front.c = service ∙ ap (λ xs. get_or xs 2 0) front.is in
    let four : to_be_bytes w32 (length command.body) ≡ length_bytes (front.a ∷ front.b ∷ front.c ∷ front.d ∷ front.e ∷ front.f ∷ front.g ∷ front.h ∷ front.remainder) =
    known ∙ ap length_bytes front.is in
    let frame : header ++ command.body ≡ command_encoding command =
    ap (λ xs. xs ++ command.body) front.is
    ∙ cells_frame front.a front.b front.c front.d front.e front.f front.g front.h front.remainder command.body command.sequence none told whole
    ∙ ap (λ xs. 0xc5 ∷ version_of command.sequence ∷ front.c ∷ 0x00 ∷ ((xs ++ sequence_bytes command.sequence) ++ command.body)) (sym four)
    ∙ ap (λ n. 0xc5 ∷ version_of command.sequence ∷ n ∷ 0x00 ∷ ((to_be_bytes w32 (length command.body) ++ sequence_bytes command.sequence) ++ command.body)) (sym third) in
    record { sendable = record { body = few; sequence = fitting command.sequence header tells }; encoded = frame }
