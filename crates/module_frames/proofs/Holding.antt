-- What a reader of frames holds.
use Rattle.std.proofs.Common.{◌≡◌, ◌≢◌, ◌≤◌, ◌<◌, ◌+◌, ◌-◌, ◌^◌, ◌++◌, ◌⊎◌, inl, inr, ℕ, List, [], Option, None, Some, length, take, drop, get_or, replicate, sym, ◌∙◌, ap, arith, length-append}
use Rattle.std.specs.Prelude.{min}
use Rattle.std.specs.Option.{option_map}
use Rattle.std.specs.Int.{to_be_bytes, w32}
use Rattle.std.proofs.lemmas.Bool.{cases_lt}
use Rattle.std.proofs.lemmas.List.{append-nil, append_assoc, length-drop, length-take-le, take_all, take_at, drop_at, drop-drop, drop-replicate, take-append-drop, get_or_append_left}
use Rattle.bits_core.specs.declared.limits.TheConstants.{LARGEST_BODY}
use Rattle.module_frames.specs.declared.frames.Frames.TheInside.{Inside}
use Rattle.module_frames.specs.CommandFrames.{CommandFrame, command_encoding, IsCommandFrame}
use Rattle.module_frames.specs.Streams.{first_fault, body_length, length_bytes, header_length, is_numbered}
use Rattle.module_frames.specs.Fragments.{IsIncomplete, IsBrokenAt}
use Rattle.module_frames.specs.Readers.{held_by, fragment_of, TellsSequence, IsReader}
use Rattle.module_frames.proofs.Headers.{first_fault-append, first_fault-nil, body_length-append, length_bytes-append, is_numbered-append, header_length-append, header_length-padded, cut_piece, header_range, header_numbered, fault_stays}
use Rattle.module_frames.proofs.CommandEncodings.{length-encoding, header_length-encoding, headed_frame, short_begins_none, broken_begins_none, faultless_length}

pub length-held : (r : Inside) → IsReader r → length (held_by r) ≡ r.count + length r.command.body
length-held r reader =
    omega (arith, length-append (take r.count r.header) r.command.body, length-take-le r.count r.header (omega (arith, reader.few, reader.room)))

-- the bytes in use, and zeros behind them
split_header : (r : Inside) → IsReader r → r.header ≡ take r.count r.header ++ replicate (12 - r.count) 0
split_header r reader = sym (take-append-drop r.count r.header) ∙ ap (λ xs. take r.count r.header ++ xs) reader.spare

length-front : (r : Inside) → IsReader r → length (take r.count r.header) ≡ r.count
length-front r reader = length-take-le r.count r.header (omega (arith, reader.few, reader.room))

-- with less than a header there is no body
pub held_short : (r : Inside) → IsReader r → r.count < header_length r.header → (length (held_by r) ≡ r.count) × (held_by r ≡ take r.count r.header)
held_short r reader short =
    let none : r.command.body ≡ [] = ap (λ (c : CommandFrame). c.body) (reader.headless short) in
    let held : held_by r ≡ take r.count r.header = rw none (append-nil (take r.count r.header)) in
    (ap length held ∙ length-front r reader, held)

-- the bytes in use tell how long the header is
header_length-front : (r : Inside) → IsReader r → header_length (take r.count r.header) ≡ header_length r.header
header_length-front r reader =
    sym (ap header_length (split_header r reader) ∙ header_length-padded (take r.count r.header) (12 - r.count))

-- what is held tells how long the header is
pub header_length-held : (r : Inside) → IsReader r → header_length (held_by r) ≡ header_length r.header
header_length-held r reader = elim (cases_lt r.count (header_length r.header)) [
  | inl short ↦ ap header_length (held_short r reader short).1 ∙ header_length-front r reader
  | inr whole ↦
      header_length-append (take r.count r.header) r.command.body (omega (arith, length-front r reader, whole, header_range r.header)) ∙ header_length-front r reader
]

-- fewer bytes held than a header has are no whole header
pub unheaded : (r : Inside) → IsReader r → length (held_by r) < header_length (held_by r) → r.count < header_length r.header
unheaded r reader less = elim (cases_lt r.count (header_length r.header)) [
  | inl short ↦ short
  | inr full ↦ absurd (omega (arith, less, full, reader.most, header_length-held r reader, length-held r reader))
]

-- with no byte of a header nothing is held
pub none_held : (r : Inside) → IsReader r → r.count ≡ 0 → held_by r ≡ []
none_held r reader none =
    let short = held_short r reader (omega (arith, none, header_range r.header)) in
    short.1 ∙ ap (λ n. take n r.header) none

-- nothing held is no byte of a header
pub held_none : (r : Inside) → IsReader r → held_by r ≡ [] → r.count ≡ 0
held_none r reader e = omega (arith, length-held r reader, ap length e)

eight_in_front : (r : Inside) → IsReader r → r.count ≡ header_length r.header → 8 ≤ length (take r.count r.header)
eight_in_front r reader whole = omega (arith, length-front r reader, whole, header_range r.header)

-- a whole header tells the length of the body
body_length-front : (r : Inside) → IsReader r → r.count ≡ header_length r.header → body_length (take r.count r.header) ≡ body_length r.header
body_length-front r reader whole =
    sym (ap body_length (split_header r reader) ∙ body_length-append (take r.count r.header) (replicate (12 - r.count) 0) (eight_in_front r reader whole))

-- and so does what is held
pub body_length-held : (r : Inside) → IsReader r → r.count ≡ header_length r.header → body_length (held_by r) ≡ body_length r.header
body_length-held r reader whole =
    body_length-append (take r.count r.header) r.command.body (eight_in_front r reader whole) ∙ body_length-front r reader whole

-- less than a frame may become one
pub held_partial : (r : Inside) → IsReader r → (r.count < header_length r.header) ⊎ ((r.count ≡ header_length r.header) × (length r.command.body < body_length r.header))
    → IsIncomplete (held_by r)
held_partial r reader (inl short) =
    let held = held_short r reader short in
    record {
      no_fault = ap first_fault held.1 ∙ reader.no_fault;
      unfinished = short_begins_none (held_by r) (omega (arith, held.0, short, header_length-held r reader));
    }
held_partial r reader (inr part) =
    record {
      no_fault = first_fault-append (take r.count r.header) r.command.body (eight_in_front r reader part.0) ∙ reader.no_fault;
      unfinished = short_begins_none (held_by r) (omega (arith, length-held r reader, header_length-held r reader, body_length-held r reader part.0, part.0, part.1));
    }

-- what the whole array tells, its bytes in use tell
service_in_front : (r : Inside) → IsReader r → r.count ≡ header_length r.header → get_or r.header 2 0 ≡ get_or (take r.count r.header) 2 0
service_in_front r reader whole =
    ap (λ xs. get_or xs 2 0) (split_header r reader)
    ∙ get_or_append_left (take r.count r.header) (replicate (12 - r.count) 0) 0 2 (omega (arith, eight_in_front r reader whole))

length_in_front : (r : Inside) → IsReader r → r.count ≡ header_length r.header → length_bytes r.header ≡ length_bytes (take r.count r.header)
length_in_front r reader whole =
    ap length_bytes (split_header r reader) ∙ length_bytes-append (take r.count r.header) (replicate (12 - r.count) 0) (eight_in_front r reader whole)

numbered_in_front : (r : Inside) → IsReader r → r.count ≡ header_length r.header → is_numbered r.header ≡ is_numbered (take r.count r.header)
numbered_in_front r reader whole =
    ap is_numbered (split_header r reader) ∙ is_numbered-append (take r.count r.header) (replicate (12 - r.count) 0) (eight_in_front r reader whole)

sequence_in_front : (r : Inside) → IsReader r → r.count ≡ header_length r.header → (sequence : Option ℕ) → TellsSequence sequence r.header
    → TellsSequence sequence (take r.count r.header)
sequence_in_front r reader whole None tells = sym (numbered_in_front r reader whole) ∙ tells
sequence_in_front r reader whole (Some number) tells =
    let all : take r.count r.header ≡ r.header = take_all r.count r.header (omega (arith, reader.room, whole, header_numbered r.header tells.0)) in
    (sym (numbered_in_front r reader whole) ∙ tells.0, tells.1, tells.2 ∙ ap (λ xs. take 4 (drop 8 xs)) (sym all))

pub known_is_sendable : (r : Inside) → IsReader r → r.count ≡ header_length r.header → body_length r.header ≤ LARGEST_BODY
known_is_sendable r reader whole =
    let few = faultless_length (take r.count r.header) (eight_in_front r reader whole) reader.no_fault in
    omega (arith, few, body_length-front r reader whole)

-- a header and as many bytes as it tells are the frame of the command that is kept
pub kept_frame : (r : Inside) → IsReader r → r.count ≡ header_length r.header → to_be_bytes w32 (length r.command.body) ≡ length_bytes r.header
    → length r.command.body ≤ LARGEST_BODY → IsCommandFrame r.command (held_by r)
kept_frame r reader whole known few =
    headed_frame r.command (take r.count r.header) (omega (arith, length-front r reader, whole, header_length-front r reader)) reader.no_fault
    (reader.service whole ∙ service_in_front r reader whole) (sequence_in_front r reader whole r.command.sequence (reader.sequence whole))
    (known ∙ length_in_front r reader whole) few (eight_in_front r reader whole)

-- and so a command stands
pub held_whole : (r : Inside) → IsReader r → r.count ≡ header_length r.header → to_be_bytes w32 (length r.command.body) ≡ length_bytes r.header
    → length r.command.body ≡ body_length r.header → (command : CommandFrame) × IsCommandFrame command (held_by r)
held_whole r reader whole known full =
    (r.command, kept_frame r reader whole known (omega (arith, full, known_is_sendable r reader whole)))

-- where a command stands the header is whole
standing : (r : Inside) → IsReader r → (command : CommandFrame) → IsCommandFrame command (held_by r)
    → (r.count ≡ header_length r.header) × (length r.command.body ≡ length command.body)
standing r reader command frame =
    let encoded = frame.encoded ∙ sym (append-nil (command_encoding command)) in
    let long = ap length encoded ∙ length-encoding command [] in
    let head = sym (header_length-held r reader) ∙ ap header_length encoded ∙ header_length-encoding command [] in
    elim (cases_lt r.count (header_length r.header)) [
      | inl short ↦ absurd (omega (arith, (held_short r reader short).0, long, head, short))
      | inr full ↦ (omega (arith, reader.most, full), omega (arith, length-held r reader, long, head, reader.most, full))
    ]

-- the command that stands is the one that is kept
pub held_command : (r : Inside) → IsReader r → (command : CommandFrame) → IsCommandFrame command (held_by r) → IsCommandFrame r.command (held_by r)
held_command r reader command frame =
    let stands = standing r reader command frame in
    let told : to_be_bytes w32 (length command.body) ≡ length_bytes (held_by r) = sym (ap length_bytes frame.encoded) in
    let front : length_bytes (held_by r) ≡ length_bytes r.header =
    length_bytes-append (take r.count r.header) r.command.body (eight_in_front r reader stands.0) ∙ sym (length_in_front r reader stands.0) in
    kept_frame r reader stands.0 (ap (λ n. to_be_bytes w32 n) stands.1 ∙ told ∙ front) (omega (arith, stands.1, frame.sendable.body))

-- as many bytes held as a header has are a whole header
pub is_headed : (r : Inside) → IsReader r → header_length (held_by r) ≤ length (held_by r) → r.count ≡ header_length r.header
is_headed r reader long =
    elim (cases_lt r.count (header_length r.header)) [
      | inl short ↦ absurd (omega (arith, (held_short r reader short).0, header_length-held r reader, long, short))
      | inr full ↦ omega (arith, reader.most, full)
    ]

-- the header was filled up from a piece
pub record Filled (r : Inside) (piece header : List ℕ) (count : ℕ) : Type 0 where
  pub short : r.count < header_length r.header
  pub taken : count ≡ min (header_length (take r.count r.header ++ piece) - r.count) (length piece)
  pub bytes : header ≡ take r.count r.header ++ (take count piece ++ drop (r.count + count) r.header)

-- the header that all of the piece tells: it is at least as long as what is held
pub with_piece : (r : Inside) (piece : List ℕ) → IsReader r → r.count < header_length r.header → r.count < header_length (take r.count r.header ++ piece)
with_piece r piece reader short = elim (cases_lt (length (take r.count r.header)) 2) [
  | inl few ↦ omega (arith, few, length-front r reader, header_range (take r.count r.header ++ piece))
  | inr more ↦ omega (arith, short, header_length-append (take r.count r.header) piece more, header_length-front r reader)
]

pub filled_within : (r : Inside) (piece header : List ℕ) (count : ℕ) → IsReader r → Filled r piece header count
    → (r.count + count ≤ header_length (take r.count r.header ++ piece)) × (count ≤ length piece) × (r.count + count ≤ 12)
filled_within r piece header count reader filled =
    let more = with_piece r piece reader filled.short in
    let most = header_range (take r.count r.header ++ piece) in
    (omega (arith, filled.taken, more), omega (arith, filled.taken), omega (arith, filled.taken, more, most))

length-filled_front : (r : Inside) (piece header : List ℕ) (count : ℕ) → IsReader r → Filled r piece header count
    → length (take r.count r.header ++ take count piece) ≡ r.count + count
length-filled_front r piece header count reader filled =
    omega (arith, length-append (take r.count r.header) (take count piece), length-front r reader, length-take-le count piece (filled_within r piece header count reader filled).1)

-- the bytes in use are those held, and those taken
pub filled_front : (r : Inside) (piece header : List ℕ) (count : ℕ) → IsReader r → Filled r piece header count
    → take (r.count + count) header ≡ held_by r ++ take count piece
filled_front r piece header count reader filled =
    ap (λ xs. take (r.count + count) xs) (filled.bytes ∙ sym (append_assoc (take r.count r.header) (take count piece) (drop (r.count + count) r.header)))
    ∙ take_at (take r.count r.header ++ take count piece) (drop (r.count + count) r.header) (r.count + count) (length-filled_front r piece header count reader filled)
    ∙ ap (λ xs. xs ++ take count piece) (sym (held_short r reader filled.short).1)

-- the others are zero
pub filled_rest : (r : Inside) (piece header : List ℕ) (count : ℕ) → IsReader r → Filled r piece header count
    → drop (r.count + count) header ≡ replicate (12 - (r.count + count)) 0
filled_rest r piece header count reader filled =
    let less : 12 - r.count - count ≡ 12 - (r.count + count) = omega arith in
    ap (λ xs. drop (r.count + count) xs) (filled.bytes ∙ sym (append_assoc (take r.count r.header) (take count piece) (drop (r.count + count) r.header)))
    ∙ drop_at (take r.count r.header ++ take count piece) (drop (r.count + count) r.header) (r.count + count) (length-filled_front r piece header count reader filled)
    ∙ sym (drop-drop count r.count r.header)
    ∙ ap (λ xs. drop count xs) reader.spare
    ∙ drop-replicate count (12 - r.count) 0
    ∙ ap (λ n. replicate n 0) less

length-filled : (r : Inside) (piece header : List ℕ) (count : ℕ) → IsReader r → Filled r piece header count → length header ≡ 12
length-filled r piece header count reader filled =
    ap length (filled.bytes ∙ sym (append_assoc (take r.count r.header) (take count piece) (drop (r.count + count) r.header)))
    ∙ length-append (take r.count r.header ++ take count piece) (drop (r.count + count) r.header)
    ∙ omega (arith, length-filled_front r piece header count reader filled, length-drop (r.count + count) r.header, reader.room, (filled_within r piece header count reader filled).2)

header_length-filled : (r : Inside) (piece header : List ℕ) (count : ℕ) → IsReader r → Filled r piece header count
    → header_length header ≡ header_length (take r.count r.header ++ piece)
header_length-filled r piece header count reader filled =
    let within = filled_within r piece header count reader filled in
    let split : header ≡ (take r.count r.header ++ take count piece) ++ replicate (12 - (r.count + count)) 0 =
    sym (take-append-drop (r.count + count) header)
    ∙ ap (λ xs. xs ++ drop (r.count + count) header) (filled_front r piece header count reader filled ∙ ap (λ xs. xs ++ take count piece) (held_short r reader filled.short).1)
    ∙ ap (λ xs. (take r.count r.header ++ take count piece) ++ xs) (filled_rest r piece header count reader filled) in
    ap header_length split ∙ header_length-padded (take r.count r.header ++ take count piece) (12 - (r.count + count))
    ∙ cut_piece (take r.count r.header) piece count within.1
    (λ few. omega (arith, few, length-front r reader, filled.taken, header_range (take r.count r.header ++ piece)))

-- where they show a fault, what was held and the piece do
pub filled_broken : (r : Inside) (piece header : List ℕ) (count : ℕ) → IsReader r → Filled r piece header count
    → (within : ℕ) → first_fault (take (r.count + count) header) ≡ Some within → IsBrokenAt r.start (held_by r ++ piece) (r.start + within)
filled_broken r piece header count reader filled within fault =
    let front : first_fault (held_by r ++ take count piece) ≡ Some within = ap first_fault (sym (filled_front r piece header count reader filled)) ∙ fault in
    let all : (held_by r ++ take count piece) ++ drop count piece ≡ held_by r ++ piece =
    append_assoc (held_by r) (take count piece) (drop count piece) ∙ ap (λ xs. held_by r ++ xs) (take-append-drop count piece) in
    let some : first_fault (held_by r ++ piece) ≡ Some within = ap first_fault (sym all) ∙ fault_stays (held_by r ++ take count piece) (drop count piece) within front in
    record { fault = ap (λ offset. option_map (λ n. r.start + n) offset) some; unfinished = broken_begins_none (held_by r ++ piece) within some }

-- the command that was begun behind a header: none where it isn't whole
pub record Begun (r : Inside) (header : List ℕ) (count most : ℕ) (command : CommandFrame) : Type 0 where
  pub same : count ≢ most → command ≡ r.command
  pub body : count ≡ most → command.body ≡ []
  pub service : count ≡ most → command.service ≡ get_or header 2 0
  pub sequence : count ≡ most → TellsSequence command.sequence header

-- a header that was filled up without a fault keeps the reader's rules, with the command begun where it is whole
pub filled_reader : (r : Inside) (piece header : List ℕ) (count : ℕ) (command : CommandFrame) → IsReader r → Filled r piece header count
    → r.fault ≡ None → r.start + length (held_by r) + length piece ≤ 2 ^ 63
    → first_fault (take (r.count + count) header) ≡ None → Begun r header (r.count + count) (header_length (take r.count r.header ++ piece)) command
    → IsReader (record { start = r.start; header = header; count = r.count + count; command = command; fault = r.fault })
filled_reader r piece header count command reader filled fresh short no_fault begun =
    let room = length-filled r piece header count reader filled in
    let size = header_length-filled r piece header count reader filled in
    let within = filled_within r piece header count reader filled in
    let empty : command.body ≡ [] = elim (cases_lt (r.count + count) (header_length (take r.count r.header ++ piece))) [
      | inl less ↦ ap (λ (c : CommandFrame). c.body) (begun.same (omega arith) ∙ reader.headless filled.short)
      | inr full ↦ begun.body (omega (arith, full, within))
    ] in
    let long : length (take (r.count + count) header ++ command.body) ≡ r.count + count =
    ap (λ xs. length (take (r.count + count) header ++ xs)) empty ∙ ap length (append-nil (take (r.count + count) header))
    ∙ length-take-le (r.count + count) header (omega (arith, room, within)) in
    record {
      room = room;
      few = within.2;
      most = omega (arith, size, within);
      spare = filled_rest r piece header count reader filled;
      no_fault = no_fault;
      headless = λ less. begun.same (omega (arith, size, less)) ∙ reader.headless filled.short;
      service = λ whole. begun.service (whole ∙ size);
      sequence = λ whole. begun.sequence (whole ∙ size);
      within = λ whole. omega (arith, ap length empty);
      fresh = λ offset broken. cc;
      short = omega (arith, long, short, within, (held_short r reader filled.short).0);
    }

-- how many bytes were taken, and what is held then
pub filled_answer : (r : Inside) (piece header : List ℕ) (count : ℕ) (command : CommandFrame) → IsReader r → Filled r piece header count → command.body ≡ []
    → (count ≡ min (header_length (held_by r ++ piece) - length (held_by r)) (length piece))
    × (fragment_of (record { start = r.start; header = header; count = r.count + count; command = command; fault = r.fault })
    ≡ record { start = r.start; bytes = held_by r ++ take count piece; fault = r.fault })
filled_answer r piece header count command reader filled empty =
    let held = held_short r reader filled.short in
    let bytes : take (r.count + count) header ++ command.body ≡ held_by r ++ take count piece =
    ap (λ xs. take (r.count + count) header ++ xs) empty ∙ append-nil (take (r.count + count) header) ∙ filled_front r piece header count reader filled in
    let size : header_length (held_by r ++ piece) ≡ header_length (take r.count r.header ++ piece) = ap (λ xs. header_length (xs ++ piece)) held.1 in
    (omega (arith, filled.taken, size, held.0), ap (λ xs. record { start = r.start; bytes = xs; fault = r.fault }) bytes)

-- a piece was put behind the body
pub pushed_reader : (r : Inside) (piece : List ℕ) → IsReader r → r.count ≡ header_length r.header → length r.command.body + length piece ≤ body_length r.header
    → r.start + length (held_by r) + length piece ≤ 2 ^ 63 → IsReader (record r { command = record r.command { body = r.command.body ++ piece } })
pushed_reader r piece reader whole fits short = record {
  room = reader.room;
  few = reader.few;
  most = reader.most;
  spare = reader.spare;
  no_fault = reader.no_fault;
  headless = λ less. absurd (omega (arith, less, whole));
  service = reader.service;
  sequence = reader.sequence;
  within = λ _. omega (arith, fits, length-append r.command.body piece);
  fresh = reader.fresh;
  short = omega (arith, short, length-held r reader, length-append (take r.count r.header) (r.command.body ++ piece), length-append r.command.body piece, length-front r reader);
}

-- a frame may begin with nothing
pub nothing_is_incomplete : IsIncomplete []
nothing_is_incomplete = record { no_fault = first_fault-nil; unfinished = short_begins_none [] (omega (arith, header_range [])) }
