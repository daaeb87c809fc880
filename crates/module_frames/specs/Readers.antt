-- How a reader of frames holds its bytes: those of a header, of eight or twelve bytes, in an array, and the others in a command.
use Rattle.std.specs.Prelude.{◌≡◌, ◌≤◌, ◌<◌, ◌+◌, ◌-◌, ◌^◌, List, ℕ, [], ◌++◌, length, take, drop, replicate, slice_index, true, false, Option, None, Some}
use Rattle.std.specs.Int.{to_be_bytes, w32}
use Rattle.module_frames.specs.declared.frames.Frames.TheInside.{Inside}
use Rattle.module_frames.specs.CommandFrames.{CommandFrame}
use Rattle.module_frames.specs.Streams.{first_fault, body_length, header_length, is_numbered}
use Rattle.module_frames.specs.Fragments.{Fragment}

-- a header tells this sequence number, or that there is none
abbrev pub TellsSequence : Option ℕ → List ℕ → Type 0
TellsSequence None header = is_numbered header ≡ false
TellsSequence (Some number) header = (is_numbered header ≡ true) × (number < 2 ^ 32) × (to_be_bytes w32 number ≡ take 4 (drop 8 header))

abbrev pub held_by : Inside → List ℕ
held_by r = take r.count r.header ++ r.command.body

abbrev pub fragment_of : Inside → Fragment
fragment_of r = record { start = r.start; bytes = held_by r; fault = r.fault }

-- before the header is whole no command has begun
abbrev pub no_command : CommandFrame
no_command = record { service = 0; sequence = None; body = [] }

pub record IsReader (r : Inside) : Type 0 where
  pub room : length r.header ≡ 12
  pub few : r.count ≤ 12
  pub most : r.count ≤ header_length r.header
  pub spare : drop r.count r.header ≡ replicate (12 - r.count) 0
  pub no_fault : first_fault (take r.count r.header) ≡ None
  pub headless : r.count < header_length r.header → r.command ≡ no_command
  pub service : r.count ≡ header_length r.header → r.command.service ≡ slice_index r.header 2
  pub sequence : r.count ≡ header_length r.header → TellsSequence r.command.sequence r.header
  pub within : r.count ≡ header_length r.header → length r.command.body ≤ body_length r.header
  pub fresh : (offset : ℕ) → r.fault ≡ Some offset → r.count ≡ 0
  pub short : r.start + length (held_by r) ≤ 2 ^ 63
