-- A parameter that is being entered (ISO/IEC 19790:2012, 7.9.5); its form is this project's own.
use Rattle.std.specs.Prelude.{◌≡◌, ℕ, ◌+◌, ◌^◌, ◌-◌, ◌≤◌, ◌<◌, List, ◌++◌, length, take, drop, Some, None, IsTrue, MatchOption}
use Rattle.std.specs.Option.{option_map_or}
use Rattle.bits_core.specs.Parameters.{length_fits}
use Rattle.bits_core.specs.ByteList.{IsBytes, zeros}
use Rattle.state_model.specs.declared.entry.Entry.{Entry}
use Rattle.state_model.specs.declared.entry.Target.{Target}

-- none is being entered: all is zero
abbrev pub no_entry : Entry
no_entry = record { target = None; filled = 0; bytes = zeros 64 }

-- an entry for this target, with no byte yet
abbrev pub begun_entry : Target → Entry
begun_entry target = record { target = Some target; filled = 0; bytes = zeros 64 }

-- the entry with a piece behind the bytes that are there
abbrev pub with_piece : Entry → List ℕ → Entry
with_piece entry piece = record entry {
  filled = entry.filled + length piece;
  bytes = take entry.filled entry.bytes ++ (piece ++ drop (entry.filled + length piece) entry.bytes);
}

-- how many bytes the parameter has
abbrev pub entry_length : Entry → ℕ
entry_length entry = option_map_or (λ target. target.length) entry.target 0

-- a parameter of this target is being entered: it fits a slot and has a use, counted in 32 bits, no more bytes are there than it has, and those past
-- them are zero
pub record IsEntered (target : Target) (entry : Entry) : Type 0 where
  pub slot : target.slot < 16
  pub fits : IsTrue (length_fits target.header.kind target.header.domain target.length)
  pub uses : 1 ≤ target.header.uses
  pub uses_width : target.header.uses < 2 ^ 32
  pub within : entry.filled ≤ target.length
  pub room : length entry.bytes ≡ 64
  pub byte_values : IsBytes entry.bytes
  pub unused : drop entry.filled entry.bytes ≡ zeros (64 - entry.filled)

abbrev pub IsUnderway : Entry → Type 0
IsUnderway entry = MatchOption entry.target ⊥ (λ target. IsEntered target entry)
