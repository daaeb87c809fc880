-- What is held of a stream, and what is answered to a piece of it.
use Rattle.std.specs.Prelude.{◌≡◌, ◌≤◌, ◌<◌, ◌+◌, ℕ, List, [], ◌∷◌, ◌++◌, length, take, None, Some}
use Rattle.module_frames.specs.CommandFrames.{CommandFrame}
use Rattle.module_frames.specs.Fragments.{Fragment}
use Rattle.command_serving.specs.declared.codec.Decoded.{Decoded}
use Rattle.command_serving.specs.declared.codec.Decoded.TheVariants as decoded
use Rattle.command_serving.specs.Grammars.{Grammar, fault_number}

-- no fault came or shows, and no whole unit is held: one may begin so
pub record IsReady (grammar : Grammar) (held : Fragment) : Type 0 where
  pub no_earlier_fault : held.fault ≡ None
  pub no_fault : grammar.first_fault held.bytes ≡ None
  pub unfinished : grammar.BeginsNoUnit held.bytes

-- nothing is held, and the next unit begins behind what was
abbrev pub cleared : Grammar → Fragment → Fragment
cleared grammar held = record { start = held.start + grammar.advance held.bytes; bytes = []; fault = held.fault }

-- what is answered to a piece, and what is held then
abbrev pub Decodes : Grammar → Fragment → List ℕ → Decoded → Fragment → Type 0
-- all was taken, and a unit may go on so
Decodes grammar old piece decoded.More new = (new ≡ record old { bytes = old.bytes ++ piece }) × IsReady grammar new
-- so many were taken, at least one, and are the end of a unit that makes a command
Decodes grammar old piece (decoded.Command count) new =
    (0 < count) × (count ≤ length piece) × (new ≡ record old { bytes = old.bytes ++ take count piece }) × ((command : CommandFrame) × grammar.Encodes new.bytes (command ∷ []))
-- so many were taken, at least one, and were the end of a unit that makes none
Decodes grammar old piece (decoded.Skipped count) new =
    (0 < count) × (count ≤ length piece) × (new ≡ cleared grammar (record old { bytes = old.bytes ++ take count piece })) × grammar.Encodes (old.bytes ++ take count piece) []
-- a fault shows, which has this number in the stream
Decodes grammar old piece (decoded.Fault number) new = fault_number grammar old.start (old.bytes ++ piece) ≡ Some number
