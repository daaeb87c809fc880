-- How a reader of frames takes the header of a frame.
use Rattle.std.specs.Prelude.{◌≡◌, ◌-◌, min, ℕ, List, [], ◌++◌, length, take, Some, Result, MatchResult}
use Rattle.module_frames.specs.Streams.{header_length}
use Rattle.module_frames.specs.Fragments.{Fragment, IsBrokenAt}

-- bytes of the piece filled the header up, or show a fault at this offset in the stream
abbrev pub FeedsHeader : Fragment → List ℕ → Result ℕ ℕ → Fragment → Type 0
FeedsHeader old piece answer new = MatchResult answer
    (λ count. (count ≡ min (header_length (old.bytes ++ piece) - length old.bytes) (length piece)) × (new ≡ record old { bytes = old.bytes ++ take count piece }))
    (λ offset. (new ≡ record old { bytes = []; fault = Some offset }) × IsBrokenAt old.start (old.bytes ++ piece) offset)
