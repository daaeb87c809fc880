-- What follows from the form of frames, for the bytes of transcripts.
use Rattle.std.specs.Prelude.{◌≡◌, ℕ, List}
use Rattle.transcript_pairs.specs.PairStreams.{ParsesIntoPairs, Recorded}

-- Two parses of the same bytes have the same pairs, the same payloads and the same remainder.
abbrev pub PairsParseInOneWay : Type 0
PairsParseInOneWay = (bytes : List ℕ) (ones others : List Recorded) (remainder left : List ℕ)
    → ParsesIntoPairs bytes ones remainder → ParsesIntoPairs bytes others left → (ones ≡ others) × (remainder ≡ left)
