-- What follows from the meaning of a verdict.
use Rattle.std.specs.Prelude.{◌≡◌, ◌<◌, ◌↔◌, ℕ, List, [], length}
use Rattle.module_frames.specs.PublicState.{unpowered}
use Rattle.stream_calls.specs.declared.limits.TheConstants.{STREAM_MAX}
use Rattle.transcript_check.specs.Transcripts.{IsLawful, IsFirstUnlawful}
use Rattle.transcript_pairs.specs.PairStreams.{Recorded, ParsesIntoPairs, pairs_of}
use Rattle.transcript_report.specs.Verdicts.{IsVerdict, lawful_text, pair_text}
use Rattle.transcript_report.specs.declared.checking.Checked.{Checked}
use Rattle.transcript_report.specs.declared.checking.Checked.TheVariants as checked

-- The bytes of a transcript have one verdict, and it has one text.
abbrev pub HasOneVerdict : Type 0
HasOneVerdict = (bytes : List ℕ) (one other : Checked) (text text' : List ℕ) → IsVerdict bytes one text → IsVerdict bytes other text' → (one ≡ other) × (text ≡ text')

-- The verdict is 'lawful' exactly on fewer than 2^40 bytes that are whole pairs, and these are lawful.
abbrev pub LawfulTells : Type 0
LawfulTells = (bytes text : List ℕ) → IsVerdict bytes checked.Lawful text
    ↔ ((recorded : List Recorded) × ParsesIntoPairs bytes recorded [] × IsLawful (pairs_of recorded) × (length bytes < STREAM_MAX) × (text ≡ lawful_text (length recorded)))

-- On fewer than 2^40 bytes it has the number of a pair exactly where that is the first pair of the bytes that isn't lawful.
abbrev pub UnlawfulTells : Type 0
UnlawfulTells = (bytes text : List ℕ) (recorded : List Recorded) (remainder : List ℕ) (number : ℕ) → length bytes < STREAM_MAX → ParsesIntoPairs bytes recorded remainder
    → IsVerdict bytes (checked.Unlawful number) text ↔ (IsFirstUnlawful unpowered number (pairs_of recorded) × (text ≡ pair_text number))
