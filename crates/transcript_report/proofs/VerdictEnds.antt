-- What an answer's text tells, and what is left where that was written or cut off.
use Rattle.std.proofs.Common.{◌≡◌, ◌≢◌, ℕ, List, [], Option, refl, arith}
use Rattle.outside.specs.Contents.{Appends}
use Rattle.stream_calls.specs.PartialWrites.{AppendsPart}
use Rattle.transcript_report.specs.Checks.{Checks, ReadsLeft, VerdictReached}
use Rattle.transcript_report.specs.Progress.{ReadCutOff, text_of}
use Rattle.transcript_report.specs.declared.checking.Checked.{Checked}
use Rattle.transcript_report.specs.declared.checking.Checked.TheVariants as checked

-- no part of nothing can be written
no_part : (before after : Option (List ℕ)) → AppendsPart before [] after → ⊥
no_part before after part = omega (arith, part.1)

-- the text was written
pub text_written : (found : Checked) (count chunk : ℕ) (left left' gained gained' : Option (List ℕ)) → (found ≢ checked.ReadFault → VerdictReached found chunk (text_of found count) left left')
    → (found ≡ checked.ReadFault → ReadCutOff left left') → Appends gained (text_of found count) gained' → Checks found chunk (record { left = left; gained = gained }) (record { left = left'; gained = gained' })
text_written checked.Lawful count chunk left left' gained gained' reached cut written = (text_of checked.Lawful count, reached (λ e. cc), written)
text_written (checked.Unlawful number) count chunk left left' gained gained' reached cut written = (text_of (checked.Unlawful number) count, reached (λ e. cc), written)
text_written (checked.BadFrame place) count chunk left left' gained gained' reached cut written = ([], reached (λ e. cc), written)
text_written checked.Truncated count chunk left left' gained gained' reached cut written = ([], reached (λ e. cc), written)
text_written checked.ReadFault count chunk left left' gained gained' reached cut written =
    let h = cut refl in
    record { taken = h.taken; recorded = h.recorded; remainder = h.remainder; consumes = h.consumes; so_far = h.so_far; below_limit = h.below_limit; written = written }
text_written checked.WriteFault count chunk left left' gained gained' reached cut written = absurd ((reached (λ e. cc)).comes_to)
text_written checked.Limit count chunk left left' gained gained' reached cut written = ([], reached (λ e. cc), written)

-- a part of it was written
pub text_cut_off : (found : Checked) (count chunk : ℕ) (left left' gained gained' : Option (List ℕ)) → (found ≢ checked.ReadFault → VerdictReached found chunk (text_of found count) left left')
    → AppendsPart gained (text_of found count) gained' → Checks checked.WriteFault chunk (record { left = left; gained = gained }) (record { left = left'; gained = gained' })
text_cut_off checked.Lawful count chunk left left' gained gained' reached part = (checked.Lawful, text_of checked.Lawful count, reached (λ e. cc), part)
text_cut_off (checked.Unlawful number) count chunk left left' gained gained' reached part = (checked.Unlawful number, text_of (checked.Unlawful number) count, reached (λ e. cc), part)
text_cut_off (checked.BadFrame place) count chunk left left' gained gained' reached part = absurd (no_part gained gained' part)
text_cut_off checked.Truncated count chunk left left' gained gained' reached part = absurd (no_part gained gained' part)
text_cut_off checked.ReadFault count chunk left left' gained gained' reached part = absurd (no_part gained gained' part)
text_cut_off checked.WriteFault count chunk left left' gained gained' reached part = absurd (no_part gained gained' part)
text_cut_off checked.Limit count chunk left left' gained gained' reached part = absurd (no_part gained gained' part)

-- no read failed then
pub cut_off_reads : (found : Checked) (count : ℕ) (gained gained' : Option (List ℕ)) (before now : ℕ) → AppendsPart gained (text_of found count) gained' → ReadsLeft found before now → now ≡ before
cut_off_reads checked.Lawful count gained gained' before now part reads = reads
cut_off_reads (checked.Unlawful number) count gained gained' before now part reads = reads
cut_off_reads (checked.BadFrame place) count gained gained' before now part reads = reads
cut_off_reads checked.Truncated count gained gained' before now part reads = reads
cut_off_reads checked.ReadFault count gained gained' before now part reads = absurd (no_part gained gained' part)
cut_off_reads checked.WriteFault count gained gained' before now part reads = reads
cut_off_reads checked.Limit count gained gained' before now part reads = reads
