-- What a check of a transcript leaves, by how it ended.
use Rattle.std.proofs.Common.{◌≡◌, ◌≢◌, inl, inr, Bool, true, false, ℕ, Option, Some, None, refl, sym, ◌∙◌, ap, arith}
use Rattle.engine_core.specs.Calls.{Calls}
use Rattle.outside.specs.Faults.{FaultCounted}
use Rattle.outside.specs.FilesContent.{FilesContent}
use Rattle.stream_calls.specs.declared.limits.TheConstants.{CHUNK}
use Rattle.transcript_report.specs.declared.checking.Checked.{Checked}
use Rattle.transcript_report.specs.declared.checking.Checked.TheVariants as checked
use Rattle.transcript_report.specs.Checks.{Checks, ReadsLeft, WritesLeft}
use Rattle.program_words.specs.Faults.{is_refusal}
use Rattle.program_words.specs.Forms.{FormValue, Check}
use Rattle.module_top.specs.Outcomes.{reads_source, Outside, IsOutcome}
use Rattle.module_top.specs.Program.{check_status}
use Rattle.module_top.proofs.ReportOutcomes.{any_files}

-- the statuses of checks are no refusals
no_refusal : (answer : Checked) → is_refusal (check_status answer) ≡ false
no_refusal checked.Lawful = refl
no_refusal (checked.Unlawful number) = refl
no_refusal (checked.BadFrame place) = refl
no_refusal checked.Truncated = refl
no_refusal checked.ReadFault = refl
no_refusal checked.WriteFault = refl
no_refusal checked.Limit = refl

read_failed : (answer : Checked) (before after : ℕ) → ReadsLeft answer before after → check_status answer ≡ 5 → FaultCounted before after
read_failed checked.Lawful before after left h = absurd (omega (arith, h))
read_failed (checked.Unlawful number) before after left h = absurd (omega (arith, h))
read_failed (checked.BadFrame place) before after left h = absurd (omega (arith, h))
read_failed checked.Truncated before after left h = absurd (omega (arith, h))
read_failed checked.ReadFault before after left h = left
read_failed checked.WriteFault before after left h = absurd (omega (arith, h))
read_failed checked.Limit before after left h = absurd (omega (arith, h))

reads_stay : (answer : Checked) (before after : ℕ) → ReadsLeft answer before after → check_status answer ≢ 5 → after ≡ before
reads_stay checked.Lawful before after left h = left
reads_stay (checked.Unlawful number) before after left h = left
reads_stay (checked.BadFrame place) before after left h = left
reads_stay checked.Truncated before after left h = left
reads_stay checked.ReadFault before after left h = absurd (h refl)
reads_stay checked.WriteFault before after left h = left
reads_stay checked.Limit before after left h = left

write_failed : (answer : Checked) (before after : ℕ) → WritesLeft answer before after → check_status answer ≡ 6 → FaultCounted before after
write_failed checked.Lawful before after left h = absurd (omega (arith, h))
write_failed (checked.Unlawful number) before after left h = absurd (omega (arith, h))
write_failed (checked.BadFrame place) before after left h = absurd (omega (arith, h))
write_failed checked.Truncated before after left h = absurd (omega (arith, h))
write_failed checked.ReadFault before after left h = absurd (omega (arith, h))
write_failed checked.WriteFault before after left h = left
write_failed checked.Limit before after left h = absurd (omega (arith, h))

writes_stay : (answer : Checked) (before after : ℕ) → WritesLeft answer before after → check_status answer ≢ 6 → after ≡ before
writes_stay checked.Lawful before after left h = left
writes_stay (checked.Unlawful number) before after left h = left
writes_stay (checked.BadFrame place) before after left h = left
writes_stay checked.Truncated before after left h = left
writes_stay checked.ReadFault before after left h = left
writes_stay checked.WriteFault before after left h = absurd (h refl)
writes_stay checked.Limit before after left h = left

-- no backup is refused
no_fifteen : (answer : Checked) → check_status answer ≡ 15 → ⊥
no_fifteen checked.Lawful h = omega (arith, h)
no_fifteen (checked.Unlawful number) h = omega (arith, h)
no_fifteen (checked.BadFrame place) h = omega (arith, h)
no_fifteen checked.Truncated h = omega (arith, h)
no_fifteen checked.ReadFault h = omega (arith, h)
no_fifteen checked.WriteFault h = omega (arith, h)
no_fifteen checked.Limit h = omega (arith, h)

-- a transcript was checked
pub transcript_checked : {V S K : Type 0} (calls : Calls V) (engine : V) (files : Option FilesContent) (answer : Checked) (before after : Outside S K) → after.file_faults ≡ before.file_faults
    → Checks answer CHUNK before.streams after.streams → ReadsLeft answer before.read_faults after.read_faults → WritesLeft answer before.write_faults after.write_faults
    → IsOutcome calls engine files (Some Check) (check_status answer) before after
transcript_checked calls engine files answer before after same checks reads writes =
    record {
      usage = (λ two. absurd (never 2 two refl), λ none. cc);
      untouched = λ stops. absurd (elim stops [
        | inl is ↦ never_true is
        | inr fifteen ↦ no_fifteen answer fifteen
      ]);
      source_stays = λ form is not_read. let no : true ≡ false = ap reads_of is ∙ not_read in cc no;
      suits = any_files files (λ all _ _. record {
        image_too_long = (λ nine. absurd (never 9 nine refl), λ long. absurd long);
        bad_digest = (λ eleven. absurd (never 11 eleven refl), λ bad. absurd bad);
        bad_keys = (λ thirteen. absurd (never 13 thirteen refl), λ bad. absurd bad);
        backup_too_long = λ long. absurd long;
      });
      done = λ _. (answer, refl, checks);
      file_fault = λ eight. absurd (never 8 eight refl);
      files_unchanged = λ _. same;
      read_fault = read_failed answer _ _ reads;
      reads_unchanged = λ other. inl (reads_stay answer _ _ reads other);
      write_fault = write_failed answer _ _ writes;
      writes_unchanged = writes_stay answer _ _ writes;
    }
  where
    never : (other : ℕ) → check_status answer ≡ other → is_refusal other ≡ true → ⊥
    never other is refusal = let no : true ≡ false = sym refusal ∙ ap is_refusal (sym is) ∙ no_refusal answer in cc no

    never_true : is_refusal (check_status answer) ≡ true → ⊥
    never_true is = let no : true ≡ false = sym is ∙ no_refusal answer in cc no

    reads_of : Option FormValue → Bool
    reads_of None = true
    reads_of (Some form) = reads_source form
