-- What a report leaves, by how it ended.
use Rattle.std.proofs.Common.{◌≡◌, ◌≢◌, inl, inr, Bool, true, false, ℕ, Option, Some, None, IfSome, refl, sym, ◌∙◌, ap, arith}
use Rattle.engine_core.specs.Calls.{Calls}
use Rattle.outside.specs.Faults.{FaultCounted}
use Rattle.outside.specs.FilesContent.{FilesContent}
use Rattle.stream_calls.specs.declared.limits.TheConstants.{CHUNK}
use Rattle.vector_reports.specs.declared.reporting.Reported.{Reported}
use Rattle.vector_reports.specs.declared.reporting.Reported.TheVariants as reported
use Rattle.vector_reports.specs.Reporting.{Reports, ReadsLeft, WritesLeft}
use Rattle.program_words.specs.Faults.{is_refusal}
use Rattle.program_words.specs.Forms.{FormValue, Vectors}
use Rattle.module_top.specs.Outcomes.{reads_source, ReadsStay, Outside, IsOutcome}
use Rattle.module_top.specs.Program.{report_status}

-- the statuses of reports are no refusals
no_refusal : (answer : Reported) → is_refusal (report_status answer) ≡ false
no_refusal reported.AllPassed = refl
no_refusal reported.SomeFailed = refl
no_refusal (reported.BadLine number) = refl
no_refusal reported.ReadFault = refl
no_refusal reported.WriteFault = refl
no_refusal reported.Limit = refl

read_failed : (answer : Reported) (before after : ℕ) → ReadsLeft answer before after → report_status answer ≡ 5 → FaultCounted before after
read_failed reported.AllPassed before after left h = absurd (omega (arith, h))
read_failed reported.SomeFailed before after left h = absurd (omega (arith, h))
read_failed (reported.BadLine number) before after left h = absurd (omega (arith, h))
read_failed reported.ReadFault before after left h = left
read_failed reported.WriteFault before after left h = absurd (omega (arith, h))
read_failed reported.Limit before after left h = absurd (omega (arith, h))

reads_stay : (answer : Reported) (before after : ℕ) → ReadsLeft answer before after → report_status answer ≢ 5 → ReadsStay (Some Vectors) (report_status answer) before after
reads_stay reported.AllPassed before after left h = inl left
reads_stay reported.SomeFailed before after left h = inl left
reads_stay (reported.BadLine number) before after left h = inl left
reads_stay reported.ReadFault before after left h = absurd (h refl)
reads_stay reported.WriteFault before after left h = elim left [ inl same ↦ inl same | inr counted ↦ inr (refl, refl, counted) ]
reads_stay reported.Limit before after left h = inl left

write_failed : (answer : Reported) (before after : ℕ) → WritesLeft answer before after → report_status answer ≡ 6 → FaultCounted before after
write_failed reported.AllPassed before after left h = absurd (omega (arith, h))
write_failed reported.SomeFailed before after left h = absurd (omega (arith, h))
write_failed (reported.BadLine number) before after left h = absurd (omega (arith, h))
write_failed reported.ReadFault before after left h = absurd (omega (arith, h))
write_failed reported.WriteFault before after left h = left
write_failed reported.Limit before after left h = absurd (omega (arith, h))

writes_stay : (answer : Reported) (before after : ℕ) → WritesLeft answer before after → report_status answer ≢ 6 → after ≡ before
writes_stay reported.AllPassed before after left h = left
writes_stay reported.SomeFailed before after left h = left
writes_stay (reported.BadLine number) before after left h = left
writes_stay reported.ReadFault before after left h = left
writes_stay reported.WriteFault before after left h = absurd (h refl)
writes_stay reported.Limit before after left h = left

-- no backup is refused
no_fifteen : (answer : Reported) → report_status answer ≡ 15 → ⊥
no_fifteen reported.AllPassed h = omega (arith, h)
no_fifteen reported.SomeFailed h = omega (arith, h)
no_fifteen (reported.BadLine number) h = omega (arith, h)
no_fifteen reported.ReadFault h = omega (arith, h)
no_fifteen reported.WriteFault h = omega (arith, h)
no_fifteen reported.Limit h = omega (arith, h)

-- a fact about all files
pub any_files : {Q : FilesContent → Type 0} (files : Option FilesContent) → ((all : FilesContent) → Q all) → IfSome files Q
any_files None each = tt
any_files (Some all) each = each all

-- vector lines were reported
pub vectors_reported : {V S K : Type 0} (calls : Calls V) (engine last : V) (files : Option FilesContent) (answer : Reported) (before after : Outside S K) → after.file_faults ≡ before.file_faults
    → Reports calls answer CHUNK engine last before.streams after.streams → ReadsLeft answer before.read_faults after.read_faults → WritesLeft answer before.write_faults after.write_faults
    → IsOutcome calls engine files (Some Vectors) (report_status answer) before after
vectors_reported calls engine last files answer before after same reports reads writes =
    record {
      usage = (λ two. absurd (never 2 two refl), λ none. cc);
      untouched = λ stops. absurd (elim stops [
        | inl is ↦ never_true is
        | inr fifteen ↦ no_fifteen answer fifteen
      ]);
      source_stays = λ form is not_read. let no : true ≡ false = ap reads_of is ∙ not_read in cc no;
      suits = any_files files (λ all _ _. record {
        image_too_long = (λ nine. absurd (never 9 nine refl), λ long. absurd long);
        bad_digest = (λ eleven. absurd (never 11 eleven refl), λ bad. absurd bad);
        bad_keys = (λ thirteen. absurd (never 13 thirteen refl), λ bad. absurd bad);
        backup_too_long = λ long. absurd long;
      });
      done = λ _. (answer, last, refl, reports);
      file_fault = λ eight. absurd (never 8 eight refl);
      files_unchanged = λ _. same;
      read_fault = read_failed answer _ _ reads;
      reads_unchanged = reads_stay answer _ _ reads;
      write_fault = write_failed answer _ _ writes;
      writes_unchanged = writes_stay answer _ _ writes;
    }
  where
    never : (other : ℕ) → report_status answer ≡ other → is_refusal other ≡ true → ⊥
    never other is refusal = let no : true ≡ false = sym refusal ∙ ap is_refusal (sym is) ∙ no_refusal answer in cc no

    never_true : is_refusal (report_status answer) ≡ true → ⊥
    never_true is = let no : true ≡ false = sym is ∙ no_refusal answer in cc no

    reads_of : Option FormValue → Bool
    reads_of None = true
    reads_of (Some form) = reads_source form
