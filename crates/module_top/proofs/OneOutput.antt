-- The definition of the program's output leaves nothing open.
use Rattle.std.proofs.Common.{◌≡◌, ℕ, List, Option, Some, None, sym, ◌∙◌, ap, subst}
use Rattle.engine_core.specs.Calls.{Calls}
use Rattle.outside.specs.declared.traits.Sample.{Sample}
use Rattle.outside.specs.FilesContent.{FilesContent}
use Rattle.state_model.specs.MachineState.{initial_state}
use Rattle.vector_reports.proofs.OneReport.{one_report}
use Rattle.transcript_report.proofs.OneVerdict.{one_verdict}
use Rattle.program_words.specs.declared.words.Work.{Work}
use Rattle.program_words.specs.Forms.{FormValue, OnModule, Digest, Vectors, Check, form_of}
use Rattle.module_top.specs.Program.{check_status, report_status, WorksOn, IsOutputOf, HasOneOutput}
use Rattle.module_works.specs.Works.{RunsWork}
use Rattle.module_works.proofs.OneWork.{one_work}
use Rattle.module_top.specs.declared.limits.TheConstants.{LARGEST_IMAGE}
use Rattle.module_top.proofs.NamedFiles.{one_noise, one_with_file, one_with_digest, one_with_keys, one_with_backup}

-- with the events of one noise
one_with_noise : {V : Type 0} (w : Work) (calls : Calls V) (engine : V) (files : FilesContent) (noise_name bytes : List ℕ) (status status' : ℕ) (out out' image digest keys backup : List ℕ)
    → WorksOn w calls engine files noise_name bytes status out image digest keys backup → WorksOn w calls engine files noise_name bytes status' out' image digest keys backup
    → (status ≡ status') × (out ≡ out')
one_with_noise w calls engine files noise_name bytes status status' out out' image digest keys backup one other =
    let Works : List Sample → Type 0 = λ events. RunsWork w keys backup calls (initial_state engine image digest) events bytes status' out' in
    one_work w keys backup calls (initial_state engine image digest) one.0 bytes status status' out out' one.2
    (subst Works (one_noise files noise_name other.0 one.0 other.1 one.1) other.2)

one_of_form : {V : Type 0} (calls : Calls V) (engine : V) (of : Option FormValue) (files : FilesContent) (bytes : List ℕ) (status status' : ℕ) (out out' : List ℕ)
    → IsOutputOf calls engine of files bytes status out → IsOutputOf calls engine of files bytes status' out' → (status ≡ status') × (out ≡ out')
one_of_form calls engine None files bytes status status' out out' one other = (one.0 ∙ sym other.0, one.1 ∙ sym other.1)
one_of_form calls engine (Some (OnModule w names)) files bytes status status' out out' one other =
    one_with_file LARGEST_IMAGE 9 files names.image status status' out out' _ _
    (λ image. one_with_digest files names.digest status status' out out' _ _
    (λ digest. one_with_keys files names.keys status status' out out' _ _
    (λ keys. one_with_backup files names.backup status status' out out' _ _
    (λ backup. one_with_noise w calls engine files names.noise bytes status status' out out' image digest keys backup)))) one other
one_of_form calls engine (Some (Digest image_name)) files bytes status status' out out' one other =
    one_with_file LARGEST_IMAGE 9 files image_name status status' out out' _ _ (λ image a b. (a.0 ∙ sym b.0, a.1 ∙ sym b.1)) one other
one_of_form calls engine (Some Vectors) files bytes status status' out out' (answer, is, runs) (answer', is', runs') =
    let same = one_report calls engine bytes answer answer' out out' runs runs' in
    (is ∙ ap report_status same.0 ∙ sym is', same.1)
one_of_form calls engine (Some Check) files bytes status status' out out' (answer, is, runs) (answer', is', runs') =
    let same = one_verdict bytes answer answer' out out' runs runs' in
    (is ∙ ap check_status same.0 ∙ sym is', same.1)

pub one_output : {V : Type 0} (calls : Calls V) → HasOneOutput calls
one_output calls engine words files bytes status status' out out' one other = one_of_form calls engine (form_of words) files bytes status status' out out' one other
