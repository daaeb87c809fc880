-- The output of a run keeps its secrets.
use Rattle.std.proofs.Common.{◌≡◌, ◌≢◌, ◌≤◌, ◌++◌, ℕ, List, [], Option, Some, None, length, true, false, inl, inr, refl, sym, ap, subst, ◌∙◌, arith}
use Rattle.std.specs.Prelude.{MatchOption}
use Rattle.outside.specs.FilesContent.{FilesContent, HasFile}
use Rattle.outside.specs.declared.traits.Sample.{Sample}
use Rattle.engine_core.specs.Calls.{Calls, IsStandard}
use Rattle.state_model.specs.MachineState.{MachineState, initial_state}
use Rattle.module_top.specs.declared.limits.TheConstants.{LARGEST_IMAGE}
use Rattle.vault_backup.specs.declared.limits.TheConstants.{BACKUP_MOST}
use Rattle.program_words.specs.declared.words.Work.{Work}
use Rattle.program_words.specs.DigestFile.{digest_of}
use Rattle.program_words.specs.Faults.{is_refusal}
use Rattle.program_words.specs.Forms.{FormValue, NamesValue, OnModule, Digest, Vectors, Check, form_of}
use Rattle.module_works.specs.Works.{RunsWork}
use Rattle.module_top.specs.Outcomes.{AreKeysOf, IsNamedFile}
use Rattle.module_top.specs.Program.{HasNoise, IsRefused, IsOutputOf, IsProgramOutput, WithBackup, WithKeys, WorksOn}
use Rattle.module_top.specs.Secrets.{WorkKeepsSecrets, OutputKeepsSecrets, written_replies}
use Rattle.module_top.proofs.RunOutcomes.{backup_with, keys_with}
use Rattle.module_top.proofs.WorkSecrets.{OtherWork, WorkAlike, work_alike}

-- what was refused wasn't done
not_refused : (reason status : ℕ) → status ≡ reason → is_refusal reason ≡ true → is_refusal status ≢ false
not_refused reason status is refusal done = let no : true ≡ false = sym refusal ∙ ap is_refusal (sym is) ∙ done in cc

-- the keys of a name, where the run isn't refused
taken_keys : (files : FilesContent) (name : Option (List ℕ)) (status : ℕ) (out : List ℕ) (Follows : List ℕ → Type 0) (Goal : Type 0) → is_refusal status ≡ false → WithKeys files name status out Follows
    → ((keys : List ℕ) → IsNamedFile files name keys → AreKeysOf name keys → Follows keys → Goal) → Goal
taken_keys files None status out Follows Goal done follows each = each [] refl refl follows
taken_keys files (Some name) status out Follows Goal done (keys, has, one) each = elim one [
  | inl short ↦ absurd (not_refused 13 status short.1.0 refl done)
  | inr are ↦ each keys has are.0 are.1
]

-- and the backup of a name
taken_backup : (files : FilesContent) (name : Option (List ℕ)) (status : ℕ) (out : List ℕ) (Follows : List ℕ → Type 0) (Goal : Type 0) → status ≢ 15 → WithBackup files name status out Follows
    → ((backup : List ℕ) → IsNamedFile files name backup → length backup ≤ BACKUP_MOST → Follows backup → Goal) → Goal
taken_backup files None status out Follows Goal other follows each = each [] refl (omega arith) follows
taken_backup files (Some name) status out Follows Goal other follows each = elim follows [
  | inl long ↦ absurd (other long.1.0)
  | inr fits ↦ each fits.0 fits.1 fits.2 fits.3
]

pub output_keeps : {V : Type 0} (calls : Calls V) → IsStandard calls → (engine : V) (words : List (List ℕ)) (files : FilesContent) (bytes : List ℕ) (status : ℕ) (out : List ℕ)
    → IsProgramOutput calls engine words files bytes status out → OutputKeepsSecrets calls engine words (form_of words) files bytes status out
output_keeps {V} calls plain engine words files bytes status out output = by_form (form_of words) refl output
  where
    worked : (w : Work) (names : NamesValue) → form_of words ≡ Some (OnModule w names) → (image text digest keys backup : List ℕ) (events : List Sample) → HasFile files names.image image
        → length image ≤ LARGEST_IMAGE → HasFile files names.digest text → digest_of text ≡ Some digest → IsNamedFile files names.keys keys → AreKeysOf names.keys keys
        → IsNamedFile files names.backup backup → length backup ≤ BACKUP_MOST → HasNoise files names.noise events
        → RunsWork w keys backup calls (initial_state engine image digest) events bytes status out → WorkKeepsSecrets w calls engine words files names bytes status out
    worked w names is image text digest keys backup events has_image fits has_text spelled has_keys are_keys has_backup backup_fits has_noise runs =
        let s : MachineState V = initial_state engine image digest in (
          image,
          digest,
          keys,
          backup,
          events,
          record { has_image = has_image; text = text; has_digest = has_text; spelled = spelled; has_keys = has_keys; has_backup = has_backup; has_noise = has_noise },
          λ t left begins other pairs variant.
              let kept : WorkAlike w keys backup calls s t events left bytes status out = work_alike w keys backup calls plain s t events left bytes status out refl begins runs in
              let instead : OtherWork w keys backup calls s t events left other pairs status kept.replies kept.end = kept.alike other pairs variant in
              record {
                replies = kept.replies;
                end = kept.end;
                written = kept.written;
                others = instead.others;
                output = output_of_other other (written_replies w instead.others ++ kept.end) instead.runs;
                agree = instead.agree;
                one_command = instead.one_command;
              },
        )
      where
        output_of_other : (other other_out : List ℕ) → RunsWork w keys backup calls (initial_state engine image digest) events other status other_out
            → IsProgramOutput calls engine words files other status other_out
        output_of_other other other_out instead =
            let Out : Option FormValue → Type 0 = λ of. IsOutputOf calls engine of files other status other_out in
            let Rest : List ℕ → Type 0 = λ d. WithKeys files names.keys status other_out (λ k. WithBackup files names.backup status other_out (λ b. WorksOn w calls engine files names.noise other status other_out image d k b)) in
            let By : Option (List ℕ) → Type 0 = λ read. MatchOption read (IsRefused 11 status other_out) Rest in
            let rest : Rest digest = keys_with files names.keys keys status other_out _ has_keys are_keys (backup_with files names.backup backup status other_out _ has_backup backup_fits (events, has_noise, instead)) in
            subst Out (sym is) (inr (image, has_image, fits, (text, has_text, subst By (sym spelled) rest)))

    by_digest : (w : Work) (names : NamesValue) → form_of words ≡ Some (OnModule w names) → (image text : List ℕ) → HasFile files names.image image → length image ≤ LARGEST_IMAGE
        → HasFile files names.digest text → (read : Option (List ℕ)) → digest_of text ≡ read
        → MatchOption read (IsRefused 11 status out) (λ d. WithKeys files names.keys status out (λ k. WithBackup files names.backup status out (λ b. WorksOn w calls engine files names.noise bytes status out image d k b)))
        → is_refusal status ≡ false → status ≢ 15 → WorkKeepsSecrets w calls engine words files names bytes status out
    by_digest w names is image text has_image fits has_text None spelled refused done other = absurd (not_refused 11 status refused.0 refl done)
    by_digest w names is image text has_image fits has_text (Some digest) spelled found done other =
        taken_keys files names.keys status out _ _ done found (λ keys has_keys are_keys more.
        taken_backup files names.backup status out _ _ other more (λ backup has_backup backup_fits works.
        worked w names is image text digest keys backup works.0 has_image fits has_text spelled has_keys are_keys has_backup backup_fits works.1 works.2))

    by_form : (of : Option FormValue) → form_of words ≡ of → IsOutputOf calls engine of files bytes status out → OutputKeepsSecrets calls engine words of files bytes status out
    by_form None is output = tt
    by_form (Some (Digest image_name)) is output = tt
    by_form (Some Vectors) is output = tt
    by_form (Some Check) is output = tt
    by_form (Some (OnModule w names)) is output = λ done other. elim output [
      | inl long ↦ absurd (not_refused 9 status long.1.0 refl done)
      | inr loaded ↦
          let (image, has_image, fits, found) = loaded in
          by_digest w names is image found.0 has_image fits found.1 (digest_of found.0) refl found.2 done other
    ]
