-- What a run leaves, by where it ended; and from there the program's output.
use Rattle.std.proofs.Common.{◌≡◌, ◌≢◌, ◌≤◌, ◌++◌, inl, inr, Bool, true, false, ℕ, List, [], Option, Some, None, IfSome, refl, sym, ◌∙◌, ap, subst, length, arith, append-nil}
use Rattle.std.specs.Prelude.{◌↔◌, ◌⊎◌, MatchOption, Result, Ok, Err, IsErr}
use Rattle.std.specs.Result.{IsErrAnd}
use Rattle.engine_core.specs.Calls.{Calls}
use Rattle.outside.specs.Faults.{FaultCounted}
use Rattle.outside.specs.FilesContent.{FilesContent, HasFile, HasFileAbove}
use Rattle.outside.specs.Explained.{Explained}
use Rattle.outside.specs.declared.traits.Sample.{Sample}
use Rattle.state_model.specs.MachineState.{MachineState, initial_state}
use Rattle.state_model.specs.ModuleView.{ModuleView}
use Rattle.stream_calls.specs.declared.limits.TheConstants.{CHUNK}
use Rattle.stream_calls.specs.Streams.{Streams}
use Rattle.vault_backup.specs.declared.limits.TheConstants.{BACKUP_MOST}
use Rattle.vector_reports.specs.declared.reporting.Reported.{Reported}
use Rattle.vector_reports.proofs.VectorRuns.{vectors_of}
use Rattle.transcript_report.proofs.VerdictRuns.{verdict_of}
use Rattle.program_words.specs.declared.faults.RunFault.{RunFault}
use Rattle.program_words.specs.declared.words.Work.{Work}
use Rattle.program_words.specs.DigestFile.{digest_of}
use Rattle.program_words.specs.Faults.{is_refusal, status_of}
use Rattle.program_words.specs.Forms.{FormValue, NamesValue, OnModule, Digest, Vectors, Check}
use Rattle.module_works.specs.Works.{RunsWork, LeavesWork}
use Rattle.module_works.specs.WorkOutcomes.{work_reads, IsWorkOutcome}
use Rattle.module_works.proofs.WorkRuns.{work_of}
use Rattle.module_top.specs.declared.limits.TheConstants.{LARGEST_IMAGE}
use Rattle.module_top.specs.Program.{check_status, report_status, digest_line, HasNoise, IsRefused, IsOutputOf, WithKeys, WithBackup, WorksOn}
use Rattle.module_top.specs.Outcomes.{reads_source, AreKeysOf, AreLoaded, BackupRefused, DigestRefused, HasBadDigest, HasBadKeys, HasDigest, HasImage, HasKeyFile, HasLongBackup, HasLongFile, HasLongImage, HasNoDigest, HasNoKeyFile, ImageRefused, IsDigested, IsNamedFile, IsOutcome, IsTooLong, IsWorkedOn, IsWorkOf, KeysRefused, Outside, ReadsStay, SuitsFiles}
use Rattle.module_top.proofs.NamedFiles.{not_above, image_fits, digest_is, keys_are, long_no_digest, long_no_keys, long_no_backup}

-- where files tell, a fact about them gives another
pub told : {P Q : FilesContent → Type 0} (files : Option FilesContent) → ((all : FilesContent) → P all → Q all) → IfSome files P → IfSome files Q
told None each h = tt
told (Some all) each h = each all h

-- a fact about all files
any_files : {Q : FilesContent → Type 0} (files : Option FilesContent) → ((all : FilesContent) → Q all) → IfSome files Q
any_files None each = tt
any_files (Some all) each = each all

other_status : (status other : ℕ) → is_refusal status ≡ true → is_refusal other ≡ false → status ≢ other
other_status status other is isn't e =
    let never : true ≡ false = sym is ∙ ap is_refusal e ∙ isn't in
    cc

-- where files tell, something suits them but for a failed call or want of memory
abbrev Suits : Option FilesContent → ℕ → FormValue → Type 0
Suits files status form = IfSome files (λ all. status ≢ 7 → status ≢ 8 → SuitsFiles status (Some form) all)

-- a run whose work didn't begin
refused : {V S K : Type 0} (calls : Calls V) (engine : V) (files : Option FilesContent) (form : FormValue) (status : ℕ) (before : Outside S K) (faults : ℕ)
    → is_refusal status ≡ true → status ≢ 2 → (status ≡ 8 → FaultCounted before.file_faults faults) → (status ≢ 8 → faults ≡ before.file_faults) → Suits files status form
    → IsOutcome calls engine files (Some form) status before (record before { file_faults = faults })
refused calls engine files form status before faults is no_usage counted uncounted suits = record {
  usage = (λ two. absurd (no_usage two), λ none. cc);
  untouched = λ _. (refl, refl);
  source_stays = λ _ _ _. refl;
  suits = suits;
  done = λ isn't. cc (sym is ∙ isn't);
  file_fault = counted;
  files_unchanged = uncounted;
  read_fault = λ five. absurd (other_status status 5 is refl five);
  reads_unchanged = λ _. inl refl;
  write_fault = λ six. absurd (other_status status 6 is refl six);
  writes_unchanged = λ _. refl;
}

-- the words have no form
pub usage_refused : {V S K : Type 0} (calls : Calls V) (engine : V) (files : Option FilesContent) (before : Outside S K) → IsOutcome calls engine files None 2 before before
usage_refused calls engine files before = record {
  usage = (λ _. refl, λ _. refl);
  untouched = λ _. (refl, refl);
  source_stays = λ _ _ _. refl;
  suits = any_files files (λ all _ _. record {
    image_too_long = (λ e. omega arith, λ long. absurd long);
    bad_digest = (λ e. omega arith, λ bad. absurd bad);
    bad_keys = (λ e. omega arith, λ bad. absurd bad);
    backup_too_long = λ long. absurd long;
  });
  done = λ isn't. cc;
  file_fault = λ e. omega arith;
  files_unchanged = λ _. refl;
  read_fault = λ e. omega arith;
  reads_unchanged = λ _. inl refl;
  write_fault = λ e. omega arith;
  writes_unchanged = λ _. refl;
}

-- a call on the files failed
pub file_failed : {V S K : Type 0} (calls : Calls V) (engine : V) (files : Option FilesContent) (form : FormValue) (before : Outside S K) (faults : ℕ) → FaultCounted before.file_faults faults
    → IsOutcome calls engine files (Some form) 8 before (record before { file_faults = faults })
file_failed calls engine files form before faults counted =
    refused calls engine files form 8 before faults refl (λ e. omega arith) (λ _. counted) (λ other. absurd (other refl)) (any_files files (λ all _ other. absurd (other refl)))

-- there was no memory
pub no_memory : {V S K : Type 0} (calls : Calls V) (engine : V) (files : Option FilesContent) (form : FormValue) (before : Outside S K) (faults : ℕ) → faults ≡ before.file_faults
    → IsOutcome calls engine files (Some form) 7 before (record before { file_faults = faults })
no_memory calls engine files form before faults same =
    refused calls engine files form 7 before faults refl (λ e. omega arith) (λ e. omega arith) (λ _. same) (any_files files (λ all other _. absurd (other refl)))

-- the image of a form wasn't loaded
image_refused : {V S K : Type 0} (calls : Calls V) (engine : V) (files : Option FilesContent) (form : FormValue) (name : List ℕ) (why : RunFault) (before : Outside S K) (faults : ℕ)
    → ((all : FilesContent) → HasFileAbove all name LARGEST_IMAGE → HasLongImage all (Some form)) → ImageRefused files name why before.file_faults faults
    → IsOutcome calls engine files (Some form) (status_of why) before (record before { file_faults = faults })
image_refused calls engine files form name why before faults names refusal =
    let Leaves : RunFault → Type 0 = λ w. IsOutcome calls engine files (Some form) (status_of w) before (record before { file_faults = faults }) in
    elim refusal [
      | inl long ↦ subst Leaves (sym long.0)
          (refused calls engine files form 9 before faults refl (λ e. omega arith) (λ e. omega arith) (λ _. long.2)
          (told files (λ all above _ _. record {
            image_too_long = (λ _. names all above, λ _. refl);
            bad_digest = (λ e. absurd (omega (arith, e)), λ bad. absurd (long_no_digest all form (names all above) bad));
            bad_keys = (λ e. absurd (omega (arith, e)), λ bad. absurd (long_no_keys all form (names all above) bad));
            backup_too_long = λ bad. absurd (long_no_backup all form (names all above) bad);
          }) long.1))
      | inr others ↦ elim others [
        | inl failed ↦ subst Leaves (sym failed.0) (file_failed calls engine files form before faults failed.1)
        | inr memory ↦ subst Leaves (sym memory.0) (no_memory calls engine files form before faults memory.1)
      ]
    ]

pub work_image_refused : {V S K : Type 0} (calls : Calls V) (engine : V) (files : Option FilesContent) (work : Work) (names : NamesValue) (why : RunFault) (before : Outside S K) (faults : ℕ)
    → ImageRefused files names.image why before.file_faults faults
    → IsOutcome calls engine files (Some (OnModule work names)) (status_of why) before (record before { file_faults = faults })
work_image_refused calls engine files work names why before faults refusal =
    image_refused calls engine files (OnModule work names) names.image why before faults (λ all long. long) refusal

pub digest_image_refused : {V S K : Type 0} (calls : Calls V) (engine : V) (files : Option FilesContent) (image_name : List ℕ) (why : RunFault) (before : Outside S K) (faults : ℕ)
    → ImageRefused files image_name why before.file_faults faults
    → IsOutcome calls engine files (Some (Digest image_name)) (status_of why) before (record before { file_faults = faults })
digest_image_refused calls engine files image_name why before faults refusal =
    image_refused calls engine files (Digest image_name) image_name why before faults (λ all long. long) refusal

-- a result that is this fault
pub is_fault : {X : Type 0} (r : Result X RunFault) (why : RunFault) → IsErr r × IsErrAnd r (λ fault. fault ≡ why) → r ≡ Err why
is_fault (Ok done) why h = absurd h.1
is_fault (Err fault) why h = ap (λ f. Err f) h.1

-- two facts about the files, where they tell
pub both : (P Q : FilesContent → Type 0) (files : Option FilesContent) → IfSome files P → IfSome files Q → IfSome files (λ all. P all × Q all)
both P Q None p q = tt
both P Q (Some all) p q = (p, q)

-- there was no digest
pub digest_refused : {V S K : Type 0} (calls : Calls V) (engine : V) (files : Option FilesContent) (work : Work) (names : NamesValue) (why : RunFault) (before : Outside S K) (faults : ℕ)
    → IfSome files (λ all. HasImage all names.image) → DigestRefused files names.digest why before.file_faults faults
    → IsOutcome calls engine files (Some (OnModule work names)) (status_of why) before (record before { file_faults = faults })
digest_refused calls engine files work names why before faults has refusal =
    let form = OnModule work names in
    let Leaves : RunFault → Type 0 = λ w. IsOutcome calls engine files (Some form) (status_of w) before (record before { file_faults = faults }) in
    elim refusal [
      | inl bad ↦ subst Leaves (sym bad.0)
          (refused calls engine files form 11 before faults refl (λ e. omega arith) (λ e. omega arith) (λ _. bad.2)
          (told files (λ all found _ _. record {
            image_too_long = (λ e. absurd (omega (arith, e)), λ long. absurd (image_fits all names.image found.0 long));
            bad_digest = (λ _. found, λ _. refl);
            bad_keys = (λ e. absurd (omega (arith, e)), λ keys. absurd (digest_is all names.digest keys.1 found.1));
            backup_too_long = λ long. absurd (digest_is all names.digest long.1 found.1);
          }) (both (λ all. HasImage all names.image) (λ all. HasNoDigest all names.digest) files has bad.1)))
      | inr others ↦ elim others [
        | inl failed ↦ subst Leaves (sym failed.0) (file_failed calls engine files form before faults failed.1)
        | inr memory ↦ subst Leaves (sym memory.0) (no_memory calls engine files form before faults memory.1)
      ]
    ]

-- there were no keys
pub keys_refused : {V S K : Type 0} (calls : Calls V) (engine : V) (files : Option FilesContent) (work : Work) (names : NamesValue) (why : RunFault) (before : Outside S K) (faults : ℕ)
    → IfSome files (λ all. HasImage all names.image × HasDigest all names.digest) → KeysRefused files names.keys why before.file_faults faults
    → IsOutcome calls engine files (Some (OnModule work names)) (status_of why) before (record before { file_faults = faults })
keys_refused calls engine files work names why before faults has refusal =
    let form = OnModule work names in
    let Leaves : RunFault → Type 0 = λ w. IsOutcome calls engine files (Some form) (status_of w) before (record before { file_faults = faults }) in
    elim refusal [
      | inl bad ↦ subst Leaves (sym bad.0)
          (refused calls engine files form 13 before faults refl (λ e. omega arith) (λ e. omega arith) (λ _. bad.2)
          (told files (λ all found _ _. record {
            image_too_long = (λ e. absurd (omega (arith, e)), λ long. absurd (image_fits all names.image found.0.0 long));
            bad_digest = (λ e. absurd (omega (arith, e)), λ digest. absurd (digest_is all names.digest found.0.1 digest.1));
            bad_keys = (λ _. (found.0.0, found.0.1, found.1), λ _. refl);
            backup_too_long = λ long. absurd (keys_are all names.keys long.2 found.1);
          }) (both (λ all. HasImage all names.image × HasDigest all names.digest) (λ all. HasNoKeyFile all names.keys) files has bad.1)))
      | inr others ↦ elim others [
        | inl failed ↦ subst Leaves (sym failed.0) (file_failed calls engine files form before faults failed.1)
        | inr memory ↦ subst Leaves (sym memory.0) (no_memory calls engine files form before faults memory.1)
      ]
    ]

-- what is loaded stands in the files, where they tell
pub loaded_there : (files : Option FilesContent) (names : NamesValue) (image text digest keys : List ℕ) → AreLoaded files names image text digest keys
    → IfSome files (λ all. HasImage all names.image × HasDigest all names.digest × HasKeyFile all names.keys)
loaded_there files names image text digest keys loaded = told files (λ all found. (
  (image, found.0, loaded.fits),
  (text, found.1, (digest, loaded.spelled)),
  key_file all names.keys found.2 loaded.are_keys,
)) loaded.named
  where
    key_file : (all : FilesContent) (name : Option (List ℕ)) → IsNamedFile all name keys → AreKeysOf name keys → HasKeyFile all name
    key_file all None is are = tt
    key_file all (Some name) is are = (keys, is, are)

-- once image, digest and keys are loaded, no status speaks of them
later : (files : Option FilesContent) (work : Work) (names : NamesValue) (image text digest keys : List ℕ) (status : ℕ) → AreLoaded files names image text digest keys
    → status ≢ 9 → status ≢ 11 → status ≢ 13 → IfSome files (λ all. HasLongFile all names.backup → status ≡ 15) → Suits files status (OnModule work names)
later files work names image text digest keys status loaded nine eleven thirteen long =
    told files (λ all found _ _. record {
      image_too_long = (λ e. absurd (nine e), λ above. absurd (image_fits all names.image found.0.0 above));
      bad_digest = (λ e. absurd (eleven e), λ bad. absurd (digest_is all names.digest found.0.1 bad.1));
      bad_keys = (λ e. absurd (thirteen e), λ bad. absurd (keys_are all names.keys found.0.2 bad.2));
      backup_too_long = λ bad. found.1 bad.3;
    }) (both (λ all. HasImage all names.image × HasDigest all names.digest × HasKeyFile all names.keys) (λ all. HasLongFile all names.backup → status ≡ 15) files
    (loaded_there files names image text digest keys loaded) long)

-- the backup wasn't loaded
pub backup_refused : {V S K : Type 0} (calls : Calls V) (engine : V) (files : Option FilesContent) (work : Work) (names : NamesValue) (image text digest keys : List ℕ) (why : RunFault) (before : Outside S K) (faults : ℕ)
    → AreLoaded files names image text digest keys → BackupRefused files names.backup why before.file_faults faults
    → IsOutcome calls engine files (Some (OnModule work names)) (status_of why) before (record before { file_faults = faults })
backup_refused {V} {S} {K} calls engine files work names image text digest keys why before faults loaded refusal =
    let form = OnModule work names in
    let Leaves : RunFault → Type 0 = λ w. IsOutcome calls engine files (Some form) (status_of w) before (record before { file_faults = faults }) in
    elim refusal [
      | inl bad ↦ subst Leaves (sym bad.0) (too_long bad.2 bad.1)
      | inr others ↦ elim others [
        | inl failed ↦ subst Leaves (sym failed.0) (file_failed calls engine files form before faults failed.1)
        | inr memory ↦ subst Leaves (sym memory.0) (no_memory calls engine files form before faults memory.1)
      ]
    ]
  where
    too_long : faults ≡ before.file_faults → IfSome files (λ all. HasLongFile all names.backup) → IsOutcome calls engine files (Some (OnModule work names)) 15 before (record before { file_faults = faults })
    too_long same long = record {
      usage = (λ e. absurd (omega (arith, e)), λ none. cc);
      untouched = λ _. (refl, refl);
      source_stays = λ _ _ _. refl;
      suits = later files work names image text digest keys 15 loaded (λ e. omega arith) (λ e. omega arith) (λ e. omega arith) (any_files files (λ all _. refl));
      done = λ _. inr (
        (
          refl,
          told files (λ all found. (found.0.0, found.0.1, found.0.2, found.1))
              (both (λ all. HasImage all names.image × HasDigest all names.digest × HasKeyFile all names.keys) (λ all. HasLongFile all names.backup) files (loaded_there files names image text digest keys loaded) long),
        ),
        refl,
      );
      file_fault = λ e. omega arith;
      files_unchanged = λ _. same;
      read_fault = λ e. omega arith;
      reads_unchanged = λ _. inl refl;
      write_fault = λ e. omega arith;
      writes_unchanged = λ _. refl;
    }

-- a status of work that began is no refusal's
no_refusal : (status other : ℕ) → is_refusal status ≡ false → is_refusal other ≡ true → status ≢ other
no_refusal status other isn't is e =
    let never : false ≡ true = sym isn't ∙ ap is_refusal e ∙ is in
    cc

-- where files tell, three facts about them
pub told_all : (P Q R : FilesContent → Type 0) (files : Option FilesContent) → IfSome files P → IfSome files Q → IfSome files R → IfSome files (λ all. P all × Q all × R all)
told_all P Q R None p q r = tt
told_all P Q R (Some all) p q r = (p, q, r)

-- some events of a noise explain what was done with it: where the files tell, those of its name
pub some_events : {Explains : List Sample → List Sample → Type 0} (files : Option FilesContent) (name : List ℕ) (before now : Option (List Sample)) → Explained before now Explains
    → IfSome files (λ all. (events : List Sample) × HasNoise all name events × (before ≡ Some events))
    → (events : List Sample) × (left : List Sample) × IfSome files (λ all. HasNoise all name events) × Explains events left
some_events None name before now explained named = (explained.some.0 ++ [], [], tt, explained.some.1 [])
some_events (Some all) name before now explained named =
    let told = explained.told named.0 named.2 in
    (named.0, told.0, named.1, told.2)

-- a backup that was loaded isn't too long
backup_fits : (all : FilesContent) (name : Option (List ℕ)) (backup : List ℕ) → IsNamedFile all name backup → length backup ≤ BACKUP_MOST → HasLongFile all name → ⊥
backup_fits all None backup is fits long = long
backup_fits all (Some name) backup is fits long = not_above BACKUP_MOST all name backup is fits long

-- a work was done on a module with the image, digest, keys, backup and noise that were loaded
pub work_done : {V S K : Type 0} (calls : Calls V) (engine : V) (files : Option FilesContent) (work : Work) (names : NamesValue) (image text digest keys backup : List ℕ) (status : ℕ) (noise noise' : Option (List Sample)) (before after : Outside S K)
    → AreLoaded files names image text digest keys → length backup ≤ BACKUP_MOST → IfSome files (λ all. IsNamedFile all names.backup backup)
    → IfSome files (λ all. (events : List Sample) × HasNoise all names.noise events × (noise ≡ Some events)) → after.file_faults ≡ before.file_faults
    → IsWorkOutcome work keys backup calls (initial_state engine image digest) noise noise' status
    (record { source = before.source; sink = before.sink; streams = before.streams; read_faults = before.read_faults; write_faults = before.write_faults })
    (record { source = after.source; sink = after.sink; streams = after.streams; read_faults = after.read_faults; write_faults = after.write_faults })
    → IsOutcome calls engine files (Some (OnModule work names)) status before after
work_done {V} {S} {K} calls engine files work names image text digest keys backup status noise noise' before after loaded fits named noises same outcome = record {
  usage = (λ two. absurd (only 2 two refl (λ e. omega arith)), λ none. cc);
  untouched = λ stops. outcome.untouched (elim stops [
    | inl is ↦ inl (outcome.only_memory is)
    | inr fifteen ↦ inr fifteen
  ]);
  source_stays = λ form is reads. outcome.source_stays (ap reads_of is ∙ reads);
  suits = later files work names image text digest keys status loaded (λ e. only 9 e refl (λ e. omega arith)) (λ e. only 11 e refl (λ e. omega arith)) (λ e. only 13 e refl (λ e. omega arith))
      (told files (λ all is long. absurd (backup_fits all names.backup backup is fits long)) named);
  done = λ isn't. inl (worked (outcome.worked (λ seven. cc (sym isn't ∙ ap is_refusal seven))));
  file_fault = λ eight. absurd (only 8 eight refl (λ e. omega arith));
  files_unchanged = λ _. same;
  read_fault = outcome.read_fault;
  reads_unchanged = λ other. inl (outcome.reads_unchanged other);
  write_fault = outcome.write_fault;
  writes_unchanged = outcome.writes_unchanged;
}
  where
    -- no refusal but for memory
    only : (other : ℕ) → status ≡ other → is_refusal other ≡ true → other ≢ 7 → ⊥
    only other is refusal never = never (sym is ∙ outcome.only_memory (ap is_refusal is ∙ refusal))

    reads_of : Option FormValue → Bool
    reads_of None = false
    reads_of (Some form) = reads_source form

    worked : (view : ModuleView V) × Explained noise noise' (λ events left. LeavesWork work keys backup calls status (initial_state engine image digest) view before.streams after.streams events left)
        → IsWorkedOn work calls engine files names status before.streams after.streams
    worked (view, explained) =
        let by = some_events files names.noise noise noise' explained noises in
        record {
          image = image;
          text = text;
          digest = digest;
          keys = keys;
          backup = backup;
          events = by.0;
          left = by.1;
          view = view;
          loaded = loaded;
          backup_fits = fits;
          named = both (λ all. IsNamedFile all names.backup backup) (λ all. HasNoise all names.noise by.0) files named by.2;
          leaves = by.3;
        }

-- the line of the digest was written, or a part of it
pub line_written : {V S K : Type 0} (calls : Calls V) (engine : V) (files : Option FilesContent) (image_name : List ℕ) (status : ℕ) (before after : Outside S K)
    → IsDigested calls engine files image_name status before.streams.gained after.streams.gained → after.source ≡ before.source → after.file_faults ≡ before.file_faults → after.read_faults ≡ before.read_faults
    → (status ≡ 6 → FaultCounted before.write_faults after.write_faults) → (status ≢ 6 → after.write_faults ≡ before.write_faults)
    → IsOutcome calls engine files (Some (Digest image_name)) status before after
line_written calls engine files image_name status before after digested source same reads write writes =
    let isn't : is_refusal status ≡ false = elim digested.written [
      | inl whole ↦ ap is_refusal whole.0
      | inr part ↦ ap is_refusal part.0
    ] in
    let no_true : is_refusal status ≡ true → ⊥ = λ is. let never : true ≡ false = sym is ∙ isn't in cc never in
    let no_fifteen : status ≢ 15 = λ fifteen. elim digested.written [
      | inl whole ↦ omega (arith, whole.0, fifteen)
      | inr part ↦ omega (arith, part.0, fifteen)
    ] in
    let no_five : status ≢ 5 = λ five. elim digested.written [
      | inl whole ↦ omega (arith, whole.0, five)
      | inr part ↦ omega (arith, part.0, five)
    ] in record {
      usage = (λ two. absurd (no_refusal status 2 isn't refl two), λ none. cc);
      untouched = λ stops. absurd (elim stops [
        | inl is ↦ no_true is
        | inr fifteen ↦ no_fifteen fifteen
      ]);
      source_stays = λ _ _ _. source;
      suits = told files (λ all named _ _. record {
        image_too_long = (λ nine. absurd (no_refusal status 9 isn't refl nine), λ long. absurd (not_above LARGEST_IMAGE all image_name digested.image named digested.fits long));
        bad_digest = (λ eleven. absurd (no_refusal status 11 isn't refl eleven), λ bad. absurd bad);
        bad_keys = (λ thirteen. absurd (no_refusal status 13 isn't refl thirteen), λ bad. absurd bad);
        backup_too_long = λ long. absurd long;
      }) digested.named;
      done = λ _. digested;
      file_fault = λ eight. absurd (no_refusal status 8 isn't refl eight);
      files_unchanged = λ _. same;
      read_fault = λ five. absurd (no_five five);
      reads_unchanged = λ _. inl reads;
      write_fault = write;
      writes_unchanged = writes;
    }

-- a run of `digest` beside a source that it leaves alone
pub beside_source : {V S K : Type 0} (calls : Calls V) (engine : V) (files : Option FilesContent) (image_name : List ℕ) (status : ℕ) (source : S) (left : Option (List ℕ)) (read_faults : ℕ) (sink sink' : K)
    (gained gained' : Option (List ℕ)) (file_faults file_faults' write_faults write_faults' : ℕ)
    → IsOutcome calls engine files (Some (Digest image_name)) status
    (record { source = tt {0}; sink = sink; streams = record { left = None; gained = gained }; file_faults = file_faults; read_faults = 0; write_faults = write_faults })
    (record { source = tt {0}; sink = sink'; streams = record { left = None; gained = gained' }; file_faults = file_faults'; read_faults = 0; write_faults = write_faults' })
    → IsOutcome calls engine files (Some (Digest image_name)) status
    (record { source = source; sink = sink; streams = record { left = left; gained = gained }; file_faults = file_faults; read_faults = read_faults; write_faults = write_faults })
    (record { source = source; sink = sink'; streams = record { left = left; gained = gained' }; file_faults = file_faults'; read_faults = read_faults; write_faults = write_faults' })
beside_source calls engine files image_name status source left read_faults sink sink' gained gained' file_faults file_faults' write_faults write_faults' outcome = record {
  usage = outcome.usage;
  untouched = λ is. (refl, (outcome.untouched is).1);
  source_stays = λ _ _ _. refl;
  suits = outcome.suits;
  done = outcome.done;
  file_fault = outcome.file_fault;
  files_unchanged = outcome.files_unchanged;
  read_fault = λ five. absurd (never (outcome.read_fault five));
  reads_unchanged = λ _. inl refl;
  write_fault = outcome.write_fault;
  writes_unchanged = outcome.writes_unchanged;
}
  where
    never : FaultCounted 0 0 → ⊥
    never h = omega arith

-- what follows from the keys of a name
pub keys_with : (files : FilesContent) (name : Option (List ℕ)) (keys : List ℕ) (status : ℕ) (out : List ℕ) (Follows : List ℕ → Type 0) → IsNamedFile files name keys → AreKeysOf name keys → Follows keys
    → WithKeys files name status out Follows
keys_with files None keys status out Follows is are follows = subst Follows is follows
keys_with files (Some name) keys status out Follows is are follows = (keys, is, inr (are, follows))

-- and from the backup of a name
pub backup_with : (files : FilesContent) (name : Option (List ℕ)) (backup : List ℕ) (status : ℕ) (out : List ℕ) (Follows : List ℕ → Type 0) → IsNamedFile files name backup → length backup ≤ BACKUP_MOST → Follows backup
    → WithBackup files name status out Follows
backup_with files None backup status out Follows is fits follows = subst Follows is follows
backup_with files (Some name) backup status out Follows is fits follows = inr (backup, is, fits, follows)

-- the program's output, where the backup is too long
backup_too_long : {V : Type 0} (calls : Calls V) (engine : V) (files : FilesContent) (work : Work) (names : NamesValue) (status : ℕ) (bytes : List ℕ) → status ≡ 15 → HasLongBackup files (Some (OnModule work names))
    → IsOutputOf calls engine (Some (OnModule work names)) files bytes status []
backup_too_long {V} calls engine files work names status bytes fifteen long =
    let (image, has_image, fits) = long.0 in
    let (text, has_text, (digest, spelled)) = long.1 in
    let Rest : List ℕ → Type 0 = λ digest. WithKeys files names.keys status [] (λ keys. WithBackup files names.backup status [] (λ backup. WorksOn work calls engine files names.noise bytes status [] image digest keys backup)) in
    let Spells : Option (List ℕ) → Type 0 = λ found. MatchOption found (IsRefused 11 status []) Rest in
    inr (
      image,
      has_image,
      fits,
      (
        text,
        has_text,
        subst Spells (sym spelled) (past_keys names.keys long.2 (λ keys. WithBackup files names.backup status [] (λ backup. WorksOn work calls engine files names.noise bytes status [] image digest keys backup))
            (λ keys. too_long names.backup long.3 _)),
      ),
    )
  where
    too_long : (name : Option (List ℕ)) → HasLongFile files name → (Follows : List ℕ → Type 0) → WithBackup files name status [] Follows
    too_long None h Follows = absurd h
    too_long (Some name) h Follows = inl (h, (fifteen, refl))

    past_keys : (name : Option (List ℕ)) → HasKeyFile files name → (Follows : List ℕ → Type 0) → ((keys : List ℕ) → Follows keys) → WithKeys files name status [] Follows
    past_keys None h Follows each = each []
    past_keys (Some name) (keys, has, are) Follows each = (keys, has, inr (are, each keys))

-- the program's output, where the work was done and no call failed
work_output : {V : Type 0} (calls : Calls V) (engine : V) (files : FilesContent) (of : Option FormValue) (status : ℕ) (bytes gained : List ℕ) (after : Streams)
    → IsWorkOf calls engine (Some files) of status (record { left = Some bytes; gained = Some gained }) after → status ≢ 5 → status ≢ 6
    → (out : List ℕ) × IsOutputOf calls engine of files bytes status out × (after.gained ≡ Some (gained ++ out))
work_output calls engine files None status bytes gained after done no_read no_write = absurd done
work_output {V} calls engine files (Some (OnModule work names)) status bytes gained after (inl worked) no_read no_write =
    let s = initial_state engine worked.image worked.digest in
    let made = work_of work worked.keys worked.backup calls s worked.events status worked.view bytes gained worked.left after worked.leaves no_read no_write in
    let Rest : List ℕ → Type 0 = λ digest. WithKeys files names.keys status made.0 (λ keys. WithBackup files names.backup status made.0 (λ backup. WorksOn work calls engine files names.noise bytes status made.0 worked.image digest keys backup)) in
    let Spells : Option (List ℕ) → Type 0 = λ found. MatchOption found (IsRefused 11 status made.0) Rest in
    let backups : WithBackup files names.backup status made.0 (λ backup. WorksOn work calls engine files names.noise bytes status made.0 worked.image worked.digest worked.keys backup) =
    backup_with files names.backup worked.backup status made.0 _ worked.named.0 worked.backup_fits (worked.events, worked.named.1, made.1) in
    let keyed : Rest worked.digest = keys_with files names.keys worked.keys status made.0 _ worked.loaded.named.2 worked.loaded.are_keys backups in (
      made.0,
      inr (worked.image, worked.loaded.named.0, worked.loaded.fits, (worked.text, worked.loaded.named.1, subst Spells (sym worked.loaded.spelled) keyed)),
      made.2,
    )
work_output calls engine files (Some (OnModule work names)) status bytes gained after (inr (long, same)) no_read no_write = (
  [],
  backup_too_long calls engine files work names status bytes long.0 long.1,
  ap (λ (x : Streams). x.gained) same ∙ ap (λ (xs : List ℕ). Some xs) (sym (append-nil gained)),
)
work_output calls engine files (Some (Digest image_name)) status bytes gained after digested no_read no_write =
    elim digested.written [
      | inl whole ↦ (digest_line calls engine digested.image, inr (digested.image, digested.named, digested.fits, (whole.0, refl)), whole.1)
      | inr part ↦ absurd (no_write part.0)
    ]
work_output calls engine files (Some Vectors) status bytes gained after (answer, last, is, reports) no_read no_write =
    let made = vectors_of calls answer CHUNK engine last bytes gained after reports (λ e. no_read (is ∙ ap report_status e)) (λ e. no_write (is ∙ ap report_status e)) in
    (made.0, (answer, is, made.1), made.2)
work_output calls engine files (Some Check) status bytes gained after (answer, is, checks) no_read no_write =
    let made = verdict_of answer CHUNK bytes gained after checks (λ e. no_read (is ∙ ap check_status e)) (λ e. no_write (is ∙ ap check_status e)) in
    (made.0, (answer, is, made.1), made.2)

-- the refusals that aren't a failed call or want of memory
refusals : (status : ℕ) → is_refusal status ≡ true → status ≢ 7 → status ≢ 8 → (status ≡ 2) ⊎ ((status ≡ 9) ⊎ ((status ≡ 11) ⊎ (status ≡ 13)))
refusals status is no_memory no_file = grind (arith)

-- the program's output, where its work didn't begin
refusal_output : {V : Type 0} (calls : Calls V) (engine : V) (files : FilesContent) (of : Option FormValue) (status : ℕ) (bytes : List ℕ) → (status ≡ 2) ⊎ ((status ≡ 9) ⊎ ((status ≡ 11) ⊎ (status ≡ 13)))
    → (status ≡ 2 → of ≡ None) → (status ≡ 9 → HasLongImage files of) → (status ≡ 11 → HasBadDigest files of) → (status ≡ 13 → HasBadKeys files of) → IsOutputOf calls engine of files bytes status []
refusal_output {V} calls engine files of status bytes why no_form long bad bad_key_file =
    let Out : Option FormValue → Type 0 = λ f. IsOutputOf calls engine f files bytes status [] in
    elim why [
      | inl two ↦ subst Out (sym (no_form two)) (two, refl)
      | inr others ↦ elim others [
        | inl nine ↦ long_output of (long nine) nine
        | inr more ↦ elim more [
          | inl eleven ↦ bad_output of (bad eleven) eleven
          | inr thirteen ↦ keys_output of (bad_key_file thirteen) thirteen
        ]
      ]
    ]
  where
    long_output : (f : Option FormValue) → HasLongImage files f → status ≡ 9 → IsOutputOf calls engine f files bytes status []
    long_output None h nine = absurd h
    long_output (Some (OnModule work names)) h nine = inl (h, (nine, refl))
    long_output (Some (Digest image_name)) h nine = inl (h, (nine, refl))
    long_output (Some Vectors) h nine = absurd h
    long_output (Some Check) h nine = absurd h

    bad_output : (f : Option FormValue) → HasBadDigest files f → status ≡ 11 → IsOutputOf calls engine f files bytes status []
    bad_output None h eleven = absurd h
    bad_output (Some (OnModule work names)) h eleven =
        let (image, has_image, fits) = h.0 in
        let (text, has_text, none) = h.1 in
        let Rest : List ℕ → Type 0 = λ digest. WithKeys files names.keys status [] (λ keys. WithBackup files names.backup status [] (λ backup. WorksOn work calls engine files names.noise bytes status [] image digest keys backup)) in
        let Spells : Option (List ℕ) → Type 0 = λ found. MatchOption found (IsRefused 11 status []) Rest in
        inr (image, has_image, fits, (text, has_text, subst Spells (sym none) (eleven, refl)))
    bad_output (Some (Digest image_name)) h eleven = absurd h
    bad_output (Some Vectors) h eleven = absurd h
    bad_output (Some Check) h eleven = absurd h

    keys_output : (f : Option FormValue) → HasBadKeys files f → status ≡ 13 → IsOutputOf calls engine f files bytes status []
    keys_output None h thirteen = absurd h
    keys_output (Some (OnModule work names)) h thirteen =
        let (image, has_image, fits) = h.0 in
        let (text, has_text, (digest, spelled)) = h.1 in
        let Rest : List ℕ → Type 0 = λ digest. WithKeys files names.keys status [] (λ keys. WithBackup files names.backup status [] (λ backup. WorksOn work calls engine files names.noise bytes status [] image digest keys backup)) in
        let Spells : Option (List ℕ) → Type 0 = λ found. MatchOption found (IsRefused 11 status []) Rest in
        inr (image, has_image, fits, (text, has_text, subst Spells (sym spelled) (no_keys names.keys h.2 _)))
      where
        no_keys : (name : Option (List ℕ)) → HasNoKeyFile files name → (Follows : List ℕ → Type 0) → WithKeys files name status [] Follows
        no_keys None none Follows = absurd none
        no_keys (Some name) (keys, has, short) Follows = (keys, has, inl (short, (thirteen, refl)))
    keys_output (Some (Digest image_name)) h thirteen = absurd h
    keys_output (Some Vectors) h thirteen = absurd h
    keys_output (Some Check) h thirteen = absurd h

-- the program's output, from what a run leaves
pub program_output : {V S K : Type 0} (calls : Calls V) (engine : V) (files : FilesContent) (of : Option FormValue) (status : ℕ) (before after : Outside S K) (bytes gained : List ℕ)
    → IsOutcome calls engine (Some files) of status before after → before.streams ≡ record { left = Some bytes; gained = Some gained }
    → (after.sink ≡ before.sink → after.streams.gained ≡ before.streams.gained) → status ≢ 5 → status ≢ 6 → status ≢ 7 → status ≢ 8
    → (out : List ℕ) × IsOutputOf calls engine of files bytes status out × (after.streams.gained ≡ Some (gained ++ out))
program_output {V} calls engine files of status before after bytes gained outcome tells stays no_read no_write no_memory no_file = by (is_refusal status) refl
  where
    by : (is : Bool) → is_refusal status ≡ is → (out : List ℕ) × IsOutputOf calls engine of files bytes status out × (after.streams.gained ≡ Some (gained ++ out))
    by true is = (
      [],
      refusal_output calls engine files of status bytes (refusals status is no_memory no_file) outcome.usage.0 (outcome.suits no_memory no_file).image_too_long.0 (outcome.suits no_memory no_file).bad_digest.0
          (outcome.suits no_memory no_file).bad_keys.0,
      stays (outcome.untouched (inl is)).1 ∙ ap (λ (s : Streams). s.gained) tells ∙ ap Some (sym (append-nil gained)),
    )
    by false isn't =
        let Work : Streams → Type 0 = λ s. IsWorkOf calls engine (Some files) of status s after.streams in
        work_output calls engine files of status bytes gained after.streams (subst Work tells (outcome.done isn't)) no_read no_write
