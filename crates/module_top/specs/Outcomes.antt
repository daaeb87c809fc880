-- What a run of the program leaves, whatever its files and its streams tell.
use Rattle.std.specs.Prelude.{◌≡◌, ◌≢◌, ◌≤◌, ◌↔◌, ◌⊎◌, ◌==◌, ◌||◌, ℕ, Bool, true, false, List, [], Option, Some, None, IfSome, length}
use Rattle.engine_core.specs.Calls.{Calls}
use Rattle.outside.specs.Explained.{Explained}
use Rattle.outside.specs.Faults.{FaultCounted}
use Rattle.outside.specs.FilesContent.{FilesContent, HasFile, HasFileAbove}
use Rattle.outside.specs.declared.traits.Sample.{Sample}
use Rattle.stream_calls.specs.declared.limits.TheConstants.{CHUNK}
use Rattle.stream_calls.specs.Streams.{Streams}
use Rattle.transcript_report.specs.declared.checking.Checked.{Checked}
use Rattle.transcript_report.specs.Checks.{Checks}
use Rattle.vector_reports.specs.declared.reporting.Reported.{Reported}
use Rattle.vector_reports.specs.Reporting.{Reports}
use Rattle.state_model.specs.ModuleView.{ModuleView}
use Rattle.state_model.specs.MachineState.{MachineState, initial_state}
use Rattle.vault_backup.specs.declared.limits.TheConstants.{BACKUP_MOST}
use Rattle.backup_runs.specs.TwoKeys.{AreKeys}
use Rattle.backup_runs.specs.declared.limits.TheConstants.{KEYS_LENGTH}
use Rattle.program_words.specs.declared.faults.RunFault.{RunFault}
use Rattle.program_words.specs.declared.faults.RunFault.TheVariants as fault
use Rattle.program_words.specs.declared.words.Work.{Work}
use Rattle.program_words.specs.DigestFile.{digest_of}
use Rattle.program_words.specs.Faults.{is_refusal}
use Rattle.program_words.specs.Forms.{FormValue, NamesValue, OnModule, Digest, Vectors, Check}
use Rattle.module_works.specs.Works.{LeavesWork, WritesText}
use Rattle.module_works.specs.WorkOutcomes.{work_reads}
use Rattle.module_top.specs.declared.limits.TheConstants.{LARGEST_IMAGE}
use Rattle.module_top.specs.Program.{check_status, report_status, digest_line, HasNoise}

abbrev pub reads_source : FormValue → Bool
reads_source (OnModule work names) = work_reads work
reads_source (Digest image) = false
reads_source Vectors = true
reads_source Check = true

-- the image that the words name is too long
abbrev pub HasLongImage : FilesContent → Option FormValue → Type 0
HasLongImage files None = ⊥
HasLongImage files (Some (OnModule work names)) = HasFileAbove files names.image LARGEST_IMAGE
HasLongImage files (Some (Digest image)) = HasFileAbove files image LARGEST_IMAGE
HasLongImage files (Some Vectors) = ⊥
HasLongImage files (Some Check) = ⊥

-- the image of this name isn't too long
abbrev pub HasImage : FilesContent → (name : List ℕ) → Type 0
HasImage files name = (image : List ℕ) × HasFile files name image × (length image ≤ LARGEST_IMAGE)

-- the digest file of this name is of its form, or isn't
abbrev pub HasDigest : FilesContent → (name : List ℕ) → Type 0
HasDigest files name = (text : List ℕ) × HasFile files name text × ((digest : List ℕ) × (digest_of text ≡ Some digest))

abbrev pub HasNoDigest : FilesContent → (name : List ℕ) → Type 0
HasNoDigest files name = (text : List ℕ) × HasFile files name text × (digest_of text ≡ None)

-- where there is a name, the file of this name is of two keys, or isn't
abbrev pub HasKeyFile : FilesContent → (name : Option (List ℕ)) → Type 0
HasKeyFile files None = Unit {0}
HasKeyFile files (Some name) = (keys : List ℕ) × HasFile files name keys × AreKeys keys

abbrev pub HasNoKeyFile : FilesContent → (name : Option (List ℕ)) → Type 0
HasNoKeyFile files None = ⊥
HasNoKeyFile files (Some name) = (keys : List ℕ) × HasFile files name keys × (length keys ≢ KEYS_LENGTH)

-- where there is a name, the backup of this name is too long
abbrev pub HasLongFile : FilesContent → (name : Option (List ℕ)) → Type 0
HasLongFile files None = ⊥
HasLongFile files (Some name) = HasFileAbove files name BACKUP_MOST

-- the image that the words name isn't too long, and the digest file isn't of its form
abbrev pub HasBadDigest : FilesContent → Option FormValue → Type 0
HasBadDigest files None = ⊥
HasBadDigest files (Some (OnModule work names)) = HasImage files names.image × HasNoDigest files names.digest
HasBadDigest files (Some (Digest image)) = ⊥
HasBadDigest files (Some Vectors) = ⊥
HasBadDigest files (Some Check) = ⊥

-- image and digest file are as they are to be, and the key file isn't
abbrev pub HasBadKeys : FilesContent → Option FormValue → Type 0
HasBadKeys files None = ⊥
HasBadKeys files (Some (OnModule work names)) = HasImage files names.image × HasDigest files names.digest × HasNoKeyFile files names.keys
HasBadKeys files (Some (Digest image)) = ⊥
HasBadKeys files (Some Vectors) = ⊥
HasBadKeys files (Some Check) = ⊥

-- image, digest file and key file are as they are to be, and the backup is too long
abbrev pub HasLongBackup : FilesContent → Option FormValue → Type 0
HasLongBackup files None = ⊥
HasLongBackup files (Some (OnModule work names)) = HasImage files names.image × HasDigest files names.digest × HasKeyFile files names.keys × HasLongFile files names.backup
HasLongBackup files (Some (Digest image)) = ⊥
HasLongBackup files (Some Vectors) = ⊥
HasLongBackup files (Some Check) = ⊥

-- where files tell, the status 9, 11 or 13 comes exactly where image, digest file or key file isn't as it is to be, and 15 where the backup is too long (and
-- where it is refused), but where a call on the files failed or memory wasn't found
pub record SuitsFiles (status : ℕ) (of : Option FormValue) (files : FilesContent) : Type 0 where
  pub image_too_long : (status ≡ 9) ↔ HasLongImage files of
  pub bad_digest : (status ≡ 11) ↔ HasBadDigest files of
  pub bad_keys : (status ≡ 13) ↔ HasBadKeys files of
  pub backup_too_long : HasLongBackup files of → status ≡ 15

-- where there is a name, these are the bytes of its file; and without a name there are none
abbrev pub IsNamedFile : FilesContent → (name : Option (List ℕ)) → List ℕ → Type 0
IsNamedFile files None bytes = bytes ≡ []
IsNamedFile files (Some name) bytes = HasFile files name bytes

-- where there is a name, these are two keys; and without a name there are none
abbrev pub AreKeysOf : (name : Option (List ℕ)) → List ℕ → Type 0
AreKeysOf None keys = keys ≡ []
AreKeysOf (Some name) keys = AreKeys keys

-- Image, digest and keys were loaded, and are as they are to be. Where the files tell, they are those of the names.
pub record AreLoaded (files : Option FilesContent) (names : NamesValue) (image text digest keys : List ℕ) : Type 0 where
  pub fits : length image ≤ LARGEST_IMAGE
  pub spelled : digest_of text ≡ Some digest
  pub are_keys : AreKeysOf names.keys keys
  pub named : IfSome files (λ all. HasFile all names.image image × HasFile all names.digest text × IsNamedFile all names.keys keys)

-- The work was done on a module with the image, digest, keys, backup and noise that were loaded. Where the files tell, they are those of the names.
pub record IsWorkedOn {V : Type 0} (work : Work) (calls : Calls V) (engine : V) (files : Option FilesContent) (names : NamesValue) (status : ℕ) (before after : Streams) : Type 0 where
  pub image : List ℕ
  pub text : List ℕ
  pub digest : List ℕ
  pub keys : List ℕ
  pub backup : List ℕ
  pub events : List Sample
  pub left : List Sample
  pub view : ModuleView V
  pub loaded : AreLoaded files names image text digest keys
  pub backup_fits : length backup ≤ BACKUP_MOST
  pub named : IfSome files (λ all. IsNamedFile all names.backup backup × HasNoise all names.noise events)
  pub leaves : LeavesWork work keys backup calls status (initial_state engine image digest) view before after events left

-- The line of the digest of the image that was loaded was written, or up to a failed write a part of it.
pub record IsDigested {V : Type 0} (calls : Calls V) (engine : V) (files : Option FilesContent) (image_name : List ℕ) (status : ℕ) (before after : Option (List ℕ)) : Type 0 where
  pub image : List ℕ
  pub fits : length image ≤ LARGEST_IMAGE
  pub named : IfSome files (λ all. HasFile all image_name image)
  pub written : WritesText (digest_line calls engine image) status before after

-- the backup that the words name was too long, where the files tell
abbrev pub IsTooLong : Option FilesContent → Option FormValue → (status : ℕ) → Type 0
IsTooLong files of status = (status ≡ 15) × IfSome files (λ all. HasLongBackup all of)

-- the work of a form was done, or up to a failed call a part of it; or the backup was too long
abbrev pub IsWorkOf : {V : Type 0} → Calls V → V → Option FilesContent → Option FormValue → ℕ → Streams → Streams → Type 0
IsWorkOf calls engine files None status before after = ⊥
IsWorkOf calls engine files (Some (OnModule work names)) status before after =
    IsWorkedOn work calls engine files names status before after ⊎ (IsTooLong files (Some (OnModule work names)) status × (after ≡ before))
IsWorkOf calls engine files (Some (Digest image)) status before after = IsDigested calls engine files image status before.gained after.gained
IsWorkOf {V} calls engine files (Some Vectors) status before after =
    (answer : Reported) × (last : V) × (status ≡ report_status answer) × Reports calls answer CHUNK engine last before after
IsWorkOf calls engine files (Some Check) status before after = (answer : Checked) × (status ≡ check_status answer) × Checks answer CHUNK before after

-- the reads that failed are those of before, but where a failed write of a report came after a failed read
abbrev pub ReadsStay : Option FormValue → (status before after : ℕ) → Type 0
ReadsStay of status before after = (after ≡ before) ⊎ ((of ≡ Some Vectors) × (status ≡ 6) × FaultCounted before after)

-- what a run meets: its source and its sink, what they tell, and how many calls failed
pub record Outside (S K : Type 0) : Type 0 where
  pub source : S
  pub sink : K
  pub streams : Streams
  pub file_faults : ℕ
  pub read_faults : ℕ
  pub write_faults : ℕ

-- all that is promised of a run, by the form of its words
pub record IsOutcome {V S K : Type 0} (calls : Calls V) (engine : V) (files : Option FilesContent) (of : Option FormValue) (status : ℕ) (before after : Outside S K) : Type 0 where
  pub usage : (status ≡ 2) ↔ (of ≡ None)
  pub untouched : (is_refusal status ≡ true) ⊎ (status ≡ 15) → (after.source ≡ before.source) × (after.sink ≡ before.sink)
  pub source_stays : (form : FormValue) → of ≡ Some form → reads_source form ≡ false → after.source ≡ before.source
  pub suits : IfSome files (λ all. status ≢ 7 → status ≢ 8 → SuitsFiles status of all)
  pub done : is_refusal status ≡ false → IsWorkOf calls engine files of status before.streams after.streams
  pub file_fault : status ≡ 8 → FaultCounted before.file_faults after.file_faults
  pub files_unchanged : status ≢ 8 → after.file_faults ≡ before.file_faults
  pub read_fault : status ≡ 5 → FaultCounted before.read_faults after.read_faults
  pub reads_unchanged : status ≢ 5 → ReadsStay of status before.read_faults after.read_faults
  pub write_fault : status ≡ 6 → FaultCounted before.write_faults after.write_faults
  pub writes_unchanged : status ≢ 6 → after.write_faults ≡ before.write_faults

-- why the file of this name wasn't loaded, of which something is refused for a reason: that is so, its call failed, or there was no memory
abbrev pub FileRefused : (refused : RunFault) → (FilesContent → Type 0) → Option FilesContent → RunFault → (faults faults' : ℕ) → Type 0
FileRefused refused Is files reason faults faults' =
    ((reason ≡ refused) × IfSome files Is × (faults' ≡ faults)) ⊎ ((reason ≡ fault.FileFailed) × FaultCounted faults faults') ⊎ ((reason ≡ fault.OutOfMemory) × (faults' ≡ faults))

-- why the image of this name wasn't loaded: it is too long, its call failed, or there was no memory
abbrev pub ImageRefused : Option FilesContent → (name : List ℕ) → RunFault → (faults faults' : ℕ) → Type 0
ImageRefused files name reason faults faults' = FileRefused fault.ImageTooLong (λ all. HasFileAbove all name LARGEST_IMAGE) files reason faults faults'

-- why the file of this name gave no digest: it isn't of the form, its call failed, or there was no memory
abbrev pub DigestRefused : Option FilesContent → (name : List ℕ) → RunFault → (faults faults' : ℕ) → Type 0
DigestRefused files name reason faults faults' = FileRefused fault.BadDigest (λ all. HasNoDigest all name) files reason faults faults'

-- why the file of this name gave no keys: it hasn't 64 bytes, its call failed, or there was no memory
abbrev pub KeysRefused : Option FilesContent → (name : Option (List ℕ)) → RunFault → (faults faults' : ℕ) → Type 0
KeysRefused files name reason faults faults' = FileRefused fault.BadKeyFile (λ all. HasNoKeyFile all name) files reason faults faults'

-- why the backup of this name wasn't loaded: it is too long, its call failed, or there was no memory
abbrev pub BackupRefused : Option FilesContent → (name : Option (List ℕ)) → RunFault → (faults faults' : ℕ) → Type 0
BackupRefused files name reason faults faults' = FileRefused fault.BadBackup (λ all. HasLongFile all name) files reason faults faults'
