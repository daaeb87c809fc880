-- What the program answers to its words, its files and its input, and what it writes.
use Rattle.std.specs.Prelude.{◌≡◌, ◌≢◌, ◌≤◌, ◌++◌, ◌⊎◌, ℕ, List, [], ◌∷◌, Option, Some, None, MatchOption, length}
use Rattle.hex.specs.Hex.{encode_lower}
use Rattle.engine_core.specs.Calls.{Calls}
use Rattle.outside.specs.declared.traits.Sample.{Sample}
use Rattle.outside.specs.FilesContent.{FilesContent, HasFile, HasFileAbove, first_named}
use Rattle.self_tests.specs.Integrity.{image_digest}
use Rattle.state_model.specs.MachineState.{initial_state}
use Rattle.transcript_report.specs.declared.checking.Checked.{Checked}
use Rattle.transcript_report.specs.declared.checking.Checked.TheVariants as checked
use Rattle.transcript_report.specs.Verdicts.{IsVerdict}
use Rattle.vector_reports.specs.declared.reporting.Reported.{Reported}
use Rattle.vector_reports.specs.declared.reporting.Reported.TheVariants as reported
use Rattle.vector_reports.specs.Runs.{RunsVectors}
use Rattle.vault_backup.specs.declared.limits.TheConstants.{BACKUP_MOST}
use Rattle.backup_runs.specs.TwoKeys.{AreKeys}
use Rattle.backup_runs.specs.declared.limits.TheConstants.{KEYS_LENGTH}
use Rattle.program_words.specs.declared.words.Work.{Work}
use Rattle.program_words.specs.DigestFile.{digest_of}
use Rattle.program_words.specs.Forms.{FormValue, OnModule, Digest, Vectors, Check, form_of}
use Rattle.module_works.specs.Works.{RunsWork}
use Rattle.module_top.specs.declared.limits.TheConstants.{LARGEST_IMAGE}

-- the exit status for how a report ended
abbrev pub report_status : Reported → ℕ
report_status reported.AllPassed = 0
report_status reported.SomeFailed = 1
report_status reported.ReadFault = 5
report_status reported.WriteFault = 6
report_status (reported.BadLine number) = 10
report_status reported.Limit = 12

-- the exit status for how a transcript was checked
abbrev pub check_status : Checked → ℕ
check_status checked.Lawful = 0
check_status (checked.BadFrame place) = 3
check_status checked.Truncated = 4
check_status checked.ReadFault = 5
check_status checked.WriteFault = 6
check_status checked.Limit = 12
check_status (checked.Unlawful number) = 16

-- the line of an image's digest: 64 lower-case hex digits and an LF
abbrev pub digest_line : {V : Type 0} → Calls V → V → (image : List ℕ) → List ℕ
digest_line calls engine image = encode_lower (image_digest calls engine image) ++ 10 ∷ []

-- nothing is written, and the status says why
abbrev pub IsRefused : (reason status : ℕ) (out : List ℕ) → Type 0
IsRefused reason status out = (status ≡ reason) × (out ≡ [])

-- the file of this name has more bytes than so many, or it hasn't and something follows from its bytes
abbrev pub WithFile : (limit reason : ℕ) → FilesContent → (name : List ℕ) (status : ℕ) (out : List ℕ) → (List ℕ → Type 0) → Type 0
WithFile limit reason files name status out Follows =
    (HasFileAbove files name limit × IsRefused reason status out) ⊎ ((bytes : List ℕ) × HasFile files name bytes × (length bytes ≤ limit) × Follows bytes)

-- the image of this name is too long, or it isn't and something follows from its bytes
abbrev pub WithImage : FilesContent → (name : List ℕ) (status : ℕ) (out : List ℕ) → (List ℕ → Type 0) → Type 0
WithImage files name status out Follows = WithFile LARGEST_IMAGE 9 files name status out Follows

-- the digest file of this name isn't of its form, or it is and something follows from the digest that it spells
abbrev pub WithDigest : FilesContent → (name : List ℕ) (status : ℕ) (out : List ℕ) → (List ℕ → Type 0) → Type 0
WithDigest files name status out Follows = (text : List ℕ) × HasFile files name text × MatchOption (digest_of text) (IsRefused 11 status out) Follows

-- where there is a name, the file of this name isn't of two keys, or it is and something follows from them; and without a name from none
abbrev pub WithKeys : FilesContent → (name : Option (List ℕ)) (status : ℕ) (out : List ℕ) → (List ℕ → Type 0) → Type 0
WithKeys files None status out Follows = Follows []
WithKeys files (Some name) status out Follows =
    (keys : List ℕ) × HasFile files name keys × (((length keys ≢ KEYS_LENGTH) × IsRefused 13 status out) ⊎ (AreKeys keys × Follows keys))

-- where there is a name, the backup of this name is too long, or it isn't and something follows from its bytes; and without a name from none
abbrev pub WithBackup : FilesContent → (name : Option (List ℕ)) (status : ℕ) (out : List ℕ) → (List ℕ → Type 0) → Type 0
WithBackup files None status out Follows = Follows []
WithBackup files (Some name) status out Follows = WithFile BACKUP_MOST 15 files name status out Follows

-- these are the events of noise that stand under this name
abbrev pub HasNoise : FilesContent → (name : List ℕ) → List Sample → Type 0
HasNoise files name events = first_named name files.noises ≡ Some events

-- a work on the module with these files is done, with the events of noise that stand under a name
abbrev pub WorksOn : {V : Type 0} → Work → Calls V → V → FilesContent → (noise : List ℕ) (bytes : List ℕ) (status : ℕ) (out : List ℕ) → (image digest keys backup : List ℕ) → Type 0
WorksOn work calls engine files noise bytes status out image digest keys backup =
    (events : List Sample) × HasNoise files noise events × RunsWork work keys backup calls (initial_state engine image digest) events bytes status out

-- What the words do, by their form: image, digest file, keys, backup and noise are looked at in this order, and then the work is done.
abbrev pub IsOutputOf : {V : Type 0} → Calls V → V → Option FormValue → FilesContent → List ℕ → ℕ → List ℕ → Type 0
IsOutputOf calls engine None files bytes status out = IsRefused 2 status out
IsOutputOf calls engine (Some (OnModule work names)) files bytes status out =
    WithImage files names.image status out (λ image.
    WithDigest files names.digest status out (λ digest.
    WithKeys files names.keys status out (λ keys.
    WithBackup files names.backup status out (λ backup.
    WorksOn work calls engine files names.noise bytes status out image digest keys backup))))
IsOutputOf calls engine (Some (Digest image_name)) files bytes status out =
    WithImage files image_name status out (λ image. (status ≡ 0) × (out ≡ digest_line calls engine image))
IsOutputOf calls engine (Some Vectors) files bytes status out = (answer : Reported) × (status ≡ report_status answer) × RunsVectors calls engine bytes answer out
IsOutputOf calls engine (Some Check) files bytes status out = (answer : Checked) × (status ≡ check_status answer) × IsVerdict bytes answer out

-- The status and the written bytes, with an engine, for words, files and input, where no call fails and memory is found.
abbrev pub IsProgramOutput : {V : Type 0} → Calls V → V → List (List ℕ) → FilesContent → List ℕ → ℕ → List ℕ → Type 0
IsProgramOutput calls engine words files bytes status out = IsOutputOf calls engine (form_of words) files bytes status out

-- for an engine, words, files and input there is one status and one output
abbrev pub HasOneOutput : {V : Type 0} → Calls V → Type 0
HasOneOutput {V} calls = (engine : V) (words : List (List ℕ)) (files : FilesContent) (bytes : List ℕ) (status status' : ℕ) (out out' : List ℕ)
    → IsProgramOutput calls engine words files bytes status out → IsProgramOutput calls engine words files bytes status' out' → (status ≡ status') × (out ≡ out')
