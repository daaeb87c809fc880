-- What a run tells of the secrets that are entered in it.
use Rattle.std.specs.Prelude.{◌≡◌, ◌≢◌, ◌++◌, ℕ, List, [], Option, Some, None, take, false}
use Rattle.outside.specs.FilesContent.{FilesContent, HasFile}
use Rattle.outside.specs.declared.traits.Sample.{Sample}
use Rattle.engine_core.specs.Calls.{Calls}
use Rattle.module_frames.specs.ReplyFrames.{ReplyFrame}
use Rattle.state_model.specs.MachineState.{MachineState, initial_state}
use Rattle.information_flow.specs.Tainted.{untainted}
use Rattle.information_flow.specs.Variants.{CommandPair}
use Rattle.information_flow.specs.Flow.{RunsAgree}
use Rattle.information_flow.specs.OneCommand.{AllCommitInto, TreeHoldsTaint}
use Rattle.stream_calls.specs.declared.limits.TheConstants.{STREAM_MAX}
use Rattle.command_serving.specs.FrameGrammar.{frame_grammar}
use Rattle.command_serving.specs.Run.{encoded_replies}
use Rattle.command_serving.specs.Secrets.{AreVariantStreams}
use Rattle.line_serving.specs.LineGrammar.{line_grammar}
use Rattle.line_serving.specs.LineSecrets.{AreVariantLines}
use Rattle.backup_runs.specs.Restoring.{BeginsRestored}
use Rattle.program_words.specs.declared.words.Work.{Work}
use Rattle.program_words.specs.declared.words.Work.TheVariants as work
use Rattle.program_words.specs.DigestFile.{digest_of}
use Rattle.program_words.specs.Faults.{is_refusal}
use Rattle.program_words.specs.Forms.{FormValue, NamesValue, OnModule, Digest, Vectors, Check}
use Rattle.module_top.specs.Outcomes.{IsNamedFile}
use Rattle.module_top.specs.Program.{HasNoise, IsProgramOutput}

-- Other input for a work differs from this in secrets alone, along the run from s. Of frames at most the first 2^40 bytes are read; a session
-- has no input, and of a backup's bytes nothing is promised.
abbrev pub AreVariants : {V : Type 0} → Work → Calls V → MachineState V → List Sample → (bytes other : List ℕ) → List CommandPair → Type 0
AreVariants work.Serve calls s events bytes other pairs =
    (remainder : List ℕ) × AreVariantStreams frame_grammar calls s events (take STREAM_MAX bytes) (take STREAM_MAX other) pairs remainder
AreVariants work.Operate calls s events bytes other pairs = AreVariantLines calls s events bytes other pairs
AreVariants (work.Session seed count) calls s events bytes other pairs = ⊥
AreVariants work.Backup calls s events bytes other pairs = ⊥
AreVariants work.Restore calls s events bytes other pairs = AreVariantLines calls s events bytes other pairs

-- the bytes of replies, as a work writes them
abbrev pub written_replies : Work → List ReplyFrame → List ℕ
written_replies work.Serve replies = encoded_replies frame_grammar replies
written_replies work.Operate replies = encoded_replies line_grammar replies
written_replies (work.Session seed count) replies = []
written_replies work.Backup replies = []
written_replies work.Restore replies = encoded_replies line_grammar replies

-- A work on a module that has s, with these events of noise, begins to read commands in t, with those left: with keys and backup of these bytes, where it
-- has them.
abbrev pub Begins : {V : Type 0} → Work → (keys backup : List ℕ) → Calls V → (s : MachineState V) → (events : List Sample) → (t : MachineState V) → (left : List Sample) → Type 0
Begins work.Serve keys backup calls s events t left = (t ≡ s) × (left ≡ events)
Begins work.Operate keys backup calls s events t left = (t ≡ s) × (left ≡ events)
Begins (work.Session seed count) keys backup calls s events t left = (t ≡ s) × (left ≡ events)
Begins work.Backup keys backup calls s events t left = (t ≡ s) × (left ≡ events)
Begins work.Restore keys backup calls s events t left = BeginsRestored calls keys backup s events t left

-- These are image, digest, keys, backup and noise that stand under the names.
pub record AreNamed (files : FilesContent) (names : NamesValue) (image digest keys backup : List ℕ) (events : List Sample) : Type 0 where
  pub has_image : HasFile files names.image image
  pub text : List ℕ
  pub has_digest : HasFile files names.digest text
  pub spelled : digest_of text ≡ Some digest
  pub has_keys : IsNamedFile files names.keys keys
  pub has_backup : IsNamedFile files names.backup backup
  pub has_noise : HasNoise files names.noise events

-- The output for other input that differs from this in secrets alone: the status is the same, the replies agree, and so does what is written
-- behind them.
pub record OutputsAlike {V : Type 0} (work : Work) (calls : Calls V) (engine : V) (words : List (List ℕ)) (files : FilesContent) (s : MachineState V) (events : List Sample) (other : List ℕ) (pairs : List CommandPair) (status : ℕ)
    (out : List ℕ) : Type 0 where
  pub replies : List ReplyFrame
  pub end : List ℕ
  pub written : out ≡ written_replies work replies ++ end
  pub others : List ReplyFrame
  pub output : IsProgramOutput calls engine words files other status (written_replies work others ++ end)
  pub agree : RunsAgree calls untainted s s events pairs replies others
  pub one_command : (k : ℕ) → AllCommitInto calls k untainted s events pairs → TreeHoldsTaint calls k untainted s s events pairs

-- What is promised of a work on the module with files of these names: from where it begins to read commands, for any other input that differs from
-- this in secrets alone the status is the same, and the replies agree.
abbrev pub WorkKeepsSecrets : {V : Type 0} → Work → Calls V → V → (words : List (List ℕ)) → FilesContent → NamesValue → (bytes : List ℕ) → (status : ℕ) → (out : List ℕ) → Type 0
WorkKeepsSecrets {V} work calls engine words files names bytes status out =
    (image : List ℕ) × (digest : List ℕ) × (keys : List ℕ) × (backup : List ℕ) × (events : List Sample) × AreNamed files names image digest keys backup events
    × ((t : MachineState V) (left : List Sample) → Begins work keys backup calls (initial_state engine image digest) events t left
    → (other : List ℕ) (pairs : List CommandPair) → AreVariants work calls t left bytes other pairs → OutputsAlike work calls engine words files t left other pairs status out)

-- A run on a module keeps its secrets, where it isn't refused and no backup is. `digest`, `vectors` and `check` have none.
abbrev pub OutputKeepsSecrets : {V : Type 0} → Calls V → V → List (List ℕ) → Option FormValue → FilesContent → List ℕ → ℕ → List ℕ → Type 0
OutputKeepsSecrets calls engine words None files bytes status out = Unit {0}
OutputKeepsSecrets calls engine words (Some (OnModule work names)) files bytes status out =
    is_refusal status ≡ false → status ≢ 15 → WorkKeepsSecrets work calls engine words files names bytes status out
OutputKeepsSecrets calls engine words (Some (Digest image_name)) files bytes status out = Unit {0}
OutputKeepsSecrets calls engine words (Some Vectors) files bytes status out = Unit {0}
OutputKeepsSecrets calls engine words (Some Check) files bytes status out = Unit {0}
