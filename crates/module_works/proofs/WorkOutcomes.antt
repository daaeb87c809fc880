-- What a work leaves, by where it ended.
use Rattle.std.proofs.Common.{◌≡◌, ◌≢◌, inl, inr, ℕ, Option, None, Bool, true, false, List, refl, sym, ◌∙◌, ap, subst, arith}
use Rattle.std.specs.Prelude.{◌⊎◌, Result, Ok, Err, OnOk, OnErr}
use Rattle.outside.specs.Contents.{Appends}
use Rattle.outside.specs.Faults.{FaultCounted}
use Rattle.outside.specs.Explained.{Explained}
use Rattle.outside.specs.declared.traits.Sample.{Sample}
use Rattle.outside.proofs.Explanations.{explained_by}
use Rattle.engine_core.specs.Calls.{Calls}
use Rattle.module_frames.specs.CommandFrames.{CommandFrame}
use Rattle.session_commands.specs.SessionCommands.{session_commands}
use Rattle.session_runs.specs.SessionRuns.{RunsSession}
use Rattle.session_runs.specs.Summaries.{summary}
use Rattle.state_model.specs.Represents.{Represents}
use Rattle.stream_calls.specs.PartialWrites.{AppendsPart}
use Rattle.state_model.specs.ModuleView.{ModuleView}
use Rattle.state_model.specs.MachineState.{MachineState}
use Rattle.stream_calls.specs.declared.limits.TheConstants.{CHUNK}
use Rattle.command_serving.specs.declared.serving.Ended.{Ended}
use Rattle.command_serving.specs.declared.serving.Ended.TheVariants as ended
use Rattle.command_serving.specs.FrameGrammar.{frame_grammar}
use Rattle.command_serving.specs.Serving.{Serves}
use Rattle.line_serving.specs.declared.operating.Operated.{Operated}
use Rattle.line_serving.specs.declared.operating.Operated.TheVariants as operated
use Rattle.line_serving.specs.Operating.{Operates}
use Rattle.program_words.specs.declared.words.Work.{Work}
use Rattle.program_words.specs.declared.words.Work.TheVariants as work
use Rattle.program_words.specs.Faults.{is_refusal}
use Rattle.module_works.specs.WorkOutcomes.{Met, IsWorkOutcome}
use Rattle.backup_runs.specs.declared.backing_up.BackedUp.{BackedUp}
use Rattle.backup_runs.specs.declared.backing_up.BackedUp.TheVariants as backed_up
use Rattle.backup_runs.specs.declared.restoring.Restored.{Restored}
use Rattle.backup_runs.specs.declared.restoring.Restored.TheVariants as restored
use Rattle.backup_runs.specs.BackingUp.{BacksUp}
use Rattle.backup_runs.specs.TwoKeys.{AreKeys}
use Rattle.backup_runs.specs.Restoring.{RestoresAndOperates}
use Rattle.module_works.specs.Works.{backup_status, exit_status, line_status, restored_status, written_status, SessionRun}

-- there was no memory
pub no_work : {V S K : Type 0} (w : Work) (keys backup : List ℕ) (calls : Calls V) (s : MachineState V) (noise noise' : Option (List Sample)) (before : Met S K) → IsWorkOutcome w keys backup calls s noise noise' 7 before before
no_work w keys backup calls s noise noise' before = record {
  only_memory = λ _. refl;
  untouched = λ _. (refl, refl);
  worked = λ other. absurd (other refl);
  source_stays = λ _. refl;
  read_fault = λ e. omega arith;
  reads_unchanged = λ _. refl;
  write_fault = λ e. omega arith;
  writes_unchanged = λ _. refl;
}

-- a work that reads no source, beside one that it leaves alone
pub beside_no_source : {V S K : Type 0} (seed count : ℕ) (keys backup keys' backup' : List ℕ) (calls : Calls V) (s : MachineState V) (noise noise' : Option (List Sample)) (status : ℕ) (source : S) (left : Option (List ℕ)) (read_faults : ℕ) (sink sink' : K)
    (gained gained' : Option (List ℕ)) (write_faults write_faults' : ℕ)
    → IsWorkOutcome (work.Session seed count) keys backup calls s noise noise' status
    (record { source = tt {0}; sink = sink; streams = record { left = None; gained = gained }; read_faults = 0; write_faults = write_faults })
    (record { source = tt {0}; sink = sink'; streams = record { left = None; gained = gained' }; read_faults = 0; write_faults = write_faults' })
    → IsWorkOutcome (work.Session seed count) keys' backup' calls s noise noise' status
    (record { source = source; sink = sink; streams = record { left = left; gained = gained }; read_faults = read_faults; write_faults = write_faults })
    (record { source = source; sink = sink'; streams = record { left = left; gained = gained' }; read_faults = read_faults; write_faults = write_faults' })
beside_no_source seed count keys backup keys' backup' calls s noise noise' status source left read_faults sink sink' gained gained' write_faults write_faults' outcome = record {
  only_memory = outcome.only_memory;
  untouched = λ stops. (refl, (outcome.untouched stops).1);
  worked = outcome.worked;
  source_stays = λ _. refl;
  read_fault = λ five. absurd (never (outcome.read_fault five));
  reads_unchanged = λ _. refl;
  write_fault = outcome.write_fault;
  writes_unchanged = outcome.writes_unchanged;
}
  where
    never : FaultCounted 0 0 → ⊥
    never h = omega arith

-- a work that began, and refused no backup
not_stopped : (status : ℕ) → is_refusal status ≡ false → (status ≡ 15 → ⊥) → (status ≡ 7) ⊎ (status ≡ 15) → ⊥
not_stopped status isn't other (inl seven) = let never : true ≡ false = sym (ap is_refusal seven) ∙ isn't in cc never
not_stopped status isn't other (inr fifteen) = other fifteen

no_refused_frames : (ending : Ended) → exit_status ending ≡ 15 → ⊥
no_refused_frames ended.End h = omega (arith, h)
no_refused_frames (ended.BadFrame number) h = omega (arith, h)
no_refused_frames ended.Truncated h = omega (arith, h)
no_refused_frames ended.ReadFault h = omega (arith, h)
no_refused_frames ended.WriteFault h = omega (arith, h)
no_refused_frames ended.Limit h = omega (arith, h)

no_refused_lines : (answer : Operated) → line_status answer ≡ 15 → ⊥
no_refused_lines operated.End h = omega (arith, h)
no_refused_lines (operated.BadLine number) h = omega (arith, h)
no_refused_lines operated.ReadFault h = omega (arith, h)
no_refused_lines operated.WriteFault h = omega (arith, h)
no_refused_lines operated.Limit h = omega (arith, h)

no_refused_text : {X E : Type 0} (written : Result X E) → written_status written ≡ 15 → ⊥
no_refused_text (Ok done) h = omega (arith, h)
no_refused_text (Err failed) h = omega (arith, h)

-- the statuses of frames that were served are no refusals
no_refusal : (ending : Ended) → is_refusal (exit_status ending) ≡ false
no_refusal ended.End = refl
no_refusal (ended.BadFrame number) = refl
no_refusal ended.Truncated = refl
no_refusal ended.ReadFault = refl
no_refusal ended.WriteFault = refl
no_refusal ended.Limit = refl

read_fault_of : (ending : Ended) → exit_status ending ≡ 5 → ending ≡ ended.ReadFault
read_fault_of ended.End h = absurd (omega (arith, h))
read_fault_of (ended.BadFrame number) h = absurd (omega (arith, h))
read_fault_of ended.Truncated h = absurd (omega (arith, h))
read_fault_of ended.ReadFault h = refl
read_fault_of ended.WriteFault h = absurd (omega (arith, h))
read_fault_of ended.Limit h = absurd (omega (arith, h))

write_fault_of : (ending : Ended) → exit_status ending ≡ 6 → ending ≡ ended.WriteFault
write_fault_of ended.End h = absurd (omega (arith, h))
write_fault_of (ended.BadFrame number) h = absurd (omega (arith, h))
write_fault_of ended.Truncated h = absurd (omega (arith, h))
write_fault_of ended.ReadFault h = absurd (omega (arith, h))
write_fault_of ended.WriteFault h = refl
write_fault_of ended.Limit h = absurd (omega (arith, h))

-- frames were served
pub frames_served : {V S K : Type 0} (keys backup : List ℕ) (calls : Calls V) (s : MachineState V) (ending : Ended) (status : ℕ) (noise noise' : Option (List Sample)) (view : ModuleView V) (before after : Met S K) → status ≡ exit_status ending
    → Explained noise noise' (Serves frame_grammar calls ending CHUNK s view before.streams after.streams)
    → (ending ≡ ended.ReadFault → FaultCounted before.read_faults after.read_faults) → (ending ≢ ended.ReadFault → after.read_faults ≡ before.read_faults)
    → (ending ≡ ended.WriteFault → FaultCounted before.write_faults after.write_faults) → (ending ≢ ended.WriteFault → after.write_faults ≡ before.write_faults)
    → IsWorkOutcome work.Serve keys backup calls s noise noise' status before after
frames_served keys backup calls s ending status noise noise' view before after is served read reads write writes =
    let isn't : is_refusal status ≡ false = ap is_refusal is ∙ no_refusal ending in record {
      only_memory = λ refusal. let never : true ≡ false = sym refusal ∙ isn't in cc never;
      untouched = λ stops. absurd (not_stopped status isn't (λ e. no_refused_frames ending (sym is ∙ e)) stops);
      worked = λ _. (view, explained_by _ _ served (λ events left serves. (ending, is, serves)));
      source_stays = λ e. let never : true ≡ false = e in cc never;
      read_fault = λ five. read (read_fault_of ending (sym is ∙ five));
      reads_unchanged = λ other. reads (λ e. other (is ∙ ap exit_status e));
      write_fault = λ six. write (write_fault_of ending (sym is ∙ six));
      writes_unchanged = λ other. writes (λ e. other (is ∙ ap exit_status e));
    }

-- the statuses of lines that were answered are none either
no_line_refusal : (answer : Operated) → is_refusal (line_status answer) ≡ false
no_line_refusal operated.End = refl
no_line_refusal (operated.BadLine number) = refl
no_line_refusal operated.ReadFault = refl
no_line_refusal operated.WriteFault = refl
no_line_refusal operated.Limit = refl

line_read_fault : (answer : Operated) → line_status answer ≡ 5 → answer ≡ operated.ReadFault
line_read_fault operated.End h = absurd (omega (arith, h))
line_read_fault (operated.BadLine number) h = absurd (omega (arith, h))
line_read_fault operated.ReadFault h = refl
line_read_fault operated.WriteFault h = absurd (omega (arith, h))
line_read_fault operated.Limit h = absurd (omega (arith, h))

line_write_fault : (answer : Operated) → line_status answer ≡ 6 → answer ≡ operated.WriteFault
line_write_fault operated.End h = absurd (omega (arith, h))
line_write_fault (operated.BadLine number) h = absurd (omega (arith, h))
line_write_fault operated.ReadFault h = absurd (omega (arith, h))
line_write_fault operated.WriteFault h = refl
line_write_fault operated.Limit h = absurd (omega (arith, h))

-- lines were answered
pub lines_operated : {V S K : Type 0} (keys backup : List ℕ) (calls : Calls V) (s : MachineState V) (answer : Operated) (status : ℕ) (noise noise' : Option (List Sample)) (view : ModuleView V) (before after : Met S K) → status ≡ line_status answer
    → Explained noise noise' (Operates calls answer CHUNK s view before.streams after.streams)
    → (answer ≡ operated.ReadFault → FaultCounted before.read_faults after.read_faults) → (answer ≢ operated.ReadFault → after.read_faults ≡ before.read_faults)
    → (answer ≡ operated.WriteFault → FaultCounted before.write_faults after.write_faults) → (answer ≢ operated.WriteFault → after.write_faults ≡ before.write_faults)
    → IsWorkOutcome work.Operate keys backup calls s noise noise' status before after
lines_operated keys backup calls s answer status noise noise' view before after is served read reads write writes =
    let isn't : is_refusal status ≡ false = ap is_refusal is ∙ no_line_refusal answer in record {
      only_memory = λ refusal. let never : true ≡ false = sym refusal ∙ isn't in cc never;
      untouched = λ stops. absurd (not_stopped status isn't (λ e. no_refused_lines answer (sym is ∙ e)) stops);
      worked = λ _. (view, explained_by _ _ served (λ events left operates. (answer, is, operates)));
      source_stays = λ e. let never : true ≡ false = e in cc never;
      read_fault = λ five. read (line_read_fault answer (sym is ∙ five));
      reads_unchanged = λ other. reads (λ e. other (is ∙ ap line_status e));
      write_fault = λ six. write (line_write_fault answer (sym is ∙ six));
      writes_unchanged = λ other. writes (λ e. other (is ∙ ap line_status e));
    }

-- the statuses of a text that was written are no refusals
pub no_written_refusal : {X E : Type 0} (written : Result X E) → is_refusal (written_status written) ≡ false
no_written_refusal (Ok done) = refl
no_written_refusal (Err failed) = refl

-- the session was run, whose summary was written or not
pub session_run : {V S K X E : Type 0} (keys backup : List ℕ) (calls : Calls V) (s : MachineState V) (seed count : ℕ) (written : Result X E) (status : ℕ) (noise noise' : Option (List Sample)) (view : ModuleView V) (before after : Met S K)
    → status ≡ written_status written → Explained noise noise' (SessionRun calls seed count s view (written_status written) before.streams.gained after.streams.gained)
    → OnErr written (FaultCounted before.write_faults after.write_faults) → OnOk written (after.write_faults ≡ before.write_faults)
    → after.source ≡ before.source → after.read_faults ≡ before.read_faults
    → IsWorkOutcome (work.Session seed count) keys backup calls s noise noise' status before after
session_run {V} {S} {K} {X} {E} keys backup calls s seed count written status noise noise' view before after is run counted uncounted source reads =
    let isn't : is_refusal status ≡ false = ap is_refusal is ∙ no_written_refusal written in
    let Run : ℕ → Type 0 = λ n. Explained noise noise' (SessionRun calls seed count s view n before.streams.gained after.streams.gained) in record {
      only_memory = λ refusal. let never : true ≡ false = sym refusal ∙ isn't in cc never;
      untouched = λ stops. absurd (not_stopped status isn't (λ e. no_refused_text written (sym is ∙ e)) stops);
      worked = λ _. (view, subst Run (sym is) run);
      source_stays = λ _. source;
      read_fault = λ five. absurd (no_five written (sym is ∙ five));
      reads_unchanged = λ _. reads;
      write_fault = λ six. failed written counted (sym is ∙ six);
      writes_unchanged = λ other. whole written uncounted (λ e. other (is ∙ e));
    }
  where
    no_five : (w : Result X E) → written_status w ≡ 5 → ⊥
    no_five (Ok done) e = omega (arith, e)
    no_five (Err fault) e = omega (arith, e)

    failed : (w : Result X E) → OnErr w (FaultCounted before.write_faults after.write_faults) → written_status w ≡ 6 → FaultCounted before.write_faults after.write_faults
    failed (Ok done) h e = absurd (omega (arith, e))
    failed (Err fault) h e = h

    whole : (w : Result X E) → OnOk w (after.write_faults ≡ before.write_faults) → written_status w ≢ 6 → after.write_faults ≡ before.write_faults
    whole (Ok done) h other = h
    whole (Err fault) h other = absurd (other refl)

-- what a session left of its commands, of which the machine was in one state before
pub run_from : {V X E : Type 0} (calls : Calls V) (seed count : ℕ) (commands : List CommandFrame) (s : MachineState V) (old new : ModuleView V) (written : Result X E) (before after : Option (List ℕ)) (noise noise' : Option (List Sample))
    → Represents old s → commands ≡ session_commands seed count
    → OnOk written (Explained noise noise' (RunsSession calls commands old new (λ replies last. Appends before (summary replies last) after)))
    → OnErr written (Explained noise noise' (RunsSession calls commands old new (λ replies last. AppendsPart before (summary replies last) after)))
    → Explained noise noise' (SessionRun calls seed count s new (written_status written) before after)
run_from calls seed count commands s old new (Ok done) before after noise noise' represents are whole part =
    explained_by _ _ whole (λ events left runs.
    let By : List CommandFrame → Type 0 = λ cs. RunsSession calls cs old new (λ replies last. Appends before (summary replies last) after) events left in
    let ran = (subst By are runs) s represents in
    record { represents = ran.0; noise_left = sym ran.1; written = inl (refl, ran.2) })
run_from calls seed count commands s old new (Err fault) before after noise noise' represents are whole part =
    explained_by _ _ part (λ events left runs.
    let By : List CommandFrame → Type 0 = λ cs. RunsSession calls cs old new (λ replies last. AppendsPart before (summary replies last) after) events left in
    let ran = (subst By are runs) s represents in
    record { represents = ran.0; noise_left = sym ran.1; written = inr (refl, ran.2) })

-- the statuses of a backup are no refusals
no_backup_refusal : (answer : BackedUp) → is_refusal (backup_status answer) ≡ false
no_backup_refusal backed_up.Written = refl
no_backup_refusal backed_up.NotOfficer = refl
no_backup_refusal (backed_up.BadLine number) = refl
no_backup_refusal backed_up.ReadFault = refl
no_backup_refusal backed_up.WriteFault = refl
no_backup_refusal backed_up.Limit = refl

no_refused_backup : (answer : BackedUp) → backup_status answer ≡ 15 → ⊥
no_refused_backup backed_up.Written h = omega (arith, h)
no_refused_backup backed_up.NotOfficer h = omega (arith, h)
no_refused_backup (backed_up.BadLine number) h = omega (arith, h)
no_refused_backup backed_up.ReadFault h = omega (arith, h)
no_refused_backup backed_up.WriteFault h = omega (arith, h)
no_refused_backup backed_up.Limit h = omega (arith, h)

backup_read_fault : (answer : BackedUp) → backup_status answer ≡ 5 → answer ≡ backed_up.ReadFault
backup_read_fault backed_up.Written h = absurd (omega (arith, h))
backup_read_fault backed_up.NotOfficer h = absurd (omega (arith, h))
backup_read_fault (backed_up.BadLine number) h = absurd (omega (arith, h))
backup_read_fault backed_up.ReadFault h = refl
backup_read_fault backed_up.WriteFault h = absurd (omega (arith, h))
backup_read_fault backed_up.Limit h = absurd (omega (arith, h))

backup_write_fault : (answer : BackedUp) → backup_status answer ≡ 6 → answer ≡ backed_up.WriteFault
backup_write_fault backed_up.Written h = absurd (omega (arith, h))
backup_write_fault backed_up.NotOfficer h = absurd (omega (arith, h))
backup_write_fault (backed_up.BadLine number) h = absurd (omega (arith, h))
backup_write_fault backed_up.ReadFault h = absurd (omega (arith, h))
backup_write_fault backed_up.WriteFault h = refl
backup_write_fault backed_up.Limit h = absurd (omega (arith, h))

-- the slots were backed up
pub lines_backed_up : {V S K : Type 0} (keys backup : List ℕ) (calls : Calls V) (s : MachineState V) (answer : BackedUp) (status : ℕ) (noise noise' : Option (List Sample)) (view : ModuleView V) (before after : Met S K)
    → status ≡ backup_status answer → Explained noise noise' (BacksUp calls answer CHUNK keys s view before.streams after.streams)
    → (answer ≡ backed_up.ReadFault → FaultCounted before.read_faults after.read_faults) → (answer ≢ backed_up.ReadFault → after.read_faults ≡ before.read_faults)
    → (answer ≡ backed_up.WriteFault → FaultCounted before.write_faults after.write_faults) → (answer ≢ backed_up.WriteFault → after.write_faults ≡ before.write_faults)
    → IsWorkOutcome work.Backup keys backup calls s noise noise' status before after
lines_backed_up keys backup calls s answer status noise noise' view before after is served read reads write writes =
    let isn't : is_refusal status ≡ false = ap is_refusal is ∙ no_backup_refusal answer in record {
      only_memory = λ refusal. let never : true ≡ false = sym refusal ∙ isn't in cc never;
      untouched = λ stops. absurd (not_stopped status isn't (λ e. no_refused_backup answer (sym is ∙ e)) stops);
      worked = λ _. (view, explained_by _ _ served (λ events left backs. (answer, is, backs)));
      source_stays = λ e. let never : true ≡ false = e in cc never;
      read_fault = λ five. read (backup_read_fault answer (sym is ∙ five));
      reads_unchanged = λ other. reads (λ e. other (is ∙ ap backup_status e));
      write_fault = λ six. write (backup_write_fault answer (sym is ∙ six));
      writes_unchanged = λ other. writes (λ e. other (is ∙ ap backup_status e));
    }

-- nor are those of lines behind a restored backup
no_restored_refusal : (answer : Restored) → is_refusal (restored_status answer) ≡ false
no_restored_refusal restored.NotOfficer = refl
no_restored_refusal restored.Refused = refl
no_restored_refusal (restored.Operated answer) = no_line_refusal answer

-- a refused backup operated no line
refused_operates_none : (answer : Restored) → restored_status answer ≡ 15 → (last : Operated) → answer ≢ restored.Operated last
refused_operates_none restored.NotOfficer h last e = omega (arith, h)
refused_operates_none restored.Refused h last e = cc e
refused_operates_none (restored.Operated answer) h last e = no_refused_lines answer h

restored_read_fault : (answer : Restored) → restored_status answer ≡ 5 → answer ≡ restored.Operated operated.ReadFault
restored_read_fault restored.NotOfficer h = absurd (omega (arith, h))
restored_read_fault restored.Refused h = absurd (omega (arith, h))
restored_read_fault (restored.Operated answer) h = ap (λ a. restored.Operated a) (line_read_fault answer h)

restored_write_fault : (answer : Restored) → restored_status answer ≡ 6 → answer ≡ restored.Operated operated.WriteFault
restored_write_fault restored.NotOfficer h = absurd (omega (arith, h))
restored_write_fault restored.Refused h = absurd (omega (arith, h))
restored_write_fault (restored.Operated answer) h = ap (λ a. restored.Operated a) (line_write_fault answer h)

-- lines were answered behind a restored backup, or there was none
pub lines_restored : {V S K : Type 0} (keys backup : List ℕ) (calls : Calls V) (s : MachineState V) (answer : Restored) (status : ℕ) (noise noise' : Option (List Sample)) (view : ModuleView V) (before after : Met S K)
    → AreKeys keys → status ≡ restored_status answer → Explained noise noise' (RestoresAndOperates calls answer CHUNK keys backup s view before.streams after.streams)
    → (((last : Operated) → answer ≢ restored.Operated last) → (after.source ≡ before.source) × (after.sink ≡ before.sink))
    → (answer ≡ restored.Operated operated.ReadFault → FaultCounted before.read_faults after.read_faults) → (answer ≢ restored.Operated operated.ReadFault → after.read_faults ≡ before.read_faults)
    → (answer ≡ restored.Operated operated.WriteFault → FaultCounted before.write_faults after.write_faults) → (answer ≢ restored.Operated operated.WriteFault → after.write_faults ≡ before.write_faults)
    → IsWorkOutcome work.Restore keys backup calls s noise noise' status before after
lines_restored keys backup calls s answer status noise noise' view before after are is served untouched read reads write writes =
    let isn't : is_refusal status ≡ false = ap is_refusal is ∙ no_restored_refusal answer in record {
      only_memory = λ refusal. let never : true ≡ false = sym refusal ∙ isn't in cc never;
      untouched = λ stops. elim stops [
        | inl seven ↦ absurd (never_seven isn't seven)
        | inr fifteen ↦ untouched (refused_operates_none answer (sym is ∙ fifteen))
      ];
      worked = λ _. (view, explained_by _ _ served (λ events left restores. (are, (answer, is, restores))));
      source_stays = λ e. let never : true ≡ false = e in cc never;
      read_fault = λ five. read (restored_read_fault answer (sym is ∙ five));
      reads_unchanged = λ other. reads (λ e. other (is ∙ ap restored_status e));
      write_fault = λ six. write (restored_write_fault answer (sym is ∙ six));
      writes_unchanged = λ other. writes (λ e. other (is ∙ ap restored_status e));
    }
  where
    never_seven : is_refusal status ≡ false → status ≡ 7 → ⊥
    never_seven isn't seven = let never : true ≡ false = sym (ap is_refusal seven) ∙ isn't in cc never
