use Rattle.std.proofs.Common.{◌≡◌, ◌≢◌, ◌++◌, ℕ, List, Some, IfSome, refl, sym, ◌∙◌, ap, subst}
use Rattle.std.specs.Prelude.{◌↔◌, ◌⊎◌, map, true}
use Rattle.std.specs.String.{string_bytes}
use Rattle.program_words.specs.Forms.{form_of}
use Rattle.module_top.specs.Program.{IsProgramOutput}
use Rattle.program_words.specs.Faults.{is_refusal}
use Rattle.module_top.specs.Outcomes.{HasLongImage, HasBadDigest, HasBadKeys, HasLongBackup}
use Rattle.module_top.specs.Secrets.{OutputKeepsSecrets}
use Rattle.module_top.proofs.RunOutcomes.{program_output, told}
use Rattle.module_top.proofs.SecretOutputs.{output_keeps}
use Rattle.module_top.proofs.running.run.Goals as goal

pub returns-clause-output : goal.returns-clause-output
returns-clause-output g c all bytes before files left gained =
    let Out : ℕ → Type 0 = λ status. status ≢ 5 → status ≢ 6 → status ≢ 7 → status ≢ 8 →
    (out : List ℕ) × IsProgramOutput g.E.Engine.calls c.args.engine (map string_bytes c.args.words.now) all bytes status out × (g.K.Sink.gained c.perform.new.replies ≡ Some (before ++ out)) in
    subst Out (sym c.status_of.ensures)
    (program_output g.E.Engine.calls c.args.engine all _ _ _ _ bytes before (rw files at c.perform.ensures.outcome) (rw (left, gained) refl) (λ same. ap g.K.Sink.gained same))

pub returns-clause-untouched : goal.returns-clause-untouched
returns-clause-untouched g c =
    let Stays : ℕ → Type 0 = λ status. (is_refusal status ≡ true) ⊎ (status ≡ 15) → (c.perform.new.commands ≡ c.args.commands.now) × (c.perform.new.replies ≡ c.args.replies.now) in
    subst Stays (sym c.status_of.ensures) c.perform.ensures.outcome.untouched

pub returns-clause-image_too_long : goal.returns-clause-image_too_long
returns-clause-image_too_long g c =
    let files = g.F.Files.content c.args.files.now in
    let of = form_of (map string_bytes c.args.words.now) in
    let Suits : ℕ → Type 0 = λ status. IfSome files (λ all. status ≢ 7 → status ≢ 8 → (status ≡ 9) ↔ HasLongImage all of) in
    subst Suits (sym c.status_of.ensures) (told files (λ all suits no_memory no_file. (suits no_memory no_file).image_too_long) c.perform.ensures.outcome.suits)

pub returns-clause-bad_digest : goal.returns-clause-bad_digest
returns-clause-bad_digest g c =
    let files = g.F.Files.content c.args.files.now in
    let of = form_of (map string_bytes c.args.words.now) in
    let Suits : ℕ → Type 0 = λ status. IfSome files (λ all. status ≢ 7 → status ≢ 8 → (status ≡ 11) ↔ HasBadDigest all of) in
    subst Suits (sym c.status_of.ensures) (told files (λ all suits no_memory no_file. (suits no_memory no_file).bad_digest) c.perform.ensures.outcome.suits)

pub returns-clause-bad_keys : goal.returns-clause-bad_keys
returns-clause-bad_keys g c =
    let files = g.F.Files.content c.args.files.now in
    let of = form_of (map string_bytes c.args.words.now) in
    let Suits : ℕ → Type 0 = λ status. IfSome files (λ all. status ≢ 7 → status ≢ 8 → (status ≡ 13) ↔ HasBadKeys all of) in
    subst Suits (sym c.status_of.ensures) (told files (λ all suits no_memory no_file. (suits no_memory no_file).bad_keys) c.perform.ensures.outcome.suits)

pub returns-clause-backup_too_long : goal.returns-clause-backup_too_long
returns-clause-backup_too_long g c =
    let files = g.F.Files.content c.args.files.now in
    let of = form_of (map string_bytes c.args.words.now) in
    let Suits : ℕ → Type 0 = λ status. IfSome files (λ all. status ≢ 7 → status ≢ 8 → HasLongBackup all of → status ≡ 15) in
    subst Suits (sym c.status_of.ensures) (told files (λ all suits no_memory no_file. (suits no_memory no_file).backup_too_long) c.perform.ensures.outcome.suits)

pub returns-clause-no_file : goal.returns-clause-no_file
returns-clause-no_file g c two = c.perform.ensures.no_file (c.perform.ensures.outcome.usage.0 (sym c.status_of.ensures ∙ two))

pub returns-clause-secrets : goal.returns-clause-secrets
returns-clause-secrets g c plain all bytes before files left gained =
    let words : List (List ℕ) = map string_bytes c.args.words.now in
    let Kept : ℕ → Type 0 = λ status. status ≢ 5 → status ≢ 6 → status ≢ 7 → status ≢ 8 →
    (out : List ℕ) × (g.K.Sink.gained c.perform.new.replies ≡ Some (before ++ out)) × OutputKeepsSecrets g.E.Engine.calls c.args.engine words (form_of words) all bytes status out in
    subst Kept (sym c.status_of.ensures)
    (λ no_read no_write memory no_file.
    let (out, output, written) = program_output g.E.Engine.calls c.args.engine all _ _ _ _ bytes before (rw files at c.perform.ensures.outcome) (rw (left, gained) refl) (λ same. ap g.K.Sink.gained same) no_read no_write memory no_file in
    (out, written, output_keeps g.E.Engine.calls plain c.args.engine words all bytes _ out output))
