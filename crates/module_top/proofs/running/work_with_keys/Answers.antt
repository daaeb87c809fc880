use Rattle.std.proofs.Common.{◌≡◌, List, Option, IfSome, Some, ◌∙◌, subst}
use Rattle.std.specs.Prelude.{Err}
use Rattle.outside.specs.FilesContent.{FilesContent}
use Rattle.outside.specs.declared.traits.Sample.{Sample}
use Rattle.program_words.specs.Forms.{names_value}
use Rattle.module_top.specs.Program.{HasNoise}
use Rattle.module_top.proofs.RunOutcomes.{backup_refused, is_fault, work_done}
use Rattle.module_top.proofs.running.work_with_keys.Goals as goal

pub returns-in_err-backup : goal.returns-in_err-backup
returns-in_err-backup g c = record {
  outcome = λ text loaded.
      let is : c.from_residual.result ≡ Err c.in_err-backup.field-0.0 = is_fault _ _ c.from_residual.ensures in
      rw is (backup_refused g.E.Engine.calls c.args.engine (g.F.Files.content c.args.files.now) c.args.work (names_value c.args.names) c.args.image.items text c.args.digest c.args.keys.now
      c.in_err-backup.field-0.0 _ _ loaded c.in_err-backup.ensures.refused);
}

pub returns : goal.returns
returns g c = record {
  outcome = λ text loaded.
      let files = g.F.Files.content c.args.files.now in
      let names = names_value c.args.names in
      let Noises : Option FilesContent → Type 0 = λ f. IfSome f (λ all. (events : List Sample) × HasNoise all names.noise events × (g.F.Stream.Noise.left c.in_ok-noise.noise ≡ Some events)) in
      let noises : Noises files = subst Noises c.load_backup.ensures.kept c.in_ok-noise.ensures.named in
      work_done g.E.Engine.calls c.args.engine files c.args.work names c.args.image.items text c.args.digest c.args.keys.now c.deref.result.now _ _ _ _ _
      loaded (rw c.deref.ensures.value c.in_ok-backup.ensures.fits) (rw c.deref.ensures.value c.in_ok-backup.ensures.named) noises
      (c.in_ok-noise.ensures.faults_unchanged ∙ c.in_ok-backup.ensures.faults_unchanged) c.do_work.ensures.outcome;
}
