use Rattle.std.proofs.Common.{◌≡◌, [], ◌∷◌, None, ap, ◌∙◌, subst}
use Rattle.outside.specs.Explained.{Explained}
use Rattle.outside.proofs.Explanations.{explained_by}
use Rattle.module_frames.specs.CommandFrames.{CommandFrame}
use Rattle.session_commands.specs.SessionCommands.{command_of}
use Rattle.backup_runs.specs.Officer.{StepsThrough}
use Rattle.backup_runs.proofs.Through.{through_one}
use Rattle.backup_runs.proofs.officer.give.Goals as goal

pub returns : goal.returns
returns g c =
    let given : c.set.new.self ≡ command_of c.args.service c.args.body.now = c.set.ensures ∙ ap (λ number. record { service = number; sequence = None; body = c.args.body.now }) c.number.ensures in
    let Steps : CommandFrame → Type 0 = λ command. Explained (g.N.Noise.left c.args.noise.now) (g.N.Noise.left c.command.new.noise) (StepsThrough g.E.Engine.calls (command ∷ []) c.args.module.now c.command.new.self) in
    subst Steps given (explained_by _ _ c.command.ensures.step (λ events left did. through_one g.E.Engine.calls _ _ c.set.new.self c.command.new.reply events left did))
