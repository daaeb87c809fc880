use Rattle.std.proofs.Common.{[], ◌∷◌}
use Rattle.outside.proofs.Explanations.{explained_both}
use Rattle.service_table.specs.declared.service.Service.TheVariants as service
use Rattle.session_commands.specs.SessionCommands.{command_of}
use Rattle.backup_runs.specs.Officer.{StepsThrough}
use Rattle.backup_runs.proofs.Through.{through_both}
use Rattle.backup_runs.proofs.officer.become_officer.Goals as goal

pub returns : goal.returns
returns g c =
    let calls = g.E.Engine.calls in
    let power = command_of service.PowerOn (0 ∷ 0 ∷ 0 ∷ 0 ∷ []) in
    let tests = command_of service.RequestTests [] in
    let step = command_of service.TestStep [] in
    let role = command_of service.SelectRole (1 ∷ []) in
    let start = c.args.module.now in
    let two = explained_both _ _ (StepsThrough calls (power ∷ tests ∷ []) start c.give-2.new.module) c.give.ensures c.give-2.ensures
    (λ events mid left one other. through_both calls start c.give.new.module c.give-2.new.module (power ∷ []) (tests ∷ []) events mid left one other) in
    let three = explained_both _ _ (StepsThrough calls (power ∷ tests ∷ step ∷ []) start c.give-3.new.module) two c.give-3.ensures
    (λ events mid left one other. through_both calls start c.give-2.new.module c.give-3.new.module (power ∷ tests ∷ []) (step ∷ []) events mid left one other) in
    let four = explained_both _ _ (StepsThrough calls (power ∷ tests ∷ step ∷ step ∷ []) start c.give-4.new.module) three c.give-4.ensures
    (λ events mid left one other. through_both calls start c.give-3.new.module c.give-4.new.module (power ∷ tests ∷ step ∷ []) (step ∷ []) events mid left one other) in
    let five = explained_both _ _ (StepsThrough calls (power ∷ tests ∷ step ∷ step ∷ step ∷ []) start c.give-5.new.module) four c.give-5.ensures
    (λ events mid left one other. through_both calls start c.give-4.new.module c.give-5.new.module (power ∷ tests ∷ step ∷ step ∷ []) (step ∷ []) events mid left one other) in
    explained_both _ _ (StepsThrough calls (power ∷ tests ∷ step ∷ step ∷ step ∷ role ∷ []) start c.give-6.new.module) five c.give-6.ensures
    (λ events mid left one other. through_both calls start c.give-5.new.module c.give-6.new.module (power ∷ tests ∷ step ∷ step ∷ step ∷ []) (role ∷ []) events mid left one other)
