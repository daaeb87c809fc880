use Rattle.std.proofs.Common.{ap, subst, ◌∙◌, arith}
use Rattle.std.proofs.lemmas.Grind.{common_steps}
use Rattle.ssp_slots.specs.Slots.{Contents, row_in, AreWellFormed}
use Rattle.ssp_slots.specs.Ancestry.{holds}
use Rattle.ssp_slots.proofs.SlotSets.{holds-linked}
use Rattle.ssp_slots.proofs.vault.Vault.link.Goals as goal

pub returns-clause-linked : goal.returns-clause-linked
returns-clause-linked c = grind (arith, common_steps)

pub returns-clause-gained : goal.returns-clause-gained
returns-clause-gained c id =
    let Well : Contents → Type 0 = λ vault. AreWellFormed vault in
    let before : AreWellFormed c.args.self.now = subst Well c.self.view_is c.self.invariant.well_formed in
    let sixteen = before.sixteen_rows in
    ap (λ (vault : Contents). holds (row_in vault c.args.target) id) (returns-clause-linked c)
    ∙ holds-linked c.args.self.now c.args.source c.args.target id (omega arith)
