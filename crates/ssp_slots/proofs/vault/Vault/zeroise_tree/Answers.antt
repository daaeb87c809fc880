use Rattle.std.proofs.Common.{◌≡◌, ℕ, subst, arith}
use Rattle.ssp_slots.specs.Slots.{Contents, AreWellFormed}
use Rattle.ssp_slots.proofs.Trees.{TreeZeroisedUpTo, tree_whole}
use Rattle.ssp_slots.proofs.vault.Vault.zeroise_tree.Goals as goal

pub returns-clause-zeroised : goal.returns-clause-zeroised
returns-clause-zeroised c =
    let last : c.loop-number.number ≡ 16 = omega arith in
    let UpTo : ℕ → Type 0 = λ n. TreeZeroisedUpTo c.args.id n c.args.self.now c.loop-number.self in
    let Well : Contents → Type 0 = λ vault. AreWellFormed vault in
    let before : AreWellFormed c.args.self.now = subst Well c.self.view_is c.self.invariant.well_formed in
    tree_whole c.args.id c.args.self.now c.loop-number.self before.sixteen before.sixteen_rows (subst UpTo last c.loop-number.invariant.so_far)
