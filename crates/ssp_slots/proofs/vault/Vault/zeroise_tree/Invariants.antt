use Rattle.ssp_slots.specs.Slots.{AreWellFormed}
use Rattle.ssp_slots.proofs.Trees.{TreeZeroisedUpTo}
use Rattle.ssp_slots.proofs.vault.Vault.zeroise_tree.Given as goal

abbrev pub invariant-loop-number : goal.invariant-loop-number
invariant-loop-number l = record {
  well_formed : AreWellFormed l.self;
  so_far : TreeZeroisedUpTo l.id l.number l.initial.self l.self;
}
