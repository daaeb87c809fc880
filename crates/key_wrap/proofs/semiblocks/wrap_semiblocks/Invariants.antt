use Rattle.std.proofs.Common.{◌≡◌, List, ℕ}
use Rattle.aes_core.specs.Key.{aes}
use Rattle.aes_core.specs.Schedules.{IsExpanded}
use Rattle.key_wrap.specs.InPlace.{steps}
use Rattle.key_wrap.proofs.semiblocks.wrap_semiblocks.Given as goal

abbrev pub invariant-loop-t : goal.invariant-loop-t
invariant-loop-t l = (key : List ℕ) → IsExpanded l.schedule key → l.text ≡ steps (aes key) l.registers l.t l.fn.text
