use Rattle.std.proofs.Common.{◌≡◌, ◌-◌, ◌*◌, List, ℕ}
use Rattle.bits_core.specs.ByteList.{IsBytes}
use Rattle.aes_core.specs.Key.{aes}
use Rattle.aes_core.specs.Schedules.{IsExpanded}
use Rattle.key_wrap.proofs.RemainingSteps.{later}
use Rattle.key_wrap.proofs.semiblocks.unwrap_semiblocks.Given as goal

abbrev pub invariant-loop-done : goal.invariant-loop-done
invariant-loop-done l = record {
  opened : (key : List ℕ) → IsExpanded l.schedule key → later (aes key) l.registers (6 * l.registers - l.done) l.done l.text ≡ l.fn.text;
  bytes : IsBytes l.text;
}
