use Rattle.std.proofs.Common.{◌≡◌, ℕ, List, ◌*◌, length, take}
use Rattle.aes_core.specs.Schedules.{IsExpanded}
use Rattle.hmac_core.specs.Blocks.{joined}
use Rattle.kbkdf_core.specs.CounterMode.{fixed_input}
use Rattle.cmac_core.specs.Derivation.{key_block}
use Rattle.cmac_core.specs.Steps.{IsAfterBlocks}
use Rattle.cmac_core.proofs.derivation.kdf.Given as goal

abbrev pub invariant-loop-done : goal.invariant-loop-done
invariant-loop-done l = record {
  after : (key : List ℕ) → IsExpanded l.schedule key
      → IsAfterBlocks l.mode key (fixed_input l.label l.context (8 * length l.fn.out)) l.done l.block l.prefix;
  front : (key : List ℕ) → IsExpanded l.schedule key
      → take (16 * l.done) l.out ≡ take (length l.fn.out) (joined (key_block l.mode key (fixed_input l.label l.context (8 * length l.fn.out))) l.done);
}
