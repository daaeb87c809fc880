use Rattle.std.proofs.Common.{◌≡◌, ℕ, ◌+◌, ◌*◌, ◌/◌, ◌%◌, ◌<◌, length, get_or}
use Rattle.kbkdf_core.specs.CounterMode.{fixed_input, key_block}
use Rattle.kbkdf_core.proofs.counter_mode.derive.Given as goal

abbrev pub invariant-loop-i : goal.invariant-loop-i
invariant-loop-i l = record {
  state : 0 < l.i → l.block ≡ key_block l.key (fixed_input l.label l.context (8 * length l.fn.out)) ((l.i + 31) / 32);
  so_far : (m : ℕ) → m < l.i → get_or l.out m 0 ≡ get_or (key_block l.key (fixed_input l.label l.context (8 * length l.fn.out)) (m / 32 + 1)) (m % 32) 0;
}
