use Rattle.std.proofs.Common.{◌≡◌, ◌*◌, ◌<◌, ◌≤◌, ℕ, List, slice_index, bit_xor}
use Rattle.aes_spec.specs.Key.{aes}
use Rattle.aes_spec.specs.Gctr.{counter_block, stream_byte}
use Rattle.aes_core.specs.Schedules.{IsExpanded}
use Rattle.aes_core.proofs.counter.gctr_plain.Given as goal

abbrev pub invariant-loop-i : goal.invariant-loop-i
invariant-loop-i l = record {
  counted : l.counter ≡ counter_block l.fn.start l.i;
  done : (key : List ℕ) → IsExpanded l.schedule key → (p : ℕ) → p < 16 * l.i → slice_index l.text p ≡ bit_xor (slice_index l.fn.text p) (stream_byte (aes key) l.fn.start p);
  rest : (p : ℕ) → 16 * l.i ≤ p → slice_index l.text p ≡ slice_index l.fn.text p;
}
