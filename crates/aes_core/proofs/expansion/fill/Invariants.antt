use Rattle.std.proofs.Common.{◌≡◌, ◌-◌, take, drop}
use Rattle.aes_spec.specs.Key.{key_expansion, key_words}
use Rattle.aes_core.specs.Schedules.{zero_words}
use Rattle.aes_core.proofs.expansion.fill.Given as goal

abbrev pub invariant-loop-i : goal.invariant-loop-i
invariant-loop-i l = record {
  expanded : take l.i l.words ≡ key_expansion l.key (key_words l.key) l.i;
  rest : drop l.i l.words ≡ zero_words (60 - l.i);
}
