use Rattle.std.proofs.Common.{◌≡◌, length, ◌<◌, ◌≤◌, ℕ, slice_index_or, []}
use Rattle.aes_spec.specs.Aes.{IsState}
use Rattle.aes_spec.specs.Key.{words_state}
use Rattle.aes_lanes.specs.Rounds.{IsInTower, IsKeyInTower}
use Rattle.aes_lanes.proofs.keys.prepared.Given as goal

abbrev pub invariant-loop-round : goal.invariant-loop-round
invariant-loop-round l = record {
  states : (n : ℕ) → n < l.round → IsState (words_state l.words n);
  size : length l.keys ≡ 15;
  first : (j : ℕ) → j < 16 → IsInTower (slice_index_or l.keys 0 []) j (words_state l.words 0);
  mixed : (n j : ℕ) → 1 ≤ n → n < l.round → j < 16 → IsKeyInTower (slice_index_or l.keys n []) j (words_state l.words n);
}
