use Rattle.std.proofs.Common.{◌≡◌, ℕ, ◌<◌, length, get_or}
use Rattle.ghash_core.specs.Places.{ArePlaces}
use Rattle.ghash_core.proofs.PlaceValues.{byte_of}
use Rattle.ghash_core.proofs.key_places.multiplicand.Given as goal

abbrev pub invariant-loop-k : goal.invariant-loop-k
invariant-loop-k l = record {
  size : length l.bytes ≡ 16;
  read : (h : ℕ) → ArePlaces l.places h → (j : ℕ) → j < l.k → get_or l.bytes j 0 ≡ byte_of j h;
}
