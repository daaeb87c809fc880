use Rattle.std.proofs.Common.{◌≡◌, ℕ, ◌<◌, length}
use Rattle.std.specs.Prelude.{slice_index_or}
use Rattle.ghash_core.specs.Places.{IsPlace}
use Rattle.ghash_core.specs.declared.place.Place.{Place}
use Rattle.ghash_core.proofs.key_places.fill.Given as goal

abbrev pub invariant-loop-k : goal.invariant-loop-k
invariant-loop-k l = record {
  size : length l.places ≡ 16;
  done : (j : ℕ) (d : Place) → j < l.k → IsPlace (slice_index_or l.places j d) l.h j;
}
