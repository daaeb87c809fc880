use Rattle.std.proofs.Common.{ℕ, ◌∙◌, arith}
use Rattle.std.proofs.Math.ListN.{length-set}
use Rattle.ghash_core.specs.Places.{IsPlace}
use Rattle.ghash_core.specs.declared.place.Place.{Place}
use Rattle.ghash_core.proofs.PlaceValues.{nth_byte, place_is}
use Rattle.ghash_core.proofs.Written.{written}
use Rattle.ghash_core.proofs.key_places.fill.Goals as goal

pub loop-k-preserved : goal.loop-k-preserved
loop-k-preserved c =
    let k = c.loop-k.k in
    let below = c.loop-k-test.true in
    let new : Place = record { high = c.sums.result; low = c.sums-in-loop-k.result } in
    let is : IsPlace new c.args.h k = place_is new k c.args.h c.by_x-by_1.result c.by_x-by_2.result c.by_x-by_3.result c.by_x-by_4.result c.by_x-by_5.result c.by_x-by_6.result c.by_x-by_7.result _ _ _ _ _ _ _ _
    c.by_x-by_1.ensures c.by_x-by_2.ensures c.by_x-by_3.ensures c.by_x-by_4.ensures c.by_x-by_5.ensures c.by_x-by_6.ensures c.by_x-by_7.ensures
    (nth_byte c.to_be_bytes-bytes_0.result c.args.h k c.to_be_bytes-bytes_0.ensures below)
    (nth_byte c.to_be_bytes-bytes_1.result c.by_x-by_1.result k c.to_be_bytes-bytes_1.ensures below)
    (nth_byte c.to_be_bytes-bytes_2.result c.by_x-by_2.result k c.to_be_bytes-bytes_2.ensures below)
    (nth_byte c.to_be_bytes-bytes_3.result c.by_x-by_3.result k c.to_be_bytes-bytes_3.ensures below)
    (nth_byte c.to_be_bytes-bytes_4.result c.by_x-by_4.result k c.to_be_bytes-bytes_4.ensures below)
    (nth_byte c.to_be_bytes-bytes_5.result c.by_x-by_5.result k c.to_be_bytes-bytes_5.ensures below)
    (nth_byte c.to_be_bytes-bytes_6.result c.by_x-by_6.result k c.to_be_bytes-bytes_6.ensures below)
    (nth_byte c.to_be_bytes-bytes_7.result c.by_x-by_7.result k c.to_be_bytes-bytes_7.ensures below)
    c.sums.ensures c.sums-in-loop-k.ensures in
    record {
      size = length-set c.loop-k.places k _ ∙ c.loop-k.invariant.size;
      done = λ j d l. written (λ (q : ℕ) (p : Place). IsPlace p c.args.h q) c.loop-k.places new d k j (omega (arith, c.loop-k.invariant.size)) is (λ other. c.loop-k.invariant.done j d (omega arith));
    }
