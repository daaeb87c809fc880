use Rattle.std.proofs.Common.{◌≡◌, ℕ, List, slice_index, [], ap, ◌∙◌, arith, inl, inr}
use Rattle.std.proofs.lemmas.Bool.{cases_lt}
use Rattle.std.proofs.lemmas.Grind.{get_or-set_at}
use Rattle.std.proofs.lemmas.List.{get_or-set_other, length-set}
use Rattle.aes_spec.specs.Field.{sub_byte}
use Rattle.aes_lanes.specs.Rounds.{byte}
use Rattle.aes_lanes.proofs.power_rounds.substituted.Goals as goal

pub loop-r-preserved : goal.loop-r-preserved
loop-r-preserved c =
    let t = c.loop-r.t in
    let i = c.loop-r.r in
    let v = c.sub-v.result in
    let inv = c.loop-r.invariant in
    record {
      long = omega (arith, length-set t i v, inv.long);
      done = λ r j hr hj. elim (cases_lt r i) [
        | inl below ↦ ap (λ (x : List ℕ). slice_index x j) (get_or-set_other t i r v [] (omega arith)) ∙ inv.done r j below hj
        | inr above ↦
            let same : r ≡ i = omega arith in
            let back : i ≡ r = omega arith in
            ap (λ (x : List ℕ). slice_index x j) (get_or-set_at t i r v [] same (omega (arith, inv.long)))
            ∙ c.sub-v.ensures j hj
            ∙ ap (λ (n : ℕ). sub_byte (byte c.args.s.now j n)) back
      ];
    }
