use Rattle.std.proofs.Common.{◌≡◌, ◌+◌, ◌≤◌, ◌<◌, ◌++◌, ◌∷◌, [], ℕ, List, take, length, slice_set, refl, sym, ◌∙◌, ap, subst, arith, append-nil, append_assoc}
use Rattle.std.proofs.lemmas.List.{take_more_set, length-take-le, take_all}
use Rattle.outside.specs.Explained.{Explained}
use Rattle.outside.proofs.Explanations.{explained_none, explained_both}
use Rattle.noise_health.specs.Counts.{Counts}
use Rattle.tested_noise.specs.Taken.{AreTaken, FailsWithin}
use Rattle.tested_noise.proofs.Taking.{none_taken, both_taken, fails_within}
use Rattle.tested_noise.proofs.samples.take_samples.Goals as goal

pub loop-place-init : goal.loop-place-init
loop-place-init g c = record {
  taken = explained_none _ _ (λ events samples counts. none_taken samples events);
  counts = λ samples counts. subst (λ xs. Counts c.args.health.now xs) (sym (append-nil samples)) counts;
  faults = refl;
}

pub take_sample-requires : goal.take_sample-requires
take_sample-requires g c =
    let i = c.loop-place.invariant in
    let (samples, counts) = c.requires.counts in
    record { counts = (samples ++ take c.loop-place.place c.loop-place.out, i.counts samples counts) }

pub loop-place-preserved : goal.loop-place-preserved
loop-place-preserved g c =
    let i = c.loop-place.invariant in
    let so_far = take c.loop-place.place c.loop-place.out in
    let short : c.loop-place.place < length c.loop-place.out = omega (arith, c.loop-place-test.true, c.loop-place.auto.out) in
    let more : take (c.loop-place.place + 1) (slice_set c.loop-place.out c.loop-place.place c.in-Ok.byte) ≡ so_far ++ c.in-Ok.byte ∷ [] =
    take_more_set c.loop-place.out c.loop-place.place c.in-Ok.byte short in
    record {
      taken = rw more (explained_both _ _ _ i.taken c.in-Ok.ensures.taken (λ events mid left before last samples counts.
          both_taken samples so_far c.in-Ok.byte events mid left (before samples counts) (last (samples ++ so_far) (i.counts samples counts))));
      counts = λ samples counts. rw more (subst (λ xs. Counts c.take_sample.new.health xs) (append_assoc samples so_far (c.in-Ok.byte ∷ [])) (c.in-Ok.ensures.counts (samples ++ so_far) (i.counts samples counts)));
      faults = c.in-Ok.ensures.fault_counted ∙ i.faults;
    }

pub returns-in-Err-clause-taken : goal.returns-in-Err-clause-taken
returns-in-Err-clause-taken g c =
    let i = c.loop-place.invariant in
    let so_far = take c.loop-place.place c.loop-place.out in
    let short : length so_far < length c.loop-place.out = omega (arith, c.loop-place-test.true, c.loop-place.auto.out, length-take-le c.loop-place.place c.loop-place.out) in
    explained_both _ _ _ i.taken c.in-Err.ensures.taken (λ events mid left before last samples counts.
    fails_within samples so_far (length c.loop-place.out) events mid left c.in-Err.failure short (before samples counts) (last (samples ++ so_far) (i.counts samples counts)))

pub returns-clause-taken : goal.returns-clause-taken
returns-clause-taken g c =
    let i = c.loop-place.invariant in
    let all : take c.loop-place.place c.loop-place.out ≡ c.loop-place.out = take_all c.loop-place.place c.loop-place.out (omega (arith, c.loop-place-test.false, c.loop-place.auto.out)) in
    subst
    (λ xs. Explained (g.N.Noise.left c.args.noise.now) (g.N.Noise.left c.loop-place.noise)
    (λ events left. (samples : List ℕ) → Counts c.args.health.now samples → AreTaken samples xs events left))
    all i.taken

pub returns-clause-counts : goal.returns-clause-counts
returns-clause-counts g c samples counts =
    let i = c.loop-place.invariant in
    let all : take c.loop-place.place c.loop-place.out ≡ c.loop-place.out = take_all c.loop-place.place c.loop-place.out (omega (arith, c.loop-place-test.false, c.loop-place.auto.out)) in
    subst (λ xs. Counts c.loop-place.health (samples ++ xs)) all (i.counts samples counts)
