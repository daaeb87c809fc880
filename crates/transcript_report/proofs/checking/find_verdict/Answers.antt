use Rattle.std.proofs.Common.{◌≡◌, ◌<◌, ◌++◌, [], length, take, refl, ◌∙◌, subst, arith, length-append, append-nil}
use Rattle.std.proofs.lemmas.List.{length-take-le}
use Rattle.outside.specs.Contents.{Consumes}
use Rattle.outside.proofs.ConsecutiveCalls.{consumes_none, consumes_both}
use Rattle.stream_calls.specs.declared.limits.TheConstants.{STREAM_MAX}
use Rattle.transcript_report.proofs.PairChecks.{checked_none}
use Rattle.transcript_report.proofs.StreamFindings.{all_of, ended_truncated, found_bad_frame, found_unlawful}
use Rattle.transcript_report.proofs.checking.find_verdict.Goals as goal

pub loop-taken-init : goal.loop-taken-init
loop-taken-init g c = record {
  so_far = ([], consumes_none _, refl, rw (c.requires.new, c.requires.none, c.new-checker.ensures) checked_none);
  within = omega arith;
  counted = omega (arith, c.requires.none);
  chunk = refl;
  reads = refl;
}

-- the source ended inside a pair
pub returns-in-Ok-eq0-clause-found : goal.returns-in-Ok-eq0-clause-found
returns-in-Ok-eq0-clause-found g c _ =
    let (taken, consumed, long, h) = c.loop-taken.invariant.so_far in
    let left = g.S.Source.left c.args.transcript.now in
    let left' = g.S.Source.left c.read_some.new.source in
    let zero : c.in-Ok-eq0.field-0 ≡ 0 = omega (arith, c.in-Ok-eq0.field-0-test) in
    let none = rw zero at c.in-Ok-eq0.ensures.taken in
    let consumes : Consumes left taken left' = subst (λ xs. Consumes left xs left') (append-nil taken) (consumes_both _ _ _ taken [] consumed none) in
    let below : length taken < STREAM_MAX = omega (arith, long, c.loop-taken-test.true) in
    ended_truncated taken _ _ c.loop-taken.pairs (length c.args.chunk.now) left left' h consumes (below, all_of _ _ taken consumed (c.in-Ok-eq0.ensures.end zero)) c.if-at_boundary.ensures

-- a chunk ended a pair that isn't lawful
pub returns-in-Unlawful-clause-found : goal.returns-in-Unlawful-clause-found
returns-in-Unlawful-clause-found g c _ =
    let i = c.loop-taken.invariant in
    let (taken, consumed, many, h) = i.so_far in
    let piece = take c.in-Ok.size c.read_some.new.chunk in
    let long : length piece ≡ c.in-Ok.size = length-take-le c.in-Ok.size c.read_some.new.chunk (omega (arith, c.in-Ok.ensures.size.0)) in
    found_unlawful taken piece _ _ c.check_chunk.new.count c.loop-taken.pairs (length c.args.chunk.now) _ _ h (consumes_both _ _ _ taken piece consumed c.in-Ok.ensures.taken)
    (omega (arith, long, c.in-Ok.ensures.size.0, c.in-Ok.ensures.room, i.chunk)) (omega (arith, many, long, length-append taken piece, c.in-Ok.ensures.size.1, c.loop-taken-test.true))
    (c.in-Unlawful.ensures.unlawful refl taken h)

-- a chunk showed a fault
pub returns-in-BadFrame-clause-found : goal.returns-in-BadFrame-clause-found
returns-in-BadFrame-clause-found g c _ =
    let i = c.loop-taken.invariant in
    let (taken, consumed, many, h) = i.so_far in
    let piece = take c.in-Ok.size c.read_some.new.chunk in
    let long : length piece ≡ c.in-Ok.size = length-take-le c.in-Ok.size c.read_some.new.chunk (omega (arith, c.in-Ok.ensures.size.0)) in
    found_bad_frame taken piece _ _ c.in-BadFrame.place c.loop-taken.pairs (length c.args.chunk.now) _ _ h (consumes_both _ _ _ taken piece consumed c.in-Ok.ensures.taken)
    (omega (arith, long, c.in-Ok.ensures.size.0, c.in-Ok.ensures.room, i.chunk)) (omega (arith, many, long, length-append taken piece, c.in-Ok.ensures.size.1, c.loop-taken-test.true))
    (c.in-BadFrame.ensures.bad_frame c.in-BadFrame.place refl taken h)

pub loop-taken-preserved : goal.loop-taken-preserved
loop-taken-preserved g c =
    let i = c.loop-taken.invariant in
    let (taken, consumed, many, h) = i.so_far in
    let piece = take c.in-Ok.size c.read_some.new.chunk in
    let long : length piece ≡ c.in-Ok.size = length-take-le c.in-Ok.size c.read_some.new.chunk (omega (arith, c.in-Ok.ensures.size.0)) in
    record {
      so_far = (
        taken ++ piece,
        consumes_both _ _ _ taken piece consumed c.in-Ok.ensures.taken,
        omega (arith, many, long, length-append taken piece),
        c.in-All.ensures.all refl taken h,
      );
      within = omega (arith, c.in-Ok.ensures.size.1, c.loop-taken-test.true);
      counted = omega (arith, c.in-All.ensures.counted refl, i.counted, long);
      chunk = c.in-Ok.ensures.room ∙ i.chunk;
      reads = c.in-Ok.ensures.faults_unchanged ∙ i.reads;
    }
