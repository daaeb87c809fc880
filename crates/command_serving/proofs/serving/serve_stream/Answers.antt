use Rattle.std.proofs.Common.{◌≡◌, ◌<◌, ◌+◌, ◌++◌, inl, inr, [], length, take, refl, sym, ◌∙◌, ap, subst, arith, length-append}
use Rattle.std.proofs.lemmas.List.{length-take-le, append-nil}
use Rattle.outside.specs.Contents.{Consumes}
use Rattle.outside.proofs.ConsecutiveCalls.{consumes_none, consumes_both}
use Rattle.outside.proofs.Explanations.{explained_none, explained_both, explained_by}
use Rattle.command_serving.specs.Run.{remainder_start, ending_of}
use Rattle.command_serving.specs.Serving.{AskedNoFurther}
use Rattle.stream_calls.specs.declared.limits.TheConstants.{STREAM_MAX}
use Rattle.command_serving.proofs.CommandRuns.{served_none, served_both, cut_both}
use Rattle.command_serving.proofs.StreamEnds.{answered_of, asked_no_further, write_failed_or_not, ends_at, fails_at, all_of, broken_ending, fault_unfinished}
use Rattle.command_serving.proofs.serving.serve_stream.Goals as goal

pub loop-taken-init : goal.loop-taken-init
loop-taken-init g c =
    let lawful = g.met.C.Codec.lawful in
    record {
      served = (
        [],
        consumes_none _,
        refl,
        rw c.requires.new (omega arith),
        rw c.requires.new (explained_none _ _ (λ events. served_none g.C.Codec.grammar g.E.Engine.calls lawful _ _ events)),
      );
      ready = rw c.requires.new (record { no_earlier_fault = refl; no_fault = lawful.nothing_wrong; unfinished = lawful.nothing_begun });
      short = rw c.requires.new (omega arith);
      within = omega arith;
      reads = refl;
      writes = refl;
    }

pub returns-in-Err-clause-served : goal.returns-in-Err-clause-served
returns-in-Err-clause-served g c =
    let i = c.loop-taken.invariant in
    let so_far = i.served in
    let consumes = subst (λ left. Consumes (g.S.Source.left c.args.commands.now) so_far.0 left) (sym c.in-Err.ensures.kept) so_far.1 in
    explained_by _ _ so_far.4 (λ events left served s represents. (
      so_far.0,
      so_far.0,
      (g.C.Codec.holds c.loop-taken.codec).bytes,
      consumes,
      answered_of g.C.Codec.grammar g.E.Engine.calls _ _ s represents served i.ready.unfinished,
      (omega (arith, so_far.2, c.loop-taken-test.true), refl, i.ready.no_fault),
    ))

-- the source ended
pub returns-in-Ok-eq0-clause-served : goal.returns-in-Ok-eq0-clause-served
returns-in-Ok-eq0-clause-served g c =
    let grammar = g.C.Codec.grammar in
    let lawful = g.met.C.Codec.lawful in
    let i = c.loop-taken.invariant in
    let held = g.C.Codec.holds c.loop-taken.codec in
    let so_far = i.served in
    let zero : c.in-Ok-eq0.field-0 ≡ 0 = omega (arith, c.in-Ok-eq0.field-0-test) in
    let none = rw zero at c.in-Ok-eq0.ensures.taken in
    let over = c.in-Ok-eq0.ensures.end zero in
    let consumes = subst (λ taken. Consumes (g.S.Source.left c.args.commands.now) taken (g.S.Source.left c.read_some.new.source)) (append-nil so_far.0) (consumes_both _ _ _ so_far.0 [] so_far.1 none) in
    let below : length so_far.0 < STREAM_MAX = omega (arith, so_far.2, c.loop-taken-test.true) in
    let all = all_of _ _ so_far.0 so_far.1 over in
    elim (write_failed_or_not c.serve_end.result) [
      | inl failed ↦ explained_both _ _ _ so_far.4 (c.serve_end.ensures.write_fault failed) (λ events between left first second s represents.
          fails_at grammar g.E.Engine.calls lawful c.serve_end.result (length c.args.chunk.now) s _ _ failed represents first second.failed consumes
          (record { read_at_end = sym (second.is_mark so_far.0); below_limit = below; all = all }))
      | inr none_failed ↦ explained_both _ _ _ so_far.4 (c.serve_end.ensures.ended none_failed) (λ events between left first second s represents.
          ends_at grammar g.E.Engine.calls c.serve_end.result second.start (length c.args.chunk.now) second.remainder so_far.0 (so_far.0 ++ second.mark) s c.serve_end.new.module _ _ events left second.ends
          (record {
            begins = omega (arith, lawful.advance_both so_far.0 second.mark, second.begins, so_far.3);
            consumes = consumes;
            answered = answered_of grammar g.E.Engine.calls _ _ s represents (served_both grammar g.E.Engine.calls lawful first second.served) second.unfinished;
            to_end = record { read_at_end = sym (second.is_mark so_far.0); below_limit = below; all = all };
            asked = subst (λ xs. AskedNoFurther grammar (length c.args.chunk.now) xs) (append-nil so_far.0)
                (asked_no_further grammar g.E.Engine.calls held (length c.args.chunk.now) [] s represents first i.ready (omega arith));
          }))
    ]

pub returns-in-Fault-clause-served : goal.returns-in-Fault-clause-served
returns-in-Fault-clause-served g c =
    let grammar = g.C.Codec.grammar in
    let lawful = g.met.C.Codec.lawful in
    let i = c.loop-taken.invariant in
    let held = g.C.Codec.holds c.loop-taken.codec in
    let so_far = i.served in
    let (start', remainder, shown, next) = c.in-Fault.ensures.fault c.in-Fault.number refl in
    let piece = take c.in-Ok.count c.read_some.new.chunk in
    let long : length piece ≡ c.in-Ok.count = length-take-le c.in-Ok.count c.read_some.new.chunk (omega (arith, c.in-Ok.ensures.size.0)) in
    let all : length (so_far.0 ++ piece) ≡ c.loop-taken.taken + c.in-Ok.count = omega (arith, so_far.2, long, length-append so_far.0 piece) in
    let start : remainder_start grammar (so_far.0 ++ piece) remainder ≡ start' = omega (arith, lawful.advance_both so_far.0 piece, shown.begins, so_far.3) in
    explained_both _ _ _ so_far.4 next (λ events between left first second s represents. (
      so_far.0 ++ piece,
      so_far.0 ++ piece,
      remainder,
      consumes_both _ _ _ _ _ so_far.1 c.in-Ok.ensures.taken,
      answered_of grammar g.E.Engine.calls _ _ s represents (served_both grammar g.E.Engine.calls lawful first second) (fault_unfinished grammar lawful start' remainder c.in-Fault.number shown.fault),
      (
        ap (λ n. ending_of grammar n remainder) start ∙ broken_ending grammar lawful start' remainder c.in-Fault.number shown.fault,
        omega (arith, all, c.in-Ok.ensures.size.1, c.loop-taken-test.true),
        inl refl,
        asked_no_further grammar g.E.Engine.calls held (length c.args.chunk.now) piece s represents first i.ready (omega (arith, long, c.in-Ok.ensures.size.0)),
      ),
    ))

pub returns-in-WriteFault-clause-served : goal.returns-in-WriteFault-clause-served
returns-in-WriteFault-clause-served g c =
    let so_far = c.loop-taken.invariant.served in
    let read = so_far.0 ++ take c.in-Ok.count c.read_some.new.chunk in
    explained_both _ _ _ so_far.4 (c.in-WriteFault.ensures.write_fault refl) (λ events between left first second s represents. (
      read,
      read,
      consumes_both _ _ _ _ _ so_far.1 c.in-Ok.ensures.taken,
      inl refl,
      (cut_both g.C.Codec.grammar g.E.Engine.calls g.met.C.Codec.lawful first second).each s represents,
    ))

pub loop-taken-preserved : goal.loop-taken-preserved
loop-taken-preserved g c =
    let lawful = g.met.C.Codec.lawful in
    let i = c.loop-taken.invariant in
    let so_far = i.served in
    let done = c.in-All.ensures.done refl in
    let piece = take c.in-Ok.count c.read_some.new.chunk in
    let long : length piece ≡ c.in-Ok.count = length-take-le c.in-Ok.count c.read_some.new.chunk (omega (arith, c.in-Ok.ensures.size.0)) in
    record {
      served = (
        so_far.0 ++ piece,
        consumes_both _ _ _ _ _ so_far.1 c.in-Ok.ensures.taken,
        omega (arith, so_far.2, long, length-append so_far.0 piece),
        omega (arith, done.place, so_far.3, lawful.advance_both so_far.0 piece),
        explained_both _ _ _ so_far.4 (c.in-All.ensures.all refl) (λ events between left first second. served_both g.C.Codec.grammar g.E.Engine.calls lawful first second),
      );
      ready = done.ready;
      short = omega (arith, done.short, i.short, long);
      within = omega (arith, c.in-Ok.ensures.size.1, c.loop-taken-test.true);
      reads = c.in-Ok.ensures.faults_unchanged ∙ i.reads;
      writes = c.in-All.ensures.faults_unchanged (λ e. cc) ∙ i.writes;
    }

pub returns-clause-served : goal.returns-clause-served
returns-clause-served g c =
    let i = c.loop-taken.invariant in
    let so_far = i.served in
    explained_by _ _ so_far.4 (λ events left served s represents. (
      so_far.0,
      so_far.0,
      (g.C.Codec.holds c.loop-taken.codec).bytes,
      so_far.1,
      answered_of g.C.Codec.grammar g.E.Engine.calls _ _ s represents served i.ready.unfinished,
      (omega (arith, so_far.2, i.within, c.loop-taken-test.false), refl, i.ready.no_fault),
    ))
