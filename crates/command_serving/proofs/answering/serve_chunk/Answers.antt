use Rattle.std.proofs.Common.{◌≡◌, ◌++◌, [], drop, refl, ◌∙◌, ap, subst, arith}
use Rattle.std.proofs.lemmas.List.{take_rest}
use Rattle.outside.proofs.Explanations.{explained_none, explained_both, explained_by}
use Rattle.module_frames.specs.Fragments.{Fragment}
use Rattle.command_serving.specs.Chunks.{FaultShown}
use Rattle.command_serving.proofs.CommandRuns.{served_none}
use Rattle.command_serving.proofs.ChunkSteps.{Underway, chunk_done, chunk_served, fault_shown, fault_served, unit_done, unit_skipped, command_served, command_cut}
use Rattle.command_serving.proofs.answering.serve_chunk.Goals as goal

pub loop-done-init : goal.loop-done-init
loop-done-init g c =
    let lawful = g.met.C.Codec.lawful in
    record {
      within = omega arith;
      served = explained_none _ _ (λ events. served_none g.C.Codec.grammar g.E.Engine.calls lawful _ _ events);
      ready = c.requires.ready;
      place = omega (arith, lawful.advance_within []);
      short = omega arith;
      faults_unchanged = refl;
    }

pub returns-in-More-clause-done : goal.returns-in-More-clause-done
returns-in-More-clause-done g c _ =
    let i = c.loop-done.invariant in
    let took = rw (take_rest c.args.chunk.now c.loop-done.done) at c.in-More.ensures in
    let way : Underway g.C.Codec.grammar (g.C.Codec.holds c.args.codec.now) c.args.chunk.now c.loop-done.done (g.C.Codec.holds c.loop-done.codec) =
    record { within = i.within; ready = i.ready; place = i.place; short = i.short } in
    chunk_done g.C.Codec.grammar g.met.C.Codec.lawful way took

pub returns-in-More-clause-all : goal.returns-in-More-clause-all
returns-in-More-clause-all g c _ =
    let i = c.loop-done.invariant in
    let took = rw (take_rest c.args.chunk.now c.loop-done.done) at c.in-More.ensures in
    explained_by _ _ i.served (λ events left served.
    chunk_served g.C.Codec.grammar g.E.Engine.calls g.met.C.Codec.lawful (g.C.Codec.holds c.args.codec.now) (g.C.Codec.holds c.loop-done.codec) (g.C.Codec.holds c.decode.new.self) c.args.chunk.now c.loop-done.done served took)

pub returns-in-Fault-clause-fault : goal.returns-in-Fault-clause-fault
returns-in-Fault-clause-fault g c number is =
    let i = c.loop-done.invariant in
    let old = g.C.Codec.holds c.args.codec.now in
    let mid = g.C.Codec.holds c.loop-done.codec in
    let took = rw (take_rest c.args.chunk.now c.loop-done.done) at c.in-Fault.ensures in
    let way : Underway g.C.Codec.grammar old c.args.chunk.now c.loop-done.done mid =
    record { within = i.within; ready = i.ready; place = i.place; short = i.short } in
    let same : c.in-Fault.number ≡ number = cc in
    let remainder = mid.bytes ++ drop c.loop-done.done c.args.chunk.now in (
      mid.start,
      remainder,
      subst (λ n. FaultShown g.C.Codec.grammar old c.args.chunk.now mid.start remainder n) same
          (fault_shown g.C.Codec.grammar g.met.C.Codec.lawful way took),
      explained_by _ _ i.served (λ events left served. fault_served g.C.Codec.grammar g.E.Engine.calls g.met.C.Codec.lawful old mid c.args.chunk.now c.loop-done.done served),
    )

pub returns-in-Err-clause-write_fault : goal.returns-in-Err-clause-write_fault
returns-in-Err-clause-write_fault g c _ =
    let i = c.loop-done.invariant in
    let took = rw (take_rest c.args.chunk.now c.loop-done.done) at c.in-Command.ensures in
    explained_both _ _ _ i.served c.in-Err.ensures.part
    (λ events between left served cut.
    command_cut g.C.Codec.grammar g.E.Engine.calls g.met.C.Codec.lawful (g.C.Codec.holds c.args.codec.now) (g.C.Codec.holds c.loop-done.codec) (g.C.Codec.holds c.decode.new.self) c.args.chunk.now c.loop-done.done c.in-Command.count
    took.2 served cut)

-- a command was done and answered
pub loop-done-preserved : goal.loop-done-preserved
loop-done-preserved g c =
    let i = c.loop-done.invariant in
    let old = g.C.Codec.holds c.args.codec.now in
    let mid = g.C.Codec.holds c.loop-done.codec in
    let took = rw (take_rest c.args.chunk.now c.loop-done.done) at c.in-Command.ensures in
    let way : Underway g.C.Codec.grammar old c.args.chunk.now c.loop-done.done mid =
    record { within = i.within; ready = i.ready; place = i.place; short = i.short } in
    let next = unit_done g.C.Codec.grammar g.met.C.Codec.lawful way took.1 took.2 c.in-Ok.ensures.forgotten in
    let none : (g.C.Codec.holds c.answer.new.codec).bytes ≡ [] = ap (λ (f : Fragment). f.bytes) c.in-Ok.ensures.forgotten in
    record {
      within = next.within;
      served = rw none (explained_both _ _ _ i.served c.in-Ok.ensures.whole
          (λ events between left served answered.
          command_served g.C.Codec.grammar g.E.Engine.calls g.met.C.Codec.lawful old mid (g.C.Codec.holds c.decode.new.self) c.args.chunk.now c.loop-done.done c.in-Command.count took.2 served answered));
      ready = next.ready;
      place = next.place;
      short = next.short;
      faults_unchanged = c.in-Ok.ensures.faults_unchanged ∙ i.faults_unchanged;
    }

-- a unit that makes no command was skipped
pub loop-done-preserved-in-Skipped : goal.loop-done-preserved-in-Skipped
loop-done-preserved-in-Skipped g c =
    let i = c.loop-done.invariant in
    let old = g.C.Codec.holds c.args.codec.now in
    let mid = g.C.Codec.holds c.loop-done.codec in
    let took = rw (take_rest c.args.chunk.now c.loop-done.done) at c.in-Skipped.ensures in
    let way : Underway g.C.Codec.grammar old c.args.chunk.now c.loop-done.done mid =
    record { within = i.within; ready = i.ready; place = i.place; short = i.short } in
    let next = unit_done g.C.Codec.grammar g.met.C.Codec.lawful way took.1 refl took.2 in
    let none : (g.C.Codec.holds c.decode.new.self).bytes ≡ [] = ap (λ (f : Fragment). f.bytes) took.2 in
    record {
      within = next.within;
      served = rw none (explained_by _ _ i.served
          (λ events left served. unit_skipped g.C.Codec.grammar g.E.Engine.calls g.met.C.Codec.lawful old mid c.args.chunk.now c.loop-done.done c.in-Skipped.count took.3 served));
      ready = next.ready;
      place = next.place;
      short = next.short;
      faults_unchanged = i.faults_unchanged;
    }
