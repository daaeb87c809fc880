use Rattle.std.proofs.Common.{sym, refl, ◌∙◌}
use Rattle.outside.proofs.Explanations.{explained_by}
use Rattle.command_serving.proofs.StreamEnds.{broken_ending, fault_unfinished, no_read_failed, no_write_failed}
use Rattle.command_serving.proofs.serving.serve_end.Goals as goal

pub returns-in-All-clause-ended : goal.returns-in-All-clause-ended
returns-in-All-clause-ended g c _ =
    let held = g.C.Codec.holds c.serve_chunk.new.codec in
    let done = c.in-All.ensures.done refl in
    explained_by _ _ (c.in-All.ensures.all refl) (λ events left served. record {
      mark = c.end_mark.result.now;
      is_mark = c.end_mark.ensures.read;
      start = held.start;
      remainder = held.bytes;
      begins = done.place;
      unfinished = done.ready.unfinished;
      ends = c.end_of.ensures;
      served = served;
    })

pub returns-in-All-clause-no_read : goal.returns-in-All-clause-no_read
returns-in-All-clause-no_read g c is = no_read_failed g.C.Codec.grammar _ _ (sym c.end_of.ensures ∙ is)

pub returns-in-All-clause-write_fault : goal.returns-in-All-clause-write_fault
returns-in-All-clause-write_fault g c is = absurd (no_write_failed g.C.Codec.grammar _ _ (sym c.end_of.ensures ∙ is))

pub returns-in-All-clause-fault_counted : goal.returns-in-All-clause-fault_counted
returns-in-All-clause-fault_counted g c is = absurd (no_write_failed g.C.Codec.grammar _ _ (sym c.end_of.ensures ∙ is))

pub returns-in-Fault-clause-ended : goal.returns-in-Fault-clause-ended
returns-in-Fault-clause-ended g c _ =
    let lawful = g.met.C.Codec.lawful in
    let (start', rest, shown, next) = c.in-Fault.ensures.fault c.in-Fault.number refl in
    explained_by _ _ next (λ events left served. record {
      mark = c.end_mark.result.now;
      is_mark = c.end_mark.ensures.read;
      start = start';
      remainder = rest;
      begins = shown.begins;
      unfinished = fault_unfinished g.C.Codec.grammar lawful start' rest c.in-Fault.number shown.fault;
      ends = sym (broken_ending g.C.Codec.grammar lawful start' rest c.in-Fault.number shown.fault);
      served = served;
    })

pub returns-in-WriteFault-clause-write_fault : goal.returns-in-WriteFault-clause-write_fault
returns-in-WriteFault-clause-write_fault g c _ =
    explained_by _ _ (c.in-WriteFault.ensures.write_fault refl) (λ events left failed. record { mark = c.end_mark.result.now; is_mark = c.end_mark.ensures.read; failed = failed })
