use Rattle.std.proofs.Common.{length-drop, arith, ◌∙◌}
use Rattle.std.proofs.Math.Seq.{take-add}
use Rattle.std.proofs.lemmas.List.{take_rest}
use Rattle.outside.proofs.ConsecutiveCalls.{appends_both}
use Rattle.stream_calls.proofs.writing.write_all.Goals as goal

pub loop-done-preserved : goal.loop-done-preserved
loop-done-preserved g c = record {
  within = omega (arith, length-drop c.loop-done.done c.args.piece.now, c.in_ok-done.ensures.size);
  gained = rw (take-add c.loop-done.done c.in_ok-done.field-0 c.args.piece.now)
      (appends_both _ _ _ _ _ c.loop-done.invariant.gained (rw (take_rest c.args.piece.now c.loop-done.done) at c.in_ok-done.ensures.gained));
  faults_unchanged = c.in_ok-done.ensures.faults_unchanged ∙ c.loop-done.invariant.faults_unchanged;
}
