use Rattle.std.proofs.Common.{refl}
use Rattle.program_words.specs.Forms.{Check}
use Rattle.module_top.proofs.RunOutcomes.{no_memory}
use Rattle.module_top.proofs.TranscriptOutcomes.{transcript_checked}
use Rattle.module_top.proofs.checking.check_pairs.Goals as goal

pub returns-in-Ok : goal.returns-in-Ok
returns-in-Ok g c = record {
  outcome = λ engine files file_faults.
      rw c.result_of.ensures (transcript_checked g.E.Engine.calls engine files c.in-Ok.answer _ _ refl c.in-Ok.ensures.checked c.in-Ok.ensures.reads c.in-Ok.ensures.writes);
}

pub returns-in-Err : goal.returns-in-Err
returns-in-Err g c = record {
  outcome = λ engine files file_faults. rw (c.in-Err.ensures.untouched.0, c.in-Err.ensures.untouched.1) (no_memory g.E.Engine.calls engine files Check _ file_faults refl);
}
