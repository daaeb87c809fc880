use Rattle.std.proofs.Common.{◌≡◌, ◌++◌, List, length}
use Rattle.outside.specs.Explained.{Explained}
use Rattle.module_frames.specs.CommandFrames.{CommandFrame}
use Rattle.module_frames.specs.ReplyFrames.{ReplyFrame}
use Rattle.session_runs.specs.Tallies.{IsTallyOf}
use Rattle.session_runs.specs.SessionRuns.{Answers}
use Rattle.session_runs.proofs.running.count_replies.Given as goal

abbrev pub invariant-loop-module : goal.invariant-loop-module
invariant-loop-module g l = (done : List CommandFrame) × (replies : List ReplyFrame) × (done ++ l.session ≡ l.fn.session) × (length replies ≡ length done) × IsTallyOf l.tally replies
    × Explained (g.N.Noise.left l.fn.noise) (g.N.Noise.left l.noise) (Answers g.E.Engine.calls done l.fn.module l.module replies)

abbrev pub decreases-loop-module : goal.decreases-loop-module
decreases-loop-module g l = length l.session
