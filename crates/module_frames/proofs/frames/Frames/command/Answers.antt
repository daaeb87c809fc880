use Rattle.module_frames.proofs.Holding.{held_command}
use Rattle.module_frames.proofs.frames.Frames.command.Goals as goal

pub returns : goal.returns
returns c =
    let frame = rw (← c.self.view_is) at c.requires in
    rw (← c.self.view_is) (held_command c.self.inside c.self.invariant frame.0 frame.1)
