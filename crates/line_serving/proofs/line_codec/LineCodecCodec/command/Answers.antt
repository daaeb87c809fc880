use Rattle.std.proofs.Common.{[], ◌∷◌, sym, subst}
use Rattle.module_frames.specs.Fragments.{Fragment}
use Rattle.module_frames.specs.CommandFrames.{CommandFrame}
use Rattle.command_lines.specs.CommandLines.{AreCommandLines}
use Rattle.line_serving.proofs.LineDecoding.{stands_command}
use Rattle.line_serving.proofs.line_codec.LineCodecCodec.command.Goals as goal

pub returns : goal.returns
returns c =
    let Stands : Fragment → Type 0 = λ held. (command : CommandFrame) × AreCommandLines held.bytes (command ∷ []) in
    let Units : Fragment → Type 0 = λ held. AreCommandLines held.bytes (c.self.inside.command ∷ []) in
    subst Units c.self.view_is (stands_command c.self.inside c.self.invariant (subst Stands (sym c.self.view_is) c.requires))
