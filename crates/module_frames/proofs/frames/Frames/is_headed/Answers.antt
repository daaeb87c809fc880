use Rattle.std.proofs.Common.{◌≡◌, ◌<◌, arith, inl}
use Rattle.std.proofs.lemmas.Bool.Decides.{nat_tests}
use Rattle.module_frames.specs.Streams.{header_length}
use Rattle.module_frames.proofs.Holding.{length-held, header_length-held, held_partial, held_short}
use Rattle.module_frames.proofs.frames.Frames.is_headed.Goals as goal

pub returns-clause-yes : goal.returns-clause-yes
returns-clause-yes c whole =
    let same : c.self.inside.count ≡ header_length c.self.inside.header = grind (arith, nat_tests, whole, c.header_length.ensures) in
    rw (← c.self.view_is) (omega (arith, same, length-held c.self.inside c.self.invariant, header_length-held c.self.inside c.self.invariant))

pub returns-clause-short : goal.returns-clause-short
returns-clause-short c part =
    let less : c.self.inside.count < header_length c.self.inside.header = grind (arith, nat_tests, part, c.header_length.ensures, c.self.invariant.most) in
    rw (← c.self.view_is) (omega (arith, less, (held_short c.self.inside c.self.invariant less).0, header_length-held c.self.inside c.self.invariant))

pub returns-clause-incomplete : goal.returns-clause-incomplete
returns-clause-incomplete c part =
    let less : c.self.inside.count < header_length c.self.inside.header = grind (arith, nat_tests, part, c.header_length.ensures, c.self.invariant.most) in
    rw (← c.self.view_is) (held_partial c.self.inside c.self.invariant (inl less))
