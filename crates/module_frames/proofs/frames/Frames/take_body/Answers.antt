use Rattle.std.proofs.Common.{◌≡◌, ◌+◌, ◌-◌, length, take, arith, ◌∙◌, ap}
use Rattle.std.specs.Prelude.{min}
use Rattle.std.proofs.lemmas.List.{length-take}
use Rattle.module_frames.specs.Streams.{header_length, body_length}
use Rattle.module_frames.specs.Readers.{held_by}
use Rattle.module_frames.proofs.Holding.{length-held, is_headed, header_length-held, body_length-held, known_is_sendable, pushed_reader}
use Rattle.module_frames.proofs.frames.Frames.take_body.Goals as goal

pub push-requires : goal.push-requires
push-requires c =
    let headed = rw (← c.self.view_is) at c.requires.headed in
    let whole = is_headed c.self.inside c.self.invariant headed in
    let few = known_is_sendable c.self.inside c.self.invariant whole in
    let within = c.self.invariant.within whole in
    omega (arith, length-take c.min-taken.result c.args.piece.now, c.min-taken.ensures, ap length c.body.ensures.body, c.body_length.ensures.known, few, within)

pub returns-clause-taken : goal.returns-clause-taken
returns-clause-taken c =
    let r = c.self.inside in
    let headed = rw (← c.self.view_is) at c.requires.headed in
    let whole = is_headed r c.self.invariant headed in
    let missing : c.body_length.result - length c.body.result.now ≡ header_length (held_by r) + body_length (held_by r) - length (held_by r) =
    omega (arith, whole, length-held r c.self.invariant, header_length-held r c.self.invariant, body_length-held r c.self.invariant whole, c.body_length.ensures.known, ap length c.body.ensures.body) in
    rw (← c.self.view_is) (c.min-taken.ensures ∙ ap (λ n. min n (length c.args.piece.now)) missing)

pub invariant_of-self : goal.invariant_of-self
invariant_of-self c =
    let r = c.self.inside in
    let headed = rw (← c.self.view_is) at c.requires.headed in
    let whole = is_headed r c.self.invariant headed in
    let few = known_is_sendable r c.self.invariant whole in
    let within = c.self.invariant.within whole in
    let short = rw (← c.self.view_is) at c.requires.short in
    let long = length-take c.min-taken.result c.args.piece.now in
    rw c.push.ensures
    (pushed_reader r (take c.min-taken.result c.args.piece.now) c.self.invariant whole
    (omega (arith, long, c.min-taken.ensures, ap length c.body.ensures.body, c.body_length.ensures.known, within)) (omega (arith, long, short)))
