use Rattle.std.proofs.Common.{◌≤◌, length, arith}
use Rattle.vector_suite.proofs.AllowedLengths.{wrappable}
use Rattle.vector_suite.proofs.Buffers.{front_length, wrapped_size}
use Rattle.vector_suite.proofs.answers.is_wrapped.Goals as goal

pub slice_bounds-buf-end : goal.slice_bounds-buf-end
slice_bounds-buf-end g c =
    let fits : c.wrap-size.result ≤ 80 = wrapped_size g.E.Engine.calls g.met.E.Engine.keeps c.args.engine.now c.args.pad c.args.key.now c.args.text.now c.buffer_of-buf.result c.wrap-size.result
    (wrappable (length c.args.key.now) c.args.pad (length c.args.text.now) c.requires) c.buffer_of-buf.ensures (c.wrap-size.ensures.size c.args.key.now c.fill.ensures.filled) in
    omega (arith, fits, c.wrap-size.array_long)

pub slice_bounds-equal-end : goal.slice_bounds-equal-end
slice_bounds-equal-end g c =
    let fits : c.wrap-size.result ≤ 80 = wrapped_size g.E.Engine.calls g.met.E.Engine.keeps c.args.engine.now c.args.pad c.args.key.now c.args.text.now c.buffer_of-buf.result c.wrap-size.result
    (wrappable (length c.args.key.now) c.args.pad (length c.args.text.now) c.requires) c.buffer_of-buf.ensures (c.wrap-size.ensures.size c.args.key.now c.fill.ensures.filled) in
    front_length c.wrap-size.result c.wrap-size.new.buf (omega (arith, fits, c.wrap-size.array_long))
