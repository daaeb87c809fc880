use Rattle.std.proofs.Common.{◌≤◌, length, arith}
use Rattle.vector_suite.proofs.AllowedLengths.{aes_key, unwrappable}
use Rattle.vector_suite.proofs.Buffers.{front_length, unwrapped_size}
use Rattle.vector_suite.proofs.answers.is_unwrapped.Goals as goal

pub slice_bounds-buf-end : goal.slice_bounds-buf-end
slice_bounds-buf-end g c =
    let fits : c.in-Some.size ≤ 80 = unwrapped_size g.E.Engine.calls g.met.E.Engine.keeps c.args.engine.now c.args.pad c.args.key.now c.args.wrapped.now c.buffer_of-buf.result c.in-Some.size
    (record { fits = aes_key (length c.args.key.now) _ c.requires; bytes = λ n. omega (arith, c.type_inv.key n) }) (λ n. omega (arith, c.type_inv.wrapped n)) (unwrappable (length c.args.key.now) c.args.pad (length c.args.wrapped.now) c.requires)
    c.buffer_of-buf.ensures (c.in-Some.ensures.size c.args.key.now c.fill.ensures.filled) in
    omega (arith, fits, c.unwrap-unwrapped.array_long)

pub slice_bounds-equal-end : goal.slice_bounds-equal-end
slice_bounds-equal-end g c =
    let fits : c.in-Some.size ≤ 80 = unwrapped_size g.E.Engine.calls g.met.E.Engine.keeps c.args.engine.now c.args.pad c.args.key.now c.args.wrapped.now c.buffer_of-buf.result c.in-Some.size
    (record { fits = aes_key (length c.args.key.now) _ c.requires; bytes = λ n. omega (arith, c.type_inv.key n) }) (λ n. omega (arith, c.type_inv.wrapped n)) (unwrappable (length c.args.key.now) c.args.pad (length c.args.wrapped.now) c.requires)
    c.buffer_of-buf.ensures (c.in-Some.ensures.size c.args.key.now c.fill.ensures.filled) in
    front_length c.in-Some.size c.unwrap-unwrapped.new.buf (omega (arith, fits, c.unwrap-unwrapped.array_long))
