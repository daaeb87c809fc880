use Rattle.std.proofs.Common.{refl, arith}
use Rattle.ghash_core.specs.Number.{number_product}
use Rattle.ghash_core.proofs.Steps.{product_step, product_done}
use Rattle.ghash_core.proofs.bitwise.multiply.Goals as goal

pub loop-i-init : goal.loop-i-init
unfolding number_product
loop-i-init c = refl

pub loop-i-preserved : goal.loop-i-preserved
loop-i-preserved c =
    let e = product_step c.loop-i.z c.args.x c.loop-i.v c.loop-i.i (number_product c.args.x c.args.h) (omega arith) c.loop-i.invariant in
    cc

pub returns : goal.returns
returns c = product_done c.loop-i.z c.args.x c.loop-i.v c.loop-i.i (number_product c.args.x c.args.h) (omega arith) c.loop-i.invariant
