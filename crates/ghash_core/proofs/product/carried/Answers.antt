use Rattle.std.proofs.Common.{ℕ, List, ◌∙◌, ap, ◌∷◌, take, bit_xor}
use Rattle.ghash_core.specs.ByBytes.{reduced}
use Rattle.ghash_core.proofs.ByteSums.{carried}
use Rattle.ghash_core.proofs.product.carried.Goals as goal
use lib.Lanes.{zip2}

pub returns-clause-sum : goal.returns-clause-sum
returns-clause-sum c =
    let sum = c.args.sum in
    let vs = c.args.values in
    ap (λ (x : List ℕ). reduced (zip2 bit_xor x vs) c.up_from.result) c.up.ensures
    ∙ ap (reduced (zip2 bit_xor (0 ∷ take 15 sum) vs)) c.up_from.ensures
    ∙ carried sum c.args.over vs c.fits-sum.0 c.fits-over.0 c.fits-values.0 c.requires
