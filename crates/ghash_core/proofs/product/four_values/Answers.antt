use Rattle.ghash_core.proofs.ByteProducts.{values_are, four_polynomials}
use Rattle.ghash_core.proofs.product.four_values.Goals as goal

pub returns : goal.returns
returns c l m n o pa pb pc pd =
    let k = c.args.k in
    four_polynomials k l m n o c.args.x c.args.y c.args.z c.args.w _ _ _ _ _ _ _ _ c.fits-x.0 c.fits-y.0 c.fits-z.0 c.fits-w.0
    c.values-4.ensures c.values.ensures c.values-2.ensures c.values-3.ensures
    (values_are c.args.a.now l k _ c.args.x pa c.requires c.fits-x.1)
    (values_are c.args.b.now m k _ c.args.y pb c.requires c.fits-y.1)
    (values_are c.args.c.now n k _ c.args.z pc c.requires c.fits-z.1)
    (values_are c.args.d.now o k _ c.args.w pd c.requires c.fits-w.1)
