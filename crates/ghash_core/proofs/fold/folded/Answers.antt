use Rattle.std.proofs.Common.{◌∙◌, ap, ◌∷◌, take, List, ℕ, bit_xor, map}
use Rattle.ghash_core.specs.ByBytes.{polynomial}
use Rattle.ghash_core.specs.Places.{value_at}
use Rattle.ghash_core.specs.declared.fold.TheConstants.{FOLD}
use Rattle.ghash_core.proofs.Folding.{folds}
use Rattle.ghash_core.proofs.fold.folded.Goals as goal
use lib.Lanes.{zip2}

pub returns : goal.returns
returns c =
    let x = c.args.x in
    ap (λ (f : List ℕ). polynomial (zip2 bit_xor (zip2 bit_xor x f) c.up.result)) c.values.ensures
    ∙ ap (λ (s : List ℕ). polynomial (zip2 bit_xor (zip2 bit_xor x (map (value_at FOLD) c.args.over)) s)) (c.up.ensures ∙ ap (λ (s : List ℕ). 0 ∷ take 15 s) c.values-2.ensures)
    ∙ folds x c.args.over c.fits-x.0 c.fits-over.0 c.fits-over.1 c.requires
