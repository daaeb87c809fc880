use Rattle.std.proofs.Common.{◌≡◌, ℕ, List, [], ◌∷◌, ◌++◌, ap, ◌∙◌, append_assoc}
use Rattle.bits_core.specs.declared.algorithm.Alg.TheVariants.{Sha256}
use Rattle.hmac_core.specs.Hmac.{hmac}
use Rattle.hmac_core.proofs.Lengths.{take-hmac256}
use Rattle.drbg_core.specs.Generator.{mix}
use Rattle.drbg_core.proofs.Requests.{same_parts}
use Rattle.drbg_core.proofs.generator.Drbg.mix.Goals as goal

pub returns : goal.returns
unfolding mix
returns c =
    let g = c.args.self.now in
    let byte = c.args.byte in
    let first = c.args.first.now in
    let second = c.args.second.now in
    let third = c.args.third.now in
    let held = c.update-5.ensures Sha256 g.k _ (c.update-4.ensures Sha256 g.k _ (c.update-3.ensures Sha256 g.k _ (c.update-2.ensures Sha256 g.k _ (c.update.ensures Sha256 g.k [] c.new-stream.ensures)))) in
    let text : List ℕ = g.v ++ byte ∷ [] ++ first ++ second ++ third in
    let regrouped : text ≡ g.v ++ byte ∷ (first ++ second ++ third) = simp append_assoc in
    let key : c.finish_leftmost-self.result ≡ hmac Sha256 g.k (g.v ++ byte ∷ (first ++ second ++ third)) =
    c.finish_leftmost-self.ensures Sha256 g.k text held ∙ take-hmac256 g.k text ∙ ap (hmac Sha256 g.k) regrouped in
    same_parts _ _ _ _ _ key (c.next-self.ensures c.finish_leftmost-self.result c.new.ensures ∙ ap (λ (k : List ℕ). hmac Sha256 k g.v) key)
