use Rattle.std.proofs.Common.{◌≡◌, ℕ, List, ◌++◌, take, ap, ◌∙◌}
use Rattle.bits_core.specs.Algorithms.{alg_size}
use Rattle.bits_core.specs.ByteList.{zero_padded}
use Rattle.hmac_core.specs.Hash.{hash}
use Rattle.hmac_core.specs.Hmac.{hmac, inner_key, outer_key}
use Rattle.hmac_core.proofs.Lengths.{take-padded_digest}
use Rattle.hmac_core.proofs.mac.MacStream.finish.Goals as goal

pub returns : goal.returns
unfolding hmac
returns c alg key text m =
    let inner = inner_key alg key ++ text in
    let digest = c.finish-digest.result in
    let size : c.size.result ≡ alg_size alg = c.size.ensures ∙ ap alg_size (c.alg-alg.ensures alg inner m.inner) in
    let cut : take c.size.result digest ≡ hash alg inner = ap (λ (n : ℕ). take n digest) size ∙ ap (take (alg_size alg)) (c.finish-digest.ensures alg inner m.inner) ∙ take-padded_digest alg inner in
    c.finish.ensures alg (outer_key alg key ++ take c.size.result digest) (c.update.ensures alg (outer_key alg key) m.outer)
    ∙ ap (λ (d : List ℕ). zero_padded 64 (hash alg (outer_key alg key ++ d))) cut
