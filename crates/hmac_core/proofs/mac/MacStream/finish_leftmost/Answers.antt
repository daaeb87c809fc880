use Rattle.std.proofs.Common.{take, ap, ◌∙◌}
use Rattle.hmac_core.proofs.Lengths.{take-padded_mac}
use Rattle.hmac_core.proofs.mac.MacStream.finish_leftmost.Goals as goal

pub returns : goal.returns
returns c alg key text held =
    c.leftmost-out.ensures ∙ ap (take 32) (c.finish.ensures alg key text held) ∙ take-padded_mac alg key text
