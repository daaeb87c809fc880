use Rattle.std.proofs.Common.{◌≡◌, ℕ, ◌<◌, ◌≤◌, [], take, length, ap, ◌∙◌, sym, subst, arith}
use Rattle.bits_core.specs.Algorithms.{alg_size, alg_block}
use Rattle.bits_core.specs.ByteList.{zero_padded}
use Rattle.hmac_core.specs.Hash.{hash}
use Rattle.bits_core.proofs.ZeroPadding.{take-zero_padded}
use Rattle.hmac_core.proofs.Lengths.{take-padded_digest, long_key, short_key, size_le_block, block_le, length-hash}
use Rattle.hmac_core.proofs.mac.padded_key.Goals as goal

pub returns-then-key-block : goal.returns-then-key-block
returns-then-key-block c =
    let alg = c.args.alg in
    let key = c.args.key.now in
    let held = c.update.ensures alg [] c.new-hasher.ensures in
    let cut : take c.size.result c.finish-digest.result ≡ hash alg key = ap (λ (n : ℕ). take n c.finish-digest.result) c.size.ensures ∙ ap (take (alg_size alg)) (c.finish-digest.ensures alg key held) ∙ take-padded_digest alg key in
    let long : alg_block alg < length key = subst (λ (n : ℕ). n < length key) c.block.ensures c.if-key-block.true in
    ap (take (alg_block alg)) (c.widened-block.ensures ∙ ap (zero_padded 128) cut)
    ∙ take-zero_padded (alg_block alg) 128 (hash alg key) (omega (arith, length-hash alg key, size_le_block alg)) (block_le alg)
    ∙ sym (long_key alg key long)

pub returns-else-key-block : goal.returns-else-key-block
returns-else-key-block c =
    let alg = c.args.alg in
    let key = c.args.key.now in
    let short : length key ≤ alg_block alg = subst (λ (n : ℕ). length key ≤ n) c.block.ensures c.if-key-block.false in
    ap (take (alg_block alg)) c.widened.ensures
    ∙ take-zero_padded (alg_block alg) 128 key short (block_le alg)
    ∙ sym (short_key alg key short)
