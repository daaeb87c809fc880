use Rattle.std.proofs.Common.{ℕ, List, map, bit_xor, subst, ap, ◌∙◌, sym}
use Rattle.std.proofs.lemmas.List.{append-nil}
use Rattle.hmac_core.specs.Hash.{HoldsMessage}
use Rattle.hmac_core.specs.Hmac.{inner_key, outer_key}
use Rattle.hmac_core.proofs.mac.MacStream.new.Goals as goal

pub returns : goal.returns
unfolding inner_key outer_key
returns c =
    let alg = c.args.alg in
    let key = c.args.key.now in
    record {
      inner = subst (λ (m : List ℕ). HoldsMessage c.keyed-inner.result alg m) (ap (map (λ (b : ℕ). bit_xor b 0x36)) c.padded_key-block.ensures ∙ sym (append-nil (inner_key alg key))) c.keyed-inner.ensures;
      outer = subst (λ (m : List ℕ). HoldsMessage c.keyed-outer.result alg m) (ap (map (λ (b : ℕ). bit_xor b 0x5c)) c.padded_key-block.ensures) c.keyed-outer.ensures;
    }
