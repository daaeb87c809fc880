use Rattle.std.proofs.Common.{◌≡◌, ℕ, ◌∙◌, arith}
use Rattle.std.proofs.Math.ListN.{length-set}
use Rattle.ghash_core.proofs.PlaceValues.{byte_of, own_byte}
use Rattle.ghash_core.proofs.BlockNumbers.{number_from_bytes}
use Rattle.ghash_core.proofs.Written.{written}
use Rattle.ghash_core.proofs.key_places.multiplicand.Goals as goal

pub loop-k-preserved : goal.loop-k-preserved
loop-k-preserved c =
    let k = c.loop-k.k in
    let inv = c.loop-k.invariant in
    record {
      size = length-set c.loop-k.bytes k _ ∙ inv.size;
      read = λ h are j l. written (λ (q b : ℕ). b ≡ byte_of q h) c.loop-k.bytes _ 0 k j (omega (arith, inv.size)) (own_byte _ h k (are.each k _ c.loop-k-test.true)) (λ other. inv.read h are j (omega arith));
    }

pub returns : goal.returns
returns c h are = c.number.ensures ∙ number_from_bytes c.loop-k.bytes h c.loop-k.invariant.size are.below (λ k l. c.loop-k.invariant.read h are k (omega arith))
