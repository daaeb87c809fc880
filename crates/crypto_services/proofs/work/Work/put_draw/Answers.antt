use Rattle.std.proofs.Common.{◌≡◌, ◌++◌, ◌∙◌, List, ℕ, drop, take, length, ap, sym}
use Rattle.bits_core.specs.ByteList.{zeros}
use Rattle.bits_core.specs.declared.limits.TheConstants.{LARGEST_PAYLOAD}
use Rattle.bits_core.proofs.ZeroPadding.{length-zeros}
use Rattle.crypto_services.proofs.ZeroWork.{whole_lent}
use Rattle.crypto_services.proofs.work.Work.put_draw.Goals as goal

pub invariant_of-self : goal.invariant_of-self
invariant_of-self g c =
    let long : c.self.inside.bytes.len ≡ LARGEST_PAYLOAD = sym c.deref_mut.ensures.len ∙ ap length c.deref_mut.ensures.value ∙ ap length c.self.invariant ∙ length-zeros LARGEST_PAYLOAD in
    ap (λ (xs : List ℕ). take c.self.inside.bytes.len (xs ++ drop (length xs) c.self.inside.bytes.items)) c.put_draw_in.ensures.zero
    ∙ ap (λ n. take n (zeros LARGEST_PAYLOAD ++ drop (length (zeros LARGEST_PAYLOAD)) c.self.inside.bytes.items)) long
    ∙ whole_lent LARGEST_PAYLOAD c.self.inside.bytes.items
