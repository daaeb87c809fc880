use Rattle.std.proofs.Common.{◌++◌, ◌∙◌, List, ℕ, drop, length, ap}
use Rattle.bits_core.specs.ByteList.{zeros}
use Rattle.bits_core.specs.declared.limits.TheConstants.{LARGEST_PAYLOAD}
use Rattle.crypto_services.proofs.ZeroWork.{front_wiped}
use Rattle.crypto_services.proofs.in_place.open_in.Goals as goal

pub returns-clause-zero : goal.returns-clause-zero
returns-clause-zero g c =
    let n : ℕ = length c.args.text.now in
    ap (λ (xs : List ℕ). xs ++ drop n c.args.work.now) (c.open_front.ensures.wiped ∙ ap (λ (xs : List ℕ). zeros (length xs)) c.copy_from_slice.ensures.after)
    ∙ ap (λ (xs : List ℕ). zeros n ++ drop n xs) c.requires.zero ∙ front_wiped n LARGEST_PAYLOAD c.requires.text
