use Rattle.std.proofs.Common.{◌++◌, ◌∙◌, List, ℕ, drop, ap, arith}
use Rattle.bits_core.specs.ByteList.{zeros}
use Rattle.bits_core.specs.declared.limits.TheConstants.{LARGEST_PAYLOAD}
use Rattle.crypto_services.proofs.ZeroWork.{front_wiped}
use Rattle.crypto_services.proofs.work.seed_in.Goals as goal

pub returns-clause-zero : goal.returns-clause-zero
returns-clause-zero g c =
    ap (λ (xs : List ℕ). xs ++ drop 1408 c.args.work.now) c.instantiate.ensures.wiped
    ∙ ap (λ (xs : List ℕ). zeros 1408 ++ drop 1408 xs) c.requires.zero ∙ front_wiped 1408 LARGEST_PAYLOAD (omega arith)
