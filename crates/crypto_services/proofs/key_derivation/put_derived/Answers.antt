use Rattle.crypto_services.proofs.ZeroWork.{front_of_zeros}
use Rattle.crypto_services.proofs.key_derivation.put_derived.Goals as goal

pub derive-requires-clause-zero : goal.derive-requires-clause-zero
derive-requires-clause-zero g c = front_of_zeros c.args.size 64
