-- The digests (FIPS 180-4), as `sha2` states them, and what a hasher holds. A message is a list of bytes.
use Rattle.std.specs.Prelude.{ℕ, List}
use Rattle.sha2.specs.Sha256.{sha256}
use Rattle.sha2.specs.Sha512.{sha384, sha512}
use Rattle.sha2.specs.Hashers.{Holds256, Holds384, Holds512}
use Rattle.bits_core.specs.declared.algorithm.Alg.{Alg}
use Rattle.bits_core.specs.declared.algorithm.Alg.TheVariants.{Sha256, Sha384, Sha512}
use Rattle.hmac_core.specs.declared.hasher.Hasher.{Hasher}
use Rattle.hmac_core.specs.declared.hasher.Hasher.TheVariants.{Of256, Of384, Of512}

-- the digest of a message (FIPS 180-4, 6.2, 6.4 and 6.5)
abbrev pub hash : Alg → List ℕ → List ℕ
hash Sha256 message = sha256 message
hash Sha384 message = sha384 message
hash Sha512 message = sha512 message

-- the hasher is of this algorithm and has taken this message
abbrev pub HoldsMessage : Hasher → Alg → List ℕ → Type 0
HoldsMessage (Of256 hasher) Sha256 message = Holds256 hasher message
HoldsMessage (Of384 hasher) Sha384 message = Holds384 hasher message
HoldsMessage (Of512 hasher) Sha512 message = Holds512 hasher message
HoldsMessage (Of256 hasher) Sha384 message = ⊥
HoldsMessage (Of256 hasher) Sha512 message = ⊥
HoldsMessage (Of384 hasher) Sha256 message = ⊥
HoldsMessage (Of384 hasher) Sha512 message = ⊥
HoldsMessage (Of512 hasher) Sha256 message = ⊥
HoldsMessage (Of512 hasher) Sha384 message = ⊥
