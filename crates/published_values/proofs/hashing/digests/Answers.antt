use Rattle.std.proofs.Common.{refl}
use Rattle.sha2.specs.Sha256 as Small
use Rattle.sha2.specs.Sha512 as Large
use Rattle.published_values.specs.Bytes.{bytes}
use Rattle.published_values.proofs.hashing.digests.Goals as goal

pub returns-clause-by_256 : goal.returns-clause-by_256
unfolding Small.first_words Small.schedule Small.rounds Small.compress Small.hash_after Small.digest_bytes Small.sha256 Large.first_words Large.schedule Large.rounds Large.compress Large.hash_after Large.digest_bytes Large.sha384 Large.sha512 bytes
returns-clause-by_256 c = refl

pub returns-clause-by_384 : goal.returns-clause-by_384
unfolding Small.first_words Small.schedule Small.rounds Small.compress Small.hash_after Small.digest_bytes Small.sha256 Large.first_words Large.schedule Large.rounds Large.compress Large.hash_after Large.digest_bytes Large.sha384 Large.sha512 bytes
returns-clause-by_384 c = refl

pub returns-clause-by_512 : goal.returns-clause-by_512
unfolding Small.first_words Small.schedule Small.rounds Small.compress Small.hash_after Small.digest_bytes Small.sha256 Large.first_words Large.schedule Large.rounds Large.compress Large.hash_after Large.digest_bytes Large.sha384 Large.sha512 bytes
returns-clause-by_512 c = refl
