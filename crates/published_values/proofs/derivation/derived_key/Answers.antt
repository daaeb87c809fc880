use Rattle.std.proofs.Common.{refl}
use Rattle.sha2.specs.Sha256 as Small
use Rattle.hmac_core.specs.Hmac.{block_key, inner_key, outer_key, hmac}
use Rattle.hmac_core.specs.Blocks.{joined}
use Rattle.kbkdf_core.specs.CounterMode.{key_block}
use Rattle.published_values.specs.Bytes.{bytes}
use Rattle.published_values.proofs.derivation.derived_key.Goals as goal

pub returns-clause-input : goal.returns-clause-input
unfolding Small.first_words Small.schedule Small.rounds Small.compress Small.hash_after Small.digest_bytes Small.sha256 block_key inner_key outer_key hmac joined key_block bytes
returns-clause-input c = refl

pub returns-clause-output : goal.returns-clause-output
unfolding Small.first_words Small.schedule Small.rounds Small.compress Small.hash_after Small.digest_bytes Small.sha256 block_key inner_key outer_key hmac joined key_block bytes
returns-clause-output c = refl
