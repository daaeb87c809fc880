use Rattle.std.proofs.Common.{◌≡◌, [], ◌++◌, refl, ap, ◌∙◌}
use Rattle.sha2.specs.Sha256 as Small
use Rattle.hmac_core.specs.Hmac.{block_key, inner_key, outer_key, hmac}
use Rattle.hmac_core.specs.Blocks.{joined}
use Rattle.drbg_core.specs.declared.generator.Drbg.{Drbg}
use Rattle.drbg_core.specs.Generator.{mix, update, instantiate, value_after, primed, drawn, generate}
use Rattle.published_values.specs.Bytes.{bytes}
use Rattle.published_values.proofs.generator.generated_bytes.Goals as goal

pub returns-clause-begins : goal.returns-clause-begins
unfolding instantiate
returns-clause-begins c = refl

-- the generator after instantiation and after the first request
abbrev seeded : Drbg
seeded = record { k = bytes 32 0x302a4aba78412ab36940f4be7b940a0c728542b8b81d95b801a57b3797f9dd6e; v = bytes 32 0xe75855f93b971ac468d200992e211960202d53cf08852ef86772d6490bfb53f9; counter = 1 }

abbrev later : Drbg
later = record { k = bytes 32 0x911bf7cbda4387a172a1a3daf6c9fa8e17c4bfef69cc7eff1341e7eef88d2811; v = bytes 32 0xbfbdcf455d5c82acafc59f339ce57126ff70b67aef910fa25db7617818faeafe; counter = 2 }

seeds : instantiate (bytes 32 0xca851911349384bffe89de1cbdc46e6831e44d34a4fb935ee285dd14b71a7488) (bytes 16 0x659ba96c601dc69fc902940805ec0ca8) [] ≡ seeded
unfolding Small.first_words Small.schedule Small.rounds Small.compress Small.hash_after Small.digest_bytes Small.sha256 block_key inner_key outer_key hmac bytes mix update instantiate
seeds = refl

first : (generate seeded [] 128).after ≡ later
unfolding Small.first_words Small.schedule Small.rounds Small.compress Small.hash_after Small.digest_bytes Small.sha256 block_key inner_key outer_key hmac bytes joined mix update value_after primed drawn generate
first = refl

second : (generate later [] 128).bytes ≡ bytes 32 0xe528e9abf2dece54d47c7e75e5fe302149f817ea9fb4bee6f4199697d04d5b89 ++ bytes 32 0xd54fbb978a15b5c443c9ec21036d2460b6f73ebad0dc2aba6e624abf07745bc1 ++ bytes 32 0x07694bb7547bb0995f70de25d6b29e2d3011bb19d27676c07162c8b5ccde0668 ++ bytes 32 0x961df86803482cb37ed6d5c0bb8d50cf1f50d476aa0458bdaba806f48be9dcb8
unfolding Small.first_words Small.schedule Small.rounds Small.compress Small.hash_after Small.digest_bytes Small.sha256 block_key inner_key outer_key hmac bytes joined mix update value_after primed drawn generate
second = refl

pub returns-clause-second : goal.returns-clause-second
returns-clause-second c =
    ap (λ (g : Drbg). (generate ((generate g [] 128).after) [] 128).bytes) seeds ∙ ap (λ (g : Drbg). (generate g [] 128).bytes) first ∙ second
