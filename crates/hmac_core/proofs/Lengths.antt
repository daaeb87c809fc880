-- The lengths of digests, MACs and blocks, and what is cut from a padded digest or key.
use Rattle.bits_core.specs.Algorithms.{alg_size, alg_block}
use Rattle.bits_core.specs.ByteList.{zeros, zero_padded}
use Rattle.bits_core.specs.declared.algorithm.Alg.{Alg}
use Rattle.bits_core.specs.declared.algorithm.Alg.TheVariants.{Sha256, Sha384, Sha512}
use Rattle.bits_core.proofs.ZeroPadding.{take_front}
use Rattle.hmac_core.specs.Hash.{hash}
use Rattle.hmac_core.specs.Hmac.{block_key, hmac}
use Rattle.sha2.proofs.Facts256.{length-sha256}
use Rattle.sha2.proofs.Facts512.{length-sha384, length-sha512}
use Rattle.std.proofs.Common.{◌≡◌, ℕ, ◌-◌, ◌<◌, ◌≤◌, List, length, take, ap, arith, lit≤, Bool, cond}
use Rattle.std.proofs.lemmas.List.{take-append-le, take_all}
use Rattle.std.proofs.lemmas.Bool.{lt-ltb, le-ltb}

pub length-hash : (alg : Alg) (message : List ℕ) → length (hash alg message) ≡ alg_size alg
length-hash Sha256 message = length-sha256 message
length-hash Sha384 message = length-sha384 message
length-hash Sha512 message = length-sha512 message

pub length-hmac : (alg : Alg) (key text : List ℕ) → length (hmac alg key text) ≡ alg_size alg
unfolding hmac
length-hmac alg key text = length-hash alg _

pub size_le_block : (alg : Alg) → alg_size alg ≤ alg_block alg
size_le_block Sha256 = lit≤ tt
size_le_block Sha384 = lit≤ tt
size_le_block Sha512 = lit≤ tt

pub size_ge : (alg : Alg) → 32 ≤ alg_size alg
size_ge Sha256 = lit≤ tt
size_ge Sha384 = lit≤ tt
size_ge Sha512 = lit≤ tt

pub size_le : (alg : Alg) → alg_size alg ≤ 64
size_le Sha256 = lit≤ tt
size_le Sha384 = lit≤ tt
size_le Sha512 = lit≤ tt

pub block_le : (alg : Alg) → alg_block alg ≤ 128
block_le Sha256 = lit≤ tt
block_le Sha384 = lit≤ tt
block_le Sha512 = lit≤ tt

-- the front of a padded digest is the digest
pub take-padded_digest : (alg : Alg) (message : List ℕ) → take (alg_size alg) (zero_padded 64 (hash alg message)) ≡ hash alg message
take-padded_digest alg message = take_front (alg_size alg) (hash alg message) _ (length-hash alg message)

pub long_key : (alg : Alg) (key : List ℕ) → alg_block alg < length key → block_key alg key ≡ zero_padded (alg_block alg) (hash alg key)
unfolding block_key
long_key alg key h = ap (λ (b : Bool). zero_padded (alg_block alg) (cond b (hash alg key) key)) (lt-ltb (alg_block alg) (length key) h)

pub short_key : (alg : Alg) (key : List ℕ) → length key ≤ alg_block alg → block_key alg key ≡ zero_padded (alg_block alg) key
unfolding block_key
short_key alg key h = ap (λ (b : Bool). zero_padded (alg_block alg) (cond b (hash alg key) key)) (le-ltb (alg_block alg) (length key) h)

-- every MAC has 32 bytes at least
pub take-padded_mac : (alg : Alg) (key text : List ℕ) → take 32 (zero_padded 64 (hmac alg key text)) ≡ take 32 (hmac alg key text)
take-padded_mac alg key text =
    let tail : List ℕ = zeros (64 - length (hmac alg key text)) in
    take-append-le 32 (hmac alg key text) tail (omega (arith, length-hmac alg key text, size_ge alg))

-- a MAC under SHA-256 has 32 bytes at most
pub take-hmac256 : (key text : List ℕ) → take 32 (hmac Sha256 key text) ≡ hmac Sha256 key text
take-hmac256 key text = take_all 32 (hmac Sha256 key text) (omega (arith, length-hmac Sha256 key text))
