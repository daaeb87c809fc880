-- Digests and MACs are lists of bytes, whatever is digested.
use Rattle.std.proofs.Common.{ℕ, zero, suc, ◌<◌, ◌/◌, ◌^◌, List, [], ◌∷◌, lit<}
use Rattle.std.specs.Int.{byte_at, bytes_high_first}
use Rattle.std.proofs.lemmas.Nat.{mod_below}
use Rattle.sha2.specs.Sha256.{sha256, digest_bytes as digest_bytes_of_32}
use Rattle.sha2.specs.Sha512.{sha384, sha512, digest_bytes as digest_bytes_of_64}
use Rattle.bits_core.specs.ByteList.{IsBytes}
use Rattle.bits_core.specs.declared.algorithm.Alg.{Alg}
use Rattle.bits_core.specs.declared.algorithm.Alg.TheVariants.{Sha256, Sha384, Sha512}
use Rattle.bits_core.proofs.Bytes.{IsBytes-append, IsBytes-take}
use Rattle.hmac_core.specs.Hash.{hash}
use Rattle.hmac_core.specs.Hmac.{hmac}

byte_at-small : (i n : ℕ) → byte_at i n < 256
byte_at-small zero n = mod_below n 256 (lit< tt)
byte_at-small (suc i) n = mod_below (n / 256 ^ suc i) 256 (lit< tt)

none_are_bytes : IsBytes []
none_are_bytes n = lit< tt

more_are_bytes : (x : ℕ) (xs : List ℕ) → x < 256 → IsBytes xs → IsBytes (x ∷ xs)
more_are_bytes x xs small rest zero = small
more_are_bytes x xs small rest (suc n) = rest n

word_is_bytes : (k n : ℕ) → IsBytes (bytes_high_first k n)
word_is_bytes zero n = none_are_bytes
word_is_bytes (suc k) n = more_are_bytes (byte_at k n) (bytes_high_first k n) (byte_at-small k n) (word_is_bytes k n)

words_of_32 : (h : List ℕ) (n : ℕ) → IsBytes (digest_bytes_of_32 h n)
unfolding digest_bytes_of_32
words_of_32 h zero = none_are_bytes
words_of_32 h (suc n) = IsBytes-append (digest_bytes_of_32 h n) _ (words_of_32 h n) (word_is_bytes 4 _)

words_of_64 : (h : List ℕ) (n : ℕ) → IsBytes (digest_bytes_of_64 h n)
unfolding digest_bytes_of_64
words_of_64 h zero = none_are_bytes
words_of_64 h (suc n) = IsBytes-append (digest_bytes_of_64 h n) _ (words_of_64 h n) (word_is_bytes 8 _)

sha256_is_bytes : (message : List ℕ) → IsBytes (sha256 message)
unfolding sha256
sha256_is_bytes message = words_of_32 _ 8

sha384_is_bytes : (message : List ℕ) → IsBytes (sha384 message)
unfolding sha384
sha384_is_bytes message = IsBytes-take 48 _ (words_of_64 _ 8)

sha512_is_bytes : (message : List ℕ) → IsBytes (sha512 message)
unfolding sha512
sha512_is_bytes message = words_of_64 _ 8

pub IsBytes-hash : (alg : Alg) (message : List ℕ) → IsBytes (hash alg message)
IsBytes-hash Sha256 message = sha256_is_bytes message
IsBytes-hash Sha384 message = sha384_is_bytes message
IsBytes-hash Sha512 message = sha512_is_bytes message

pub IsBytes-hmac : (alg : Alg) (key text : List ℕ) → IsBytes (hmac alg key text)
unfolding hmac
IsBytes-hmac alg key text = IsBytes-hash alg _
