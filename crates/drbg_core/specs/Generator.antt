-- HMAC_DRBG over SHA-256 (SP 800-90A Rev. 1, 10.1.2). A generator is its key K, its value V and its
-- reseed counter; K and V are lists of 32 bytes.
use Rattle.std.specs.Prelude.{ℕ, zero, suc, ◌+◌, ◌/◌, List, [], ◌∷◌, ◌++◌, replicate, take}
use Rattle.bits_core.specs.declared.algorithm.Alg.TheVariants.{Sha256}
use Rattle.hmac_core.specs.Blocks.{joined}
use Rattle.hmac_core.specs.Hmac.{hmac}
use Rattle.drbg_core.specs.declared.generator.Drbg.{Drbg}

-- all bytes and the counter zero
abbrev pub empty : Drbg
empty = record { k = replicate 32 0; v = replicate 32 0; counter = 0 }

-- K = HMAC(K, V || byte || input), and then V = HMAC(K, V) (10.1.2.2, steps 1 and 2, and 4 and 5)
unfoldable pub mix : Drbg → ℕ → List ℕ → Drbg
mix g byte input =
    let key : List ℕ = hmac Sha256 g.k (g.v ++ byte ∷ input) in
    record { k = key; v = hmac Sha256 key g.v; counter = g.counter }

-- HMAC_DRBG_Update: where there is input, both halves (10.1.2.2)
unfoldable pub update : Drbg → List ℕ → Drbg
update g [] = mix g 0 []
update g (first ∷ rest) = mix (mix g 0 (first ∷ rest)) 1 (first ∷ rest)

-- Instantiate (10.1.2.3)
unfoldable pub instantiate : List ℕ → List ℕ → List ℕ → Drbg
instantiate entropy nonce personal =
    update (record { k = replicate 32 0; v = replicate 32 1; counter = 1 }) (entropy ++ nonce ++ personal)

-- Reseed (10.1.2.4)
unfoldable pub reseed : Drbg → List ℕ → List ℕ → Drbg
reseed g entropy additional = update (record g { counter = 1 }) (entropy ++ additional)

-- V after n steps, each V = HMAC(K, V)
unfoldable pub value_after : List ℕ → List ℕ → ℕ → List ℕ
value_after k v zero = v
value_after k v (suc n) = hmac Sha256 k (value_after k v n)

-- what a request answers: the bytes, and the generator after it
pub record Generated : Type 0 where
  pub bytes : List ℕ
  pub after : Drbg

-- with additional input, Update before any output (10.1.2.5, step 2)
unfoldable pub primed : Drbg → List ℕ → Drbg
primed g [] = g
primed g (first ∷ rest) = update g (first ∷ rest)

-- the leftmost n bytes of V 1, V 2, .. joined, each the HMAC of the one before, and the generator
-- with the last of them (10.1.2.5, steps 3 to 5)
unfoldable pub drawn : Drbg → ℕ → Generated
drawn g n = record {
  bytes = take n (joined (value_after g.k g.v) ((n + 31) / 32));
  after = record g { v = value_after g.k g.v ((n + 31) / 32) };
}

-- Generate (10.1.2.5): Update once more, also without additional input, and one request counted
unfoldable pub generate : Drbg → List ℕ → ℕ → Generated
generate g additional n =
    let request : Generated = drawn (primed g additional) n in
    let last : Drbg = update request.after additional in
    record { bytes = request.bytes; after = record last { counter = last.counter + 1 } }
