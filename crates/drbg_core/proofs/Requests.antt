-- The values that a request draws, and what the halves of a request leave.
use Rattle.bits_core.specs.declared.algorithm.Alg.TheVariants.{Sha256}
use Rattle.hmac_core.specs.Blocks.{joined}
use Rattle.hmac_core.specs.Hmac.{hmac}
use Rattle.hmac_core.proofs.Lengths.{length-hmac}
use Rattle.hmac_core.proofs.Blocks.{IsInBlocksOf32, length-joined}
use Rattle.drbg_core.specs.Generator.{generate, drawn, instantiate, mix, reseed, update, primed, value_after}
use Rattle.drbg_core.specs.declared.generator.Drbg.{Drbg}
use Rattle.std.proofs.Common.{◌≡◌, ℕ, suc, ◌+◌, ◌/◌, ◌%◌, ◌<◌, List, [], ◌∷◌, length, refl, ap, ◌∙◌, arith}
use Rattle.std.proofs.lemmas.List.{length-take}

-- each value is a block of 32 bytes
pub values_of_32 : (k v : List ℕ) → IsInBlocksOf32 (value_after k v)
unfolding value_after
values_of_32 k v = record { size = λ n. length-hmac Sha256 k (value_after k v n) }

-- at the first byte of a block V takes a step
pub value_then : (k v old new : List ℕ) (i : ℕ) → i % 32 ≡ 0 → old ≡ value_after k v ((i + 31) / 32) → new ≡ hmac Sha256 k old → new ≡ value_after k v (i / 32 + 1)
unfolding value_after
value_then k v old new i h d e =
    e ∙ ap (hmac Sha256 k) d ∙ ap (value_after k v) (let q : suc ((i + 31) / 32) ≡ i / 32 + 1 = omega arith in q)

-- and at its others V stays
pub value_else : (k v old : List ℕ) (i : ℕ) → (i % 32 ≡ 0 → ⊥) → old ≡ value_after k v ((i + 31) / 32) → old ≡ value_after k v (i / 32 + 1)
value_else k v old i h d = d ∙ ap (value_after k v) (let q : (i + 31) / 32 ≡ i / 32 + 1 = omega (arith, h) in q)

pub update_none : (g : Drbg) (input : List ℕ) → length input ≡ 0 → update g input ≡ mix g 0 input
unfolding update
update_none g [] h = refl
update_none g (first ∷ rest) h = absurd (omega arith)

pub update_some : (g : Drbg) (input : List ℕ) → 0 < length input → update g input ≡ mix (mix g 0 input) 1 input
unfolding update
update_some g [] h = absurd (omega arith)
update_some g (first ∷ rest) h = refl

pub primed_none : (g : Drbg) (input : List ℕ) → length input ≡ 0 → primed g input ≡ g
unfolding primed
primed_none g [] h = refl
primed_none g (first ∷ rest) h = absurd (omega arith)

pub primed_some : (g : Drbg) (input : List ℕ) → 0 < length input → primed g input ≡ update g input
unfolding primed
primed_some g [] h = absurd (omega arith)
primed_some g (first ∷ rest) h = refl

-- no Update counts a request
pub counter-update : (g : Drbg) (input : List ℕ) → (update g input).counter ≡ g.counter
unfolding update mix
counter-update g [] = refl
counter-update g (first ∷ rest) = refl

pub counter-primed : (g : Drbg) (input : List ℕ) → (primed g input).counter ≡ g.counter
unfolding primed
counter-primed g [] = refl
counter-primed g (first ∷ rest) = counter-update g (first ∷ rest)

pub same_parts : (k l v w : List ℕ) (n : ℕ) → k ≡ l → v ≡ w
    → (let a : Drbg = record { k = k; v = v; counter = n } in a) ≡ (let b : Drbg = record { k = l; v = w; counter = n } in b)
same_parts k l v w n p q =
    ap (λ (x : List ℕ). let g : Drbg = record { k = x; v = v; counter = n } in g) p
    ∙ ap (λ (x : List ℕ). let g : Drbg = record { k = l; v = x; counter = n } in g) q

-- as many bytes as were asked for
pub length-bytes : (g : Drbg) (additional : List ℕ) (n : ℕ) → length (generate g additional n).bytes ≡ n
unfolding generate drawn
length-bytes g additional n =
    let p : Drbg = primed g additional in
    let blocks = (n + 31) / 32 in
    length-take n (joined (value_after p.k p.v) blocks) ∙ omega (arith, length-joined (value_after p.k p.v) (values_of_32 p.k p.v) blocks)

-- a seed sets the counter to 1, and a request counts itself
pub counter-instantiate : (entropy nonce personal : List ℕ) → (instantiate entropy nonce personal).counter ≡ 1
unfolding instantiate
counter-instantiate entropy nonce personal = counter-update _ _

pub counter-reseed : (g : Drbg) (entropy additional : List ℕ) → (reseed g entropy additional).counter ≡ 1
unfolding reseed
counter-reseed g entropy additional = counter-update _ _

pub counter-generate : (g : Drbg) (additional : List ℕ) (n : ℕ) → (generate g additional n).after.counter ≡ g.counter + 1
unfolding generate drawn
counter-generate g additional n =
    let p : Drbg = primed g additional in
    let drew : Drbg = record p { v = value_after p.k p.v ((n + 31) / 32) } in
    ap (λ (m : ℕ). m + 1) (counter-update drew additional ∙ counter-primed g additional)
