-- The integrity test of an image (ISO/IEC 19790:2012, 7.10.2.2): its HMAC-SHA-256 under the image key is its digest.
use Rattle.std.specs.Prelude.{ℕ, List, take, bytes_eq}
use Rattle.bits_core.specs.Algorithms.{alg_size}
use Rattle.bits_core.specs.declared.algorithm.Alg.TheVariants.{Sha256}
use Rattle.engine_core.specs.Calls.{Calls}
use Rattle.self_tests.specs.declared.table.TheConstants.{IMAGE_KEY}
use Rattle.self_tests.specs.KnownAnswers.{Outcome}

-- the digest of an image, by an engine
abbrev pub image_digest : {V : Type 0} → Calls V → V → (image : List ℕ) → List ℕ
image_digest calls v image = take (alg_size Sha256) (calls.mac v Sha256 IMAGE_KEY image)

-- the engine after
abbrev pub image_digest_after : {V : Type 0} → Calls V → V → (image : List ℕ) → V
image_digest_after calls v image = calls.mac_after v Sha256 IMAGE_KEY image

-- whether the image has the digest, and the engine after
abbrev pub image_outcome : {V : Type 0} → Calls V → V → (image digest : List ℕ) → Outcome V
image_outcome calls v image digest = record { right = bytes_eq (image_digest calls v image) digest; engine = image_digest_after calls v image }
