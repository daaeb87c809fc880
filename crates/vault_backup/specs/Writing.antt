-- How the parts of a backup are put one behind the other, and signed.
use Rattle.std.specs.Prelude.{◌≡◌, ℕ, List, [], ◌∷◌, ◌++◌}
use Rattle.std.specs.Int.{to_be_bytes, w32}
use Rattle.bits_core.specs.declared.parameter.Header.{Header}
use Rattle.bits_core.specs.declared.algorithm.Alg.TheVariants.{Sha256}
use Rattle.bits_core.specs.OutboxContents.{OutboxContents}
use Rattle.bits_core.specs.Parameters.{kind_number, domain_number}
use Rattle.hmac_core.specs.declared.mac.MacStream.{MacStream}
use Rattle.hmac_core.specs.Hmac.{HoldsText}

-- a piece was put into an outbox, and a stream has taken it
pub record Signs (old new : OutboxContents) (before after : MacStream) (piece : List ℕ) : Type 0 where
  pub put : new.bytes ≡ old.bytes ++ piece
  pub room : new.room ≡ old.room
  pub taken : (key text : List ℕ) → HoldsText before Sha256 key text → HoldsText after Sha256 key (text ++ piece)

-- a record's first eight bytes
abbrev pub record_front : ℕ → Header → ℕ → List ℕ
record_front id header size = id ∷ kind_number header.kind ∷ domain_number header.domain ∷ (to_be_bytes w32 header.uses ++ size ∷ [])
