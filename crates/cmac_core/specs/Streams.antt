-- What a stream holds.
use Rattle.std.specs.Prelude.{◌≡◌, ℕ, List, length}
use Rattle.bits_core.specs.ByteList.{zero_padded, xor_bytes}
use Rattle.cmac_core.specs.Cmac.{blocks_before, chain, last_block}
use Rattle.cmac_core.specs.declared.stream.CmacStream.{CmacStream}

-- the stream has taken this text under this key: it holds the C before the last block plus the bytes of that
-- block so far, and their number
pub record HoldsText (stream : CmacStream) (key text : List ℕ) : Type 0 where
  pub count : stream.used ≡ length (last_block text)
  pub sum : stream.block ≡ xor_bytes (chain key text (blocks_before text)) (zero_padded 16 (last_block text))
