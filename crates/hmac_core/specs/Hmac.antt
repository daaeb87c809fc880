-- HMAC (FIPS 198-1), section 4 and table 1.
use Rattle.std.specs.Prelude.{ℕ, ◌++◌, List, length, map, bit_xor, if◌then◌else◌, nat_lt}
use Rattle.bits_core.specs.Algorithms.{alg_block}
use Rattle.bits_core.specs.declared.algorithm.Alg.{Alg}
use Rattle.bits_core.specs.ByteList.{zero_padded}
use Rattle.hmac_core.specs.Hash.{HoldsMessage, hash}
use Rattle.hmac_core.specs.declared.mac.MacStream.{MacStream}

-- K0: the key, or its digest where it is longer than a block, with zeros up to a block (steps 1 to 3)
unfoldable pub block_key : Alg → List ℕ → List ℕ
block_key alg key = zero_padded (alg_block alg) (if nat_lt (alg_block alg) (length key) then hash alg key else key)

-- K0 xor ipad, the byte 36 repeated (step 4)
unfoldable pub inner_key : Alg → List ℕ → List ℕ
inner_key alg key = map (λ b. bit_xor b 0x36) (block_key alg key)

-- K0 xor opad, the byte 5c repeated (step 7)
unfoldable pub outer_key : Alg → List ℕ → List ℕ
outer_key alg key = map (λ b. bit_xor b 0x5c) (block_key alg key)

-- H((K0 xor opad) || H((K0 xor ipad) || text)) (steps 5 to 9)
unfoldable pub hmac : Alg → List ℕ → List ℕ → List ℕ
hmac alg key text = hash alg (outer_key alg key ++ hash alg (inner_key alg key ++ text))

-- the stream runs under this algorithm and key, and has taken this text
pub record HoldsText (stream : MacStream) (alg : Alg) (key text : List ℕ) : Type 0 where
  pub inner : HoldsMessage stream.inner alg (inner_key alg key ++ text)
  pub outer : HoldsMessage stream.outer alg (outer_key alg key)
