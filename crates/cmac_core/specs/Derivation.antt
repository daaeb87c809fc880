-- Key derivation with CMAC (SP 800-108 Rev. 1, section 4). This project's profile: a counter and a length of 32
-- bits each, and an empty K(0).
use Rattle.std.specs.Prelude.{ℕ, zero, suc, ◌+◌, ◌*◌, ◌/◌, List, [], ◌++◌, take}
use Rattle.std.specs.Int.{w32, to_be_bytes}
use Rattle.hmac_core.specs.Blocks.{joined}
use Rattle.kbkdf_core.specs.CounterMode.{fixed_input}
use Rattle.cmac_core.specs.Cmac.{cmac}
use Rattle.cmac_core.specs.declared.derivation.Mode.{Mode}
use Rattle.cmac_core.specs.declared.derivation.Mode.TheVariants.{Counter, Feedback, Pipeline}

-- K(i) in counter mode: the CMAC of [i], F (section 4.1)
unfoldable pub counter_block : List ℕ → List ℕ → ℕ → List ℕ
counter_block key fixed i = cmac key (to_be_bytes w32 i ++ fixed)

-- K(i) in feedback mode: the CMAC of K(i-1), [i], F (section 4.2)
unfoldable pub feedback_block : List ℕ → List ℕ → ℕ → List ℕ
feedback_block key fixed zero = []
feedback_block key fixed (suc n) = cmac key (feedback_block key fixed n ++ to_be_bytes w32 (suc n) ++ fixed)

-- A(i): A(0) is F, A(i) the CMAC of A(i-1) (section 4.3)
unfoldable pub pipeline_input : List ℕ → List ℕ → ℕ → List ℕ
pipeline_input key fixed zero = fixed
pipeline_input key fixed (suc n) = cmac key (pipeline_input key fixed n)

-- K(i) in double-pipeline mode: the CMAC of A(i), [i], F (section 4.3)
unfoldable pub pipeline_block : List ℕ → List ℕ → ℕ → List ℕ
pipeline_block key fixed i = cmac key (pipeline_input key fixed i ++ to_be_bytes w32 i ++ fixed)

-- K(i)
abbrev pub key_block : Mode → List ℕ → List ℕ → ℕ → List ℕ
key_block Counter key fixed i = counter_block key fixed i
key_block Feedback key fixed i = feedback_block key fixed i
key_block Pipeline key fixed i = pipeline_block key fixed i

-- the leftmost n bytes of K(1), K(2), .. joined
unfoldable pub cmac_kdf : Mode → List ℕ → List ℕ → List ℕ → ℕ → List ℕ
cmac_kdf mode key label context n = take n (joined (key_block mode key (fixed_input label context (8 * n))) ((n + 15) / 16))
