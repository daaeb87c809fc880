-- What a derivation holds between two of its blocks.
use Rattle.std.specs.Prelude.{◌≡◌, ◌<◌, ℕ, ◌-◌, List, []}
use Rattle.cmac_core.specs.Derivation.{feedback_block, pipeline_input}
use Rattle.cmac_core.specs.declared.derivation.Mode.{Mode}
use Rattle.cmac_core.specs.declared.derivation.Mode.TheVariants.{Counter, Feedback, Pipeline}

-- what stands before [i] in the text of K(i)
abbrev pub before_counter : Mode → List ℕ → List ℕ → ℕ → List ℕ
before_counter Counter key fixed i = []
before_counter Feedback key fixed i = feedback_block key fixed (i - 1)
before_counter Pipeline key fixed i = pipeline_input key fixed i

-- after n blocks the mode goes on from K(n) in `block`, from A(n) in `prefix`, or from nothing
abbrev pub IsAfterBlocks : Mode → List ℕ → List ℕ → ℕ → List ℕ → List ℕ → Type 0
IsAfterBlocks Counter key fixed n block prefix = Unit {0}
IsAfterBlocks Feedback key fixed n block prefix = 0 < n → block ≡ feedback_block key fixed n
IsAfterBlocks Pipeline key fixed n block prefix = 0 < n → prefix ≡ pipeline_input key fixed n
