-- The blocks of a derivation, one from another, and joined.
use Rattle.hmac_core.specs.Blocks.{joined}
use Rattle.cmac_core.specs.Cmac.{cmac}
use Rattle.cmac_core.specs.Derivation.{counter_block, feedback_block, key_block, pipeline_block, pipeline_input}
use Rattle.cmac_core.specs.Steps.{IsAfterBlocks, before_counter}
use Rattle.cmac_core.specs.declared.derivation.Mode.{Mode}
use Rattle.cmac_core.specs.declared.derivation.Mode.TheVariants.{Counter, Feedback, Pipeline}
use Rattle.cmac_core.proofs.Blocks.{length-cmac}
use Rattle.std.specs.Int.{w32, to_be_bytes}
use Rattle.std.proofs.Common.{◌≡◌, ℕ, zero, suc, ◌+◌, ◌-◌, ◌*◌, ◌≤◌, List, [], ◌++◌, length, take, refl, sym, ap, ◌∙◌, arith}
use Rattle.std.proofs.lemmas.List.{length-append, take_all}
use Rattle.std.proofs.Math.Seq.{take-append-add}

-- A(i) from A(i-1)
pub pipeline_step : (key fixed : List ℕ) (i : ℕ) → 1 ≤ i → pipeline_input key fixed i ≡ cmac key (pipeline_input key fixed (i - 1))
unfolding pipeline_input
pipeline_step key fixed zero h = absurd (omega arith)
pipeline_step key fixed (suc n) h = ap (λ (m : ℕ). cmac key (pipeline_input key fixed m)) (let e : n ≡ suc n - 1 = omega arith in e)

-- K(i) from what stands before the counter
pub block_is : (mode : Mode) (key fixed : List ℕ) (i : ℕ) → 1 ≤ i → key_block mode key fixed i ≡ cmac key (before_counter mode key fixed i ++ to_be_bytes w32 i ++ fixed)
unfolding counter_block feedback_block pipeline_block
block_is Counter key fixed i h = refl
block_is Pipeline key fixed i h = refl
block_is Feedback key fixed zero h = absurd (omega arith)
block_is Feedback key fixed (suc n) h = ap (λ (m : ℕ). cmac key (feedback_block key fixed m ++ to_be_bytes w32 (suc n) ++ fixed)) (let e : n ≡ suc n - 1 = omega arith in e)

pub length-key_block : (mode : Mode) (key fixed : List ℕ) (n : ℕ) → length (key_block mode key fixed (suc n)) ≡ 16
length-key_block mode key fixed n = ap length (block_is mode key fixed (suc n) (omega arith)) ∙ length-cmac key _

-- blocks of one width, joined
pub length-joined : (width : ℕ) (block : ℕ → List ℕ) → ((n : ℕ) → length (block (suc n)) ≡ width) → (n : ℕ) → length (joined block n) ≡ width * n
unfolding joined
length-joined width block each zero = omega arith
length-joined width block each (suc n) = length-append (joined block n) (block (suc n)) ∙ omega (arith, length-joined width block each n, each n)

-- one block more in a buffer that holds the front of the blocks joined
pub one_more : (width : ℕ) (block : ℕ → List ℕ) → ((n : ℕ) → length (block (suc n)) ≡ width) → (n total : ℕ) (before after : List ℕ)
    → width * n ≤ total → take (width * n) before ≡ take total (joined block n)
    → take (width * n + width) after ≡ take (width * n) before ++ take (total - width * n) (block (suc n))
    → take (width * suc n) after ≡ take total (joined block (suc n))
unfolding joined
one_more width block each n total before after fits held written =
    let whole : List ℕ = joined block n in
    let long : length whole ≡ width * n = length-joined width block each n in
    let step : width * suc n ≡ width * n + width = omega arith in
    let room : total ≡ length whole + (total - width * n) = omega arith in
    ap (λ (m : ℕ). take m after) step ∙ written
    ∙ ap (λ (x : List ℕ). x ++ take (total - width * n) (block (suc n))) (held ∙ take_all total whole (omega arith))
    ∙ sym (take-append-add whole (block (suc n)) (total - width * n))
    ∙ ap (λ (m : ℕ). take m (whole ++ block (suc n))) (sym room)

-- before the first block nothing is held
pub after_none : (mode : Mode) (key fixed block prefix : List ℕ) → IsAfterBlocks mode key fixed 0 block prefix
after_none Counter key fixed block prefix = tt
after_none Feedback key fixed block prefix = λ h. absurd (omega arith)
after_none Pipeline key fixed block prefix = λ h. absurd (omega arith)

pub none_yet : (block : ℕ → List ℕ) (total : ℕ) → [] ≡ take total (joined block 0)
unfolding joined
none_yet block total = sym (take_all total [] (omega arith))
