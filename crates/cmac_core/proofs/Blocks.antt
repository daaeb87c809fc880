-- The blocks of a text, and the chain over them.
use Rattle.bits_core.proofs.ZeroPadding.{length-zeros}
use Rattle.aes_spec.specs.Aes.{cipher}
use Rattle.aes_spec.specs.Key.{aes}
use Rattle.cmac_core.specs.Cmac.{blocks_before, chain, cmac, last_block, text_block}
use Rattle.bits_core.specs.ByteList.{xor_bytes}
use Rattle.std.proofs.Common.{◌≡◌, ℕ, zero, suc, ◌+◌, ◌*◌, ◌≤◌, List, ◌++◌, length, take, drop, refl, ap, ap₂, ◌∙◌, arith}
use Rattle.std.proofs.lemmas.List.{length-drop, drop-append-le, take-append-le}

pub length-aes : (key block : List ℕ) → length (aes key block) ≡ 16
unfolding cipher
length-aes key block = refl

pub length-cmac : (key text : List ℕ) → length (cmac key text) ≡ 16
unfolding cmac
length-cmac key text = length-aes key _

pub length-chain : (key text : List ℕ) (i : ℕ) → length (chain key text i) ≡ 16
unfolding chain
length-chain key text zero = length-zeros 16
length-chain key text (suc i) = length-aes key _

-- the last block has sixteen bytes at most
pub last_fits : (text : List ℕ) → length (last_block text) ≤ 16
last_fits text = omega (arith, length-drop (16 * blocks_before text) text)

-- whole blocks stay when the text grows
pub text_block-append : (xs ys : List ℕ) (i : ℕ) → 16 * i + 16 ≤ length xs → text_block (xs ++ ys) i ≡ text_block xs i
text_block-append xs ys i within =
    ap (take 16) (drop-append-le (16 * i) xs ys (omega arith))
    ∙ take-append-le 16 (drop (16 * i) xs) ys (omega (arith, length-drop (16 * i) xs))

pub chain-append : (key xs ys : List ℕ) (i : ℕ) → 16 * i ≤ length xs → chain key (xs ++ ys) i ≡ chain key xs i
unfolding chain
chain-append key xs ys zero within = refl
chain-append key xs ys (suc i) within =
    ap₂ (λ (c block : List ℕ). aes key (xor_bytes c block)) (chain-append key xs ys i (omega arith)) (text_block-append xs ys i (omega arith))
