-- The 80 bytes in which keys are wrapped and unwrapped.
use Rattle.std.proofs.Common.{◌≡◌, ℕ, ◌-◌, ◌≤◌, Bool, true, false, List, length, take, drop, ◌++◌, Option, Some, IfSome, refl, sym, ap, subst, ◌∙◌, arith}
use Rattle.std.proofs.lemmas.List.{length-take, drop-replicate}
use Rattle.std.proofs.Math.Seq.{drop-append_seam}
use Rattle.bits_core.specs.ByteList.{IsBytes, zeros, zero_padded}
use Rattle.bits_core.proofs.ZeroPadding.{take_front}
use Rattle.engine_core.specs.Calls.{Calls, Keeps}
use Rattle.engine_core.specs.Inputs.{IsAesKey, IsWrappable, IsUnwrappable}
use Rattle.engine_core.specs.Results.{wrapped_length, IsUnwrappedLength}

pub front : (text : List ℕ) → take (length text) (zero_padded 80 text) ≡ text
front text = take_front (length text) text (zeros (80 - length text)) refl

pub rest : (text : List ℕ) → drop (length text) (zero_padded 80 text) ≡ zeros (80 - length text)
rest text = drop-append_seam text (zeros (80 - length text))

pub text_fits : (pad : Bool) (n : ℕ) → IsWrappable pad n → n ≤ 80
text_fits true n h = omega (arith, h.0, h.1)
text_fits false n h = omega (arith, h.0, h.1)

pub wrapping_fits : (pad : Bool) (n : ℕ) → IsWrappable pad n → wrapped_length pad n ≤ 80
wrapping_fits true n h = omega (arith, h.0, h.1)
wrapping_fits false n h = omega (arith, h.0, h.1)

pub wrapped_fits : (pad : Bool) (n : ℕ) → IsUnwrappable pad n → n ≤ 80
wrapped_fits true n h = omega (arith, h.0, h.1)
wrapped_fits false n h = omega (arith, h.0, h.1)

pub unwrapped_fits : (pad : Bool) (n size : ℕ) → IsUnwrappable pad n → IsUnwrappedLength pad n size → size ≤ 80
unwrapped_fits true n size h l = omega (arith, h.0, h.1, l.0, l.1)
unwrapped_fits false n size h l = omega (arith, h.0, h.1, l)

pub front_length : (n : ℕ) (bytes : List ℕ) → n ≤ length bytes → n ≡ length (take n bytes)
front_length n bytes h = omega (arith, length-take n bytes)

-- a buffer with bytes written to its front
pub filled : (bytes copied buf : List ℕ) → copied ≡ bytes → buf ≡ zeros 80 → copied ++ drop (length bytes) buf ≡ zero_padded 80 bytes
filled bytes copied buf same zero =
    ap (λ (b : List ℕ). b ++ drop (length bytes) buf) same
    ∙ ap (λ (b : List ℕ). bytes ++ drop (length bytes) b) zero
    ∙ ap (λ (b : List ℕ). bytes ++ b) (drop-replicate (length bytes) 80 0)

-- what an engine unwraps from the front of a buffer fits the buffer
pub unwrapped_size : {V : Type 0} (calls : Calls V) → Keeps calls → (v : V) (pad : Bool) (key wrapping buf : List ℕ) (size : ℕ)
    → IsAesKey key → IsBytes wrapping → IsUnwrappable pad (length wrapping) → buf ≡ zero_padded 80 wrapping
    → Some size ≡ (calls.unwrap v pad key (take (length wrapping) buf)).size → size ≤ 80
unwrapped_size calls keeps v pad key wrapping buf size is_key bytes fits given answered =
    let P : Option ℕ → Type 0 = λ o. IfSome o (IsUnwrappedLength pad (length wrapping)) in
    let same : take (length wrapping) buf ≡ wrapping = ap (take (length wrapping)) given ∙ front wrapping in
    let answer : (calls.unwrap v pad key wrapping).size ≡ Some size = sym (answered ∙ ap (λ (f : List ℕ). (calls.unwrap v pad key f).size) same) in
    unwrapped_fits pad (length wrapping) size fits (subst P answer (keeps.unwrap_size v pad key wrapping is_key bytes fits))

-- what an engine wraps from the front of a buffer fits the buffer
pub wrapped_size : {V : Type 0} (calls : Calls V) → Keeps calls → (v : V) (pad : Bool) (key text buf : List ℕ) (size : ℕ)
    → IsWrappable pad (length text) → buf ≡ zero_padded 80 text → size ≡ (calls.wrap v pad key (take (length text) buf)).size → size ≤ 80
wrapped_size calls keeps v pad key text buf size fits given answered =
    let same : take (length text) buf ≡ text = ap (take (length text)) given ∙ front text in
    let answer : size ≡ wrapped_length pad (length text) =
    answered ∙ ap (λ (f : List ℕ). (calls.wrap v pad key f).size) same ∙ keeps.wrap_size v pad key text fits in
    omega (arith, answer, wrapping_fits pad (length text) fits)
