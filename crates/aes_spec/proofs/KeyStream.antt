-- The key stream by place.
use Rattle.std.proofs.Common.{◌≡◌, ℕ, ◌+◌, ◌-◌, ◌*◌, ◌/◌, ◌%◌, ◌<◌, ◌≤◌, List, length, refl, sym, ap, ap₂, ◌∙◌, arith, add-one, bit_xor, slice_index}
use Rattle.std.specs.Int.Bits.{xor_assoc, xor_self, xor_zero_r}
use Rattle.std.specs.List.{range_with_len}
use Rattle.std.proofs.lemmas.Grind.{same_number_lists}
use Rattle.std.proofs.lemmas.List.FromFn.{get_or-map-range_with_len, length-range_with_len}
use Rattle.std.proofs.lemmas.List.{length-map}
use Rattle.aes_spec.specs.Gctr.{inc32, counter_block, stream_byte, gctr}

pub length-gctr : (enciphered : List ℕ → List ℕ) (start text : List ℕ) → length (gctr enciphered start text) ≡ length text
unfolding gctr
length-gctr enciphered start text =
    length-map (range_with_len 0 (length text)) (λ (p : ℕ). bit_xor (slice_index text p) (stream_byte enciphered start p)) ∙ length-range_with_len 0 (length text)

pub get_or-gctr : (enciphered : List ℕ → List ℕ) (start text : List ℕ) (p : ℕ) → p < length text
    → slice_index (gctr enciphered start text) p ≡ bit_xor (slice_index text p) (stream_byte enciphered start p)
unfolding gctr
get_or-gctr enciphered start text p h =
    get_or-map-range_with_len (λ (p : ℕ). bit_xor (slice_index text p) (stream_byte enciphered start p)) 0 (length text) p p 0 h (omega arith)

-- a list is the text plus the key stream where its places are
pub is_gctr : (enciphered : List ℕ → List ℕ) (start old new : List ℕ) → length new ≡ length old
    → ((p : ℕ) → p < length old → slice_index new p ≡ bit_xor (slice_index old p) (stream_byte enciphered start p)) → new ≡ gctr enciphered start old
is_gctr enciphered start old new same each =
    same_number_lists new (gctr enciphered start old) (same ∙ sym (length-gctr enciphered start old))
    (λ p h. each p (omega arith) ∙ sym (get_or-gctr enciphered start old p (omega arith)))

-- the stream that was added is taken away when it is added again
pub gctr-gctr : (enciphered : List ℕ → List ℕ) (start text : List ℕ) → gctr enciphered start (gctr enciphered start text) ≡ text
gctr-gctr enciphered start text =
    let once : List ℕ = gctr enciphered start text in
    let long : length once ≡ length text = length-gctr enciphered start text in
    same_number_lists (gctr enciphered start once) text (length-gctr enciphered start once ∙ long)
    (λ p h.
    let within : p < length once = omega (arith, length-gctr enciphered start once) in
    let s : ℕ = stream_byte enciphered start p in
    get_or-gctr enciphered start once p within
    ∙ ap (λ (n : ℕ). bit_xor n s) (get_or-gctr enciphered start text p (omega arith))
    ∙ xor_assoc (slice_index text p) s s
    ∙ ap (bit_xor (slice_index text p)) (xor_self s)
    ∙ xor_zero_r (slice_index text p))

-- a byte of counter block i is a byte of the stream
pub stream_byte_in_block : (enciphered : List ℕ → List ℕ) (start : List ℕ) (p i : ℕ) → 16 * i ≤ p → p < 16 * i + 16
    → slice_index (enciphered (counter_block start i)) (p - 16 * i) ≡ stream_byte enciphered start p
unfolding stream_byte
stream_byte_in_block enciphered start p i low high =
    let q : i ≡ p / 16 = omega arith in
    let r : p - 16 * i ≡ p % 16 = omega arith in
    ap₂ (λ (x y : ℕ). slice_index (enciphered (counter_block start x)) y) q r

pub counter_block-zero : (start : List ℕ) → counter_block start 0 ≡ start
unfolding counter_block
counter_block-zero start = refl

pub counter_block-next : (start : List ℕ) (i : ℕ) → inc32 (counter_block start i) ≡ counter_block start (i + 1)
unfolding counter_block
counter_block-next start i = ap (counter_block start) (sym (add-one i))
