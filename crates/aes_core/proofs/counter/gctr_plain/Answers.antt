use Rattle.std.proofs.Common.{◌≡◌, ◌≤◌, ◌<◌, ◌+◌, ◌-◌, ◌*◌, ◌/◌, ◌%◌, ℕ, List, length, refl, sym, ap, ap₂, ◌∙◌, arith, bit_xor, slice_index, inl, inr}
use Rattle.std.proofs.lemmas.Bool.{cases_lt}
use Rattle.aes_spec.specs.Key.{aes}
use Rattle.aes_spec.specs.Gctr.{inc32, counter_block, stream_byte}
use Rattle.aes_spec.proofs.KeyStream.{counter_block-zero, counter_block-next, stream_byte_in_block, is_gctr}
use Rattle.aes_core.proofs.counter.gctr_plain.Goals as goal

-- a text whose places below 16 * i are done and whose rest stands, after part of block i was added
added_block : (enciphered : List ℕ → List ℕ) (start old text new stream : List ℕ) (i count : ℕ) → count ≤ 16
    → stream ≡ enciphered (counter_block start i)
    → ((p : ℕ) → p < 16 * i → slice_index text p ≡ bit_xor (slice_index old p) (stream_byte enciphered start p))
    → ((p : ℕ) → 16 * i ≤ p → slice_index text p ≡ slice_index old p)
    → ((p : ℕ) → p < 16 * i → slice_index new p ≡ slice_index text p)
    → ((p : ℕ) → 16 * i ≤ p → p < 16 * i + count → slice_index new p ≡ bit_xor (slice_index text p) (slice_index stream (p - 16 * i)))
    → (p : ℕ) → p < 16 * i + count → slice_index new p ≡ bit_xor (slice_index old p) (stream_byte enciphered start p)
added_block enciphered start old text new stream i count few is done rest before added p h =
    elim (cases_lt p (16 * i)) [
      | inl below ↦ before p below ∙ done p below
      | inr above ↦
          added p above h
          ∙ ap₂ bit_xor (rest p above) (ap (λ (s : List ℕ). slice_index s (p - 16 * i)) is ∙ stream_byte_in_block enciphered start p i above (omega arith))
    ]

pub loop-i-init : goal.loop-i-init
loop-i-init c = record {
  counted = sym (counter_block-zero c.args.start.now);
  done = λ key is p h. absurd (omega arith);
  rest = λ p h. refl;
}

pub loop-i-preserved : goal.loop-i-preserved
loop-i-preserved c =
    let start = c.args.start.now in
    let i = c.loop-i.i in
    let inv = c.loop-i.invariant in
    let add = c.add_stream.ensures in
    record {
      counted = c.next_block-after.ensures ∙ ap inc32 inv.counted ∙ counter_block-next start i;
      done = λ key is p h.
          added_block (aes key) start c.args.text.now c.loop-i.text c.add_stream.new.text c.encrypt.new.block i 16 (omega arith)
          (c.encrypt.ensures key is ∙ ap (aes key) inv.counted) (inv.done key is) inv.rest add.before add.added p (omega arith);
      rest = λ p h. add.after p (omega arith) ∙ inv.rest p (omega arith);
    }

pub returns-then-rest-eq0 : goal.returns-then-rest-eq0
returns-then-rest-eq0 c = λ key is.
    is_gctr (aes key) c.args.start.now c.args.text.now c.loop-i.text (omega arith) (λ p h. c.loop-i.invariant.done key is p (omega arith))

pub returns : goal.returns
returns c =
    λ key is.
    let start = c.args.start.now in
    let old = c.args.text.now in
    let whole : ℕ = length old / 16 in
    let count : ℕ = length c.loop-i.text % 16 in
    let inv = c.loop-i.invariant in
    let add = c.add_stream-2.ensures in
    let e : c.loop-i.i ≡ whole = omega arith in
    is_gctr (aes key) start old c.add_stream-2.new.text (omega arith)
    (λ p h.
    added_block (aes key) start old c.loop-i.text c.add_stream-2.new.text c.encrypt-2.new.block whole count (omega arith)
    (c.encrypt-2.ensures key is ∙ ap (aes key) (inv.counted ∙ ap (counter_block start) e))
    (λ q below. inv.done key is q (omega arith)) (λ q above. inv.rest q (omega arith)) add.before add.added p (omega arith))
