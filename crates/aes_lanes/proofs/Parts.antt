-- A text to which the key stream is added part by part.
use Rattle.std.proofs.Common.{◌≡◌, ℕ, ◌+◌, ◌-◌, ◌*◌, ◌/◌, ◌%◌, ◌^◌, ◌<◌, ◌≤◌, List, length, refl, sym, ap, ap₂, ◌∙◌, arith, bit_xor, slice_index, inl, inr}
use Rattle.std.proofs.lemmas.Bool.{cases_lt}
use Rattle.std.proofs.lemmas.List.{get_or_past}
use Rattle.aes_spec.specs.Aes.{IsState}
use Rattle.aes_spec.specs.Gctr.{stream_byte, gctr}
use Rattle.aes_spec.proofs.KeyStream.{is_gctr}
use Rattle.aes_lanes.specs.Rounds.{byte}
use Rattle.aes_lanes.specs.Streams.{with_count, count_of, Adds}
use Rattle.aes_lanes.proofs.Counts.{here}

-- past the end of both
pub same_past : (x y : List ℕ) (p : ℕ) → length x ≤ p → length y ≤ p → slice_index x p ≡ slice_index y p
same_past x y p hx hy = get_or_past x p 0 hx ∙ sym (get_or_past y p 0 hy)

pub adds_none : (f : List ℕ → List ℕ) (s text : List ℕ) (a : ℕ) → Adds f s text text a a
adds_none f s text a = record { long = refl; before = λ p h. refl; added = λ p low high h. absurd (omega arith); after = λ p h. refl }

-- one part after another
pub adds_both : (f : List ℕ → List ℕ) (s x y z : List ℕ) (a b c : ℕ) → a ≤ b → b ≤ c → Adds f s x y a b → Adds f s y z b c → Adds f s x z a c
adds_both f s x y z a b c ab bc h k = record {
  long = k.long ∙ h.long;
  before = λ p low. k.before p (omega arith) ∙ h.before p low;
  added = λ p low high within. elim (cases_lt p b) [
    | inl below ↦ k.before p below ∙ h.added p low below within
    | inr above ↦ k.added p above high (omega (arith, h.long)) ∙ ap (λ (n : ℕ). bit_xor n (stream_byte f s p)) (h.after p above)
  ];
  after = λ p high. k.after p high ∙ h.after p (omega arith);
}

-- all of a text, in two parts
pub adds_all : (f : List ℕ → List ℕ) (s x y z : List ℕ) (b : ℕ) → Adds f s x y 0 b → Adds f s y z b (length y) → z ≡ gctr f s x
adds_all f s x y z b h k =
    is_gctr f s x z (k.long ∙ h.long)
    (λ p within. elim (cases_lt p b) [
      | inl below ↦ k.before p below ∙ h.added p (omega arith) below within
      | inr above ↦ k.added p above (omega (arith, h.long)) (omega (arith, h.long)) ∙ ap (λ (n : ℕ). bit_xor n (stream_byte f s p)) (h.after p above)
    ])

-- sixteen blocks of the stream, from block 16 * i on
pub group_byte : (f : List ℕ → List ℕ) (s : List ℕ) (stream : List (List ℕ)) (p i count : ℕ) → IsState s → 256 * i ≤ p → p < 256 * i + 256
    → count ≡ (count_of s + 16 * i) % 2 ^ 32
    → ((b q : ℕ) → b < 16 → q < 16 → byte stream q b ≡ slice_index (f (with_count s (count + b))) q)
    → byte stream ((p - 256 * i) % 16) ((p - 256 * i) / 16) ≡ stream_byte f s p
group_byte f s stream p i count t low high e each =
    let b : ℕ = (p - 256 * i) / 16 in
    let place : (p - 256 * i) % 16 ≡ p % 16 = omega arith in
    each b ((p - 256 * i) % 16) (omega arith) (omega arith)
    ∙ ap (slice_index (f (with_count s (count + b)))) place
    ∙ here f s p (count + b) t (omega (arith, e))

pub block_byte : (f : List ℕ → List ℕ) (s stream : List ℕ) (p i n : ℕ) → IsState s → 16 * i ≤ p → p < 16 * i + 16
    → n ≡ (count_of s + i) % 2 ^ 32 → stream ≡ f (with_count s n)
    → slice_index stream (p - 16 * i) ≡ stream_byte f s p
block_byte f s stream p i n t low high e is =
    let place : p - 16 * i ≡ p % 16 = omega arith in
    let same : n % 2 ^ 32 ≡ (count_of s + p / 16) % 2 ^ 32 = omega (arith, e) in
    ap₂ slice_index is place ∙ here f s p n t same
