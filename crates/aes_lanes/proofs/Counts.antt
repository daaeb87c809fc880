-- The counter blocks in closed form.
use Rattle.std.proofs.Common.{◌≡◌, ℕ, zero, suc, ◌+◌, ◌/◌, ◌%◌, ◌^◌, ◌<◌, List, ◌++◌, map, refl, sym, ap, ◌∙◌, arith, slice_index, w32}
use Rattle.std.specs.List.{range_with_len}
use Rattle.std.specs.Int.{from_be_bytes, to_be_bytes}
use Rattle.std.proofs.lemmas.Nat.{from_be_bytes-to_be_bytes_4, be_bytes_4}
use Rattle.std.proofs.lemmas.Grind.{same_number_lists}
use Rattle.aes_spec.specs.Aes.{IsState}
use Rattle.aes_spec.specs.Gctr.{inc32, counter_block, stream_byte}
use Rattle.aes_spec.proofs.States.{small_at}
use Rattle.aes_lanes.specs.Streams.{with_count, count_of}
use Rattle.aes_lanes.proofs.Tower.{below_16}

pub with_count_state : (s : List ℕ) (n : ℕ) → IsState s → IsState (with_count s n)
with_count_state s n t =
    let h = t.small in
    record { long = refl; small = small_at (with_count s n) (h 0, (h 1, (h 2, (h 3, (h 4, (h 5, (h 6, (h 7, (h 8, (h 9, (h 10, (h 11, (omega arith, (omega arith, (omega arith, (omega arith, tt)))))))))))))))) }

same_count : (s : List ℕ) (a b : ℕ) → a % 2 ^ 32 ≡ b % 2 ^ 32 → with_count s a ≡ with_count s b
same_count s a b e = ap (λ (m : ℕ). map (slice_index s) (range_with_len 0 12) ++ to_be_bytes w32 m) e

next_count : (s : List ℕ) (n : ℕ) → inc32 (with_count s n) ≡ with_count s (n + 1)
next_count s n =
    let back : from_be_bytes w32 (to_be_bytes w32 (n % 2 ^ 32)) ≡ n % 2 ^ 32 = from_be_bytes-to_be_bytes_4 (n % 2 ^ 32) (omega arith) in
    let e : (n % 2 ^ 32 + 1) % 2 ^ 32 ≡ (n + 1) % 2 ^ 32 = omega arith in
    ap (λ (m : ℕ). map (slice_index s) (range_with_len 0 12) ++ to_be_bytes w32 m) (ap (λ (m : ℕ). (m + 1) % 2 ^ 32) back ∙ e)

first_count : (s : List ℕ) → IsState s → s ≡ with_count s (count_of s + 0)
first_count s t =
    let tail : List ℕ = map (slice_index s) (range_with_len 12 4) in
    let small : count_of s < 2 ^ 32 = omega (arith, t.small 12, t.small 13, t.small 14, t.small 15) in
    let e : (count_of s + 0) % 2 ^ 32 ≡ count_of s = omega (arith, small) in
    let bytes : to_be_bytes w32 (count_of s) ≡ tail = be_bytes_4 tail (count_of s) refl (small_at tail (t.small 12, (t.small 13, (t.small 14, (t.small 15, tt))))) refl in
    let whole : s ≡ map (slice_index s) (range_with_len 0 16) = same_number_lists s (map (slice_index s) (range_with_len 0 16)) t.long
    (λ p h. below_16 (λ (p : ℕ). slice_index s p ≡ slice_index (map (slice_index s) (range_with_len 0 16)) p) refl refl refl refl refl refl refl refl refl refl refl refl refl refl refl refl p (omega (arith, t.long))) in
    whole ∙ sym (ap (λ (m : ℕ). map (slice_index s) (range_with_len 0 12) ++ to_be_bytes w32 m) e ∙ ap (λ (b : List ℕ). map (slice_index s) (range_with_len 0 12) ++ b) bytes)

pub counter_block_is : (s : List ℕ) → IsState s → (i : ℕ) → counter_block s i ≡ with_count s (count_of s + i)
unfolding counter_block
counter_block_is s t zero = first_count s t
counter_block_is s t (suc i) =
    let e : count_of s + i + 1 ≡ count_of s + suc i = omega arith in
    ap inc32 (counter_block_is s t i) ∙ next_count s (count_of s + i) ∙ ap (with_count s) e

-- byte p of the stream, from a block whose count is known
pub here : (f : List ℕ → List ℕ) (s : List ℕ) (p n : ℕ) → IsState s → n % 2 ^ 32 ≡ (count_of s + p / 16) % 2 ^ 32
    → slice_index (f (with_count s n)) (p % 16) ≡ stream_byte f s p
unfolding stream_byte
here f s p n t e = ap (λ (b : List ℕ). slice_index (f b) (p % 16)) (same_count s n (count_of s + p / 16) e ∙ sym (counter_block_is s t (p / 16)))
