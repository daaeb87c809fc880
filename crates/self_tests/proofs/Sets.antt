-- Putting a test into a set.
use Rattle.std.proofs.Common.{◌≡◌, ◌≢◌, ℕ, ◌*◌, ◌%◌, ◌^◌, ◌<◌, ◌==◌, ◌||◌, Bool, true, false, max, refl, sym, ap, ◌∙◌, lit<, arith}
use Rattle.std.specs.Int.{bit_at}
use Rattle.std.specs.Int.Bits.{bit_or}
use Rattle.std.proofs.lemmas.Nat.{or_lt}
use Rattle.std.proofs.lemmas.Nat.Bits.{bit_at_or, bit_at-lt, bit_at-pow_same, bit_at-pow_other}
use Rattle.std.proofs.lemmas.Bool.Decides.{Decides-eqb, not_from_Decides}
use Rattle.self_tests.specs.declared.numbers.Test.{Test}
use Rattle.self_tests.specs.declared.numbers.Test.TheVariants as test
use Rattle.self_tests.specs.Tests.{number_of}
use Rattle.self_tests.specs.TestSet.{has_test, with_test}

-- the bit of a test fits the sixteen bits of a set
pub bit_fits : (t : Test) → 1 * 2 ^ number_of t % 65536 ≡ 2 ^ number_of t
bit_fits test.Sha256 = refl
bit_fits test.Sha384 = refl
bit_fits test.Sha512 = refl
bit_fits test.HmacSha256 = refl
bit_fits test.HmacSha384 = refl
bit_fits test.HmacSha512 = refl
bit_fits test.Seal = refl
bit_fits test.Open = refl
bit_fits test.Wrap = refl
bit_fits test.Unwrap = refl
bit_fits test.WrapPad = refl
bit_fits test.UnwrapPad = refl
bit_fits test.Derive = refl
bit_fits test.Generator = refl

bit_below : (t : Test) → 2 ^ number_of t < 2 ^ 15
bit_below test.Sha256 = lit< tt
bit_below test.Sha384 = lit< tt
bit_below test.Sha512 = lit< tt
bit_below test.HmacSha256 = lit< tt
bit_below test.HmacSha384 = lit< tt
bit_below test.HmacSha512 = lit< tt
bit_below test.Seal = lit< tt
bit_below test.Open = lit< tt
bit_below test.Wrap = lit< tt
bit_below test.Unwrap = lit< tt
bit_below test.WrapPad = lit< tt
bit_below test.UnwrapPad = lit< tt
bit_below test.Derive = lit< tt
bit_below test.Generator = lit< tt

pub set_below : (tests : ℕ) (t : Test) → tests < 2 ^ 15 → with_test tests t < 2 ^ 15
set_below tests t small = or_lt 15 tests (2 ^ number_of t) small (bit_below t)

or_true : (b : Bool) → (b || true) ≡ true
or_true true = refl
or_true false = refl

or_false : (b : Bool) → (b || false) ≡ b
or_false true = refl
or_false false = refl

max_one : (x y : ℕ) → x < 2 → y ≡ 1 → max x y ≡ 1
max_one x y h e = omega arith

max_zero : (x y : ℕ) → y ≡ 0 → max x y ≡ x
max_zero x y e = omega arith

-- the bits of a set in which bit k was put
bit_in_union : (a k i : ℕ) → (bit_at (bit_or a (2 ^ k)) i == 1) ≡ ((bit_at a i == 1) || (i == k))
bit_in_union a k i = by_place (i == k) refl
  where
    by_place : (same : Bool) → (i == k) ≡ same → (bit_at (bit_or a (2 ^ k)) i == 1) ≡ ((bit_at a i == 1) || (i == k))
    by_place true e =
        let h : i ≡ k = (Decides-eqb i k).0 e in
        let set : bit_at (2 ^ k) i ≡ 1 = ap (bit_at (2 ^ k)) h ∙ bit_at-pow_same k in
        let one : bit_at (bit_or a (2 ^ k)) i ≡ 1 = bit_at_or a (2 ^ k) i ∙ max_one (bit_at a i) (bit_at (2 ^ k) i) (bit_at-lt a i) set in
        ap (λ n. n == 1) one ∙ sym (ap (λ b. (bit_at a i == 1) || b) e ∙ or_true (bit_at a i == 1))
    by_place false e =
        let h : i ≢ k = not_from_Decides (i == k) (Decides-eqb i k) e in
        let clear : bit_at (2 ^ k) i ≡ 0 = bit_at-pow_other k i h in
        let kept : bit_at (bit_or a (2 ^ k)) i ≡ bit_at a i = bit_at_or a (2 ^ k) i ∙ max_zero (bit_at a i) (bit_at (2 ^ k) i) clear in
        ap (λ n. n == 1) kept ∙ sym (ap (λ b. (bit_at a i == 1) || b) e ∙ or_false (bit_at a i == 1))

pub test_in_union : (tests : ℕ) (t other : Test) → has_test (with_test tests t) other ≡ (has_test tests other || number_of other == number_of t)
test_in_union tests t other = bit_in_union tests (number_of t) (number_of other)
