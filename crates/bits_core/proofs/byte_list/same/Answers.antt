use Rattle.std.proofs.Common.{◌≡◌, ℕ, get_or, bit_or, bit_xor, ap, ◌∙◌, arith, below_more, rules}
use Rattle.std.specs.Prelude.{IsTrue, ◌==◌}
use Rattle.std.specs.Int.Bits.{xor_self}
use Rattle.std.proofs.lemmas.Grind.{same_number_lists}
use Rattle.bits_core.proofs.XorBytes.{xor_is_zero, or_is_zero}
use Rattle.bits_core.proofs.byte_list.same.Goals as goal

pub loop-i-preserved : goal.loop-i-preserved
loop-i-preserved c =
    let loop = c.loop-i in
    record {
      equal = λ none.
          let both = or_is_zero loop.differing (bit_xor (get_or c.args.a.now loop.i 0) (get_or c.args.b.now loop.i 0)) none in
          below_more _ _ (loop.invariant.equal both.0) (xor_is_zero (get_or c.args.a.now loop.i 0) (get_or c.args.b.now loop.i 0) both.1);
      zero_if_equal = λ equal.
          ap (λ (d : ℕ). bit_or d (bit_xor (get_or c.args.a.now loop.i 0) (get_or c.args.b.now loop.i 0))) (loop.invariant.zero_if_equal equal)
          ∙ ap (λ (n : ℕ). bit_or 0 (bit_xor n (get_or c.args.b.now loop.i 0))) (ap (λ xs. get_or xs loop.i 0) equal)
          ∙ ap (bit_or 0) (xor_self (get_or c.args.b.now loop.i 0));
    }

is_zero : (n : ℕ) → IsTrue (n == 0) → n ≡ 0
is_zero n test = search rules

zero_is : (n : ℕ) → n ≡ 0 → IsTrue (n == 0)
zero_is n none = search rules

pub returns : goal.returns
returns c = (
  λ yes. same_number_lists c.args.a.now c.args.b.now (omega arith) (λ k h. c.loop-i.invariant.equal (is_zero c.loop-i.differing yes) k (omega arith)),
  λ equal. zero_is c.loop-i.differing (c.loop-i.invariant.zero_if_equal equal),
)
