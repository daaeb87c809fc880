use Rattle.std.proofs.Common.{◌≡◌, ◌-◌, bit_xor}
use Rattle.ghash_core.specs.Number.{number_product, digits_product, digits}
use Rattle.ghash_core.proofs.bitwise.multiply.Given as goal

abbrev pub invariant-loop-i : goal.invariant-loop-i
invariant-loop-i l = bit_xor l.z (digits_product (digits (128 - l.i) l.x) l.v) ≡ number_product l.fn.x l.fn.h
