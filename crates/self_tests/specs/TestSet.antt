-- Sets of tests. A set is the number whose bit of value 2^i says whether test i is in it.
use Rattle.std.specs.Prelude.{ℕ, ◌^◌, ◌==◌, Bool}
use Rattle.std.specs.Int.{bit_at}
use Rattle.std.specs.Int.Bits.{bit_or}
use Rattle.self_tests.specs.declared.numbers.Test.{Test}
use Rattle.self_tests.specs.Tests.{number_of}

-- the test is in the set
abbrev pub has_test : ℕ → Test → Bool
has_test tests test = bit_at tests (number_of test) == 1

-- the set with the test
abbrev pub with_test : ℕ → Test → ℕ
with_test tests test = bit_or tests (2 ^ number_of test)
