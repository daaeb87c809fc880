-- The known-answer tests, and the numbers that name them.
use Rattle.std.specs.Prelude.{◌≢◌, ℕ, ◌==◌, List, [], ◌∷◌, Option, find}
use Rattle.self_tests.specs.declared.numbers.Test.{Test}
use Rattle.self_tests.specs.declared.numbers.Test.TheVariants as test

abbrev pub number_of : Test → ℕ
number_of test.Sha256 = 1
number_of test.Sha384 = 2
number_of test.Sha512 = 3
number_of test.HmacSha256 = 4
number_of test.HmacSha384 = 5
number_of test.HmacSha512 = 6
number_of test.Seal = 7
number_of test.Open = 8
number_of test.Wrap = 9
number_of test.Unwrap = 10
number_of test.WrapPad = 11
number_of test.UnwrapPad = 12
number_of test.Derive = 13
number_of test.Generator = 14

-- every test, in the order of their numbers
abbrev pub all_tests : List Test
all_tests =
    test.Sha256 ∷ test.Sha384 ∷ test.Sha512 ∷ test.HmacSha256 ∷ test.HmacSha384 ∷ test.HmacSha512 ∷ test.Seal ∷ test.Open
    ∷ test.Wrap ∷ test.Unwrap ∷ test.WrapPad ∷ test.UnwrapPad ∷ test.Derive ∷ test.Generator ∷ []

-- the test with a number, if one has it
abbrev pub test_numbered : ℕ → Option Test
test_numbered number = find (λ t. number_of t == number) all_tests

-- no test has the number
abbrev pub IsNoTest : ℕ → Type 0
IsNoTest number = (t : Test) → number_of t ≢ number
