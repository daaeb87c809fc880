-- What taking one sample answers: the byte, or the error code of what failed.
use Rattle.std.specs.Prelude.{◌≡◌, ℕ, List, [], ◌∷◌, Result, MatchResult}
use Rattle.outside.specs.declared.traits.Sample.{Sample}
use Rattle.service_table.specs.declared.failure.Failure.{Failure}
use Rattle.service_table.specs.Failures.{failure_code}
use Rattle.tested_noise.specs.Taken.{AreTaken, FailsWithin}

-- something failed that has this code
abbrev pub FailsWithCode : List ℕ → ℕ → List Sample → List Sample → Type 0
FailsWithCode samples code events left = (why : Failure) × (code ≡ failure_code why) × FailsWithin samples 1 why events left

abbrev pub IsSampleOrCode : List ℕ → Result ℕ ℕ → List Sample → List Sample → Type 0
IsSampleOrCode samples answer events left = MatchResult answer (λ byte. AreTaken samples (byte ∷ []) events left) (λ code. FailsWithCode samples code events left)
