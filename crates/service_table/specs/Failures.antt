-- The error codes by which replies tell why the module is in the state Error: a table of this project's own. 0 tells of no failure.
use Rattle.std.specs.Prelude.{ℕ, ◌+◌}
use Rattle.service_table.specs.declared.failure.Failure.{Failure}
use Rattle.service_table.specs.declared.failure.Failure.TheVariants as failure

abbrev pub failure_code : Failure → ℕ
failure_code (failure.KnownAnswer test) = 0x0100 + test
failure_code failure.Integrity = 0x0200
failure_code failure.NoiseEnded = 0x0300
failure_code failure.NoiseFailed = 0x0400
failure_code failure.Repetition = 0x0500
failure_code failure.Proportion = 0x0600

-- the number of the known-answer test that failed; 0 where none did
abbrev pub failed_test : Failure → ℕ
failed_test (failure.KnownAnswer test) = test
failed_test failure.Integrity = 0
failed_test failure.NoiseEnded = 0
failed_test failure.NoiseFailed = 0
failed_test failure.Repetition = 0
failed_test failure.Proportion = 0
