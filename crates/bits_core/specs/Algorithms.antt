-- The hash functions of FIPS 180-4, the numbers that name them and their lengths in bytes.
use Rattle.std.specs.Prelude.{◌≢◌, ℕ, Option, Some, None, ◌==◌, if◌then◌else◌}
use Rattle.bits_core.specs.declared.algorithm.Alg.{Alg}
use Rattle.bits_core.specs.declared.algorithm.Alg.TheVariants.{Sha256, Sha384, Sha512}

abbrev pub alg_number : Alg → ℕ
alg_number Sha256 = 1
alg_number Sha384 = 2
alg_number Sha512 = 3

-- the algorithm with a number, if one has it
abbrev pub alg_of : ℕ → Option Alg
alg_of n = if n == 1 then Some Sha256 else if n == 2 then Some Sha384 else if n == 3 then Some Sha512 else None

-- no algorithm has the number
abbrev pub IsNoAlg : ℕ → Type 0
IsNoAlg n = (alg : Alg) → alg_number alg ≢ n

-- the length of a digest (FIPS 180-4, figure 1)
abbrev pub alg_size : Alg → ℕ
alg_size Sha256 = 32
alg_size Sha384 = 48
alg_size Sha512 = 64

-- the length of a message block (FIPS 180-4, figure 1)
abbrev pub alg_block : Alg → ℕ
alg_block Sha256 = 64
alg_block Sha384 = 128
alg_block Sha512 = 128
