-- Kinds and domains of security parameters, the numbers that name them, and the lengths that fit: tables of this project's own.
use Rattle.std.specs.Prelude.{◌≢◌, ℕ, Bool, Option, Some, None, ◌==◌, ◌&&◌, ◌||◌, nat_le, if◌then◌else◌}
use Rattle.bits_core.specs.declared.parameter.Kind.{Kind}
use Rattle.bits_core.specs.declared.parameter.Kind.TheVariants.{Aes, Kek, Mac, Kdf}
use Rattle.bits_core.specs.declared.parameter.Domain.{Domain}
use Rattle.bits_core.specs.declared.parameter.Domain.TheVariants.{Other, Approved}

abbrev pub kind_number : Kind → ℕ
kind_number Aes = 1
kind_number Kek = 2
kind_number Mac = 3
kind_number Kdf = 4

-- the kind with a number, if one has it
abbrev pub kind_of : ℕ → Option Kind
kind_of n =
    if n == 1 then Some Aes else if n == 2 then Some Kek else if n == 3 then Some Mac else if n == 4 then Some Kdf else None

-- no kind has the number
abbrev pub IsNoKind : ℕ → Type 0
IsNoKind n = (kind : Kind) → kind_number kind ≢ n

abbrev pub domain_number : Domain → ℕ
domain_number Other = 0
domain_number Approved = 1

-- the domain with a number, if one has it
abbrev pub domain_of : ℕ → Option Domain
domain_of n = if n == 0 then Some Other else if n == 1 then Some Approved else None

-- no domain has the number
abbrev pub IsNoDomain : ℕ → Type 0
IsNoDomain n = (domain : Domain) → domain_number domain ≢ n

-- the length of an AES key (FIPS 197, section 1)
abbrev pub is_aes_length : ℕ → Bool
is_aes_length n = n == 16 || n == 24 || n == 32

-- a length from low to 64 bytes
abbrev pub is_length_from : ℕ → ℕ → Bool
is_length_from low n = nat_le low n && nat_le n 64

-- the lengths in bytes that a parameter of a kind and domain may have; an approved MAC or derivation
-- key has at least 112 bits (SP 800-131A, sections 8 and 10)
abbrev pub length_fits : Kind → Domain → ℕ → Bool
length_fits Aes _ n = is_aes_length n
length_fits Kek _ n = is_aes_length n
length_fits Mac Other n = is_length_from 1 n
length_fits Mac Approved n = is_length_from 14 n
length_fits Kdf Other n = is_length_from 1 n
length_fits Kdf Approved n = is_length_from 14 n
