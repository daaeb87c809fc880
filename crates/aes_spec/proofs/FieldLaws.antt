-- Laws of the field, computed at each of the 256 bytes.
use Rattle.std.proofs.Common.{◌≡◌, ℕ, zero, suc, ◌<◌, ◌≤◌, map, refl, ◌∙◌, arith}
use Rattle.std.specs.List.{range_with_len}
use Rattle.aes_spec.specs.Field.{product, remainder, times, first_from, inverse, power}
use Rattle.aes_spec.proofs.EveryByte.{on_bytes}

power_table : map (λ b. power b 254) (range_with_len 0 256) ≡ map inverse (range_with_len 0 256)
unfolding product remainder times first_from inverse power
power_table = refl

pub power_254 : (b : ℕ) → b < 256 → power b 254 ≡ inverse b
power_254 = on_bytes (λ b. power b 254) inverse power_table

-- 0 at 0, else 1
abbrev unless_zero : ℕ → ℕ
unless_zero zero = 0
unless_zero (suc n) = 1

inverse_table : map (λ b. times b (inverse b)) (range_with_len 0 256) ≡ map unless_zero (range_with_len 0 256)
unfolding product remainder times first_from inverse
inverse_table = refl

positive : (b : ℕ) → 1 ≤ b → unless_zero b ≡ 1
positive zero low = absurd (omega arith)
positive (suc n) low = refl

pub times-inverse : (b : ℕ) → 1 ≤ b → b < 256 → times b (inverse b) ≡ 1
times-inverse b low high = on_bytes (λ b. times b (inverse b)) unless_zero inverse_table b high ∙ positive b low
