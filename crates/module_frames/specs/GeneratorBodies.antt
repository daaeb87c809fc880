-- The forms of the bodies that ask the random bit generator (SP 800-90A Rev. 1, 9.2 and 9.3).
use Rattle.std.specs.Prelude.{ℕ, ◌&&◌, nat_le, Bool, List, length, drop, Option, Some, None, if◌then◌else◌}
use Rattle.std.specs.Option.{option_map}
use Rattle.module_frames.specs.RequestValues.{RequestValue, Cryptographic, Random, Generate, Reseed}
use Rattle.module_frames.specs.SharedParts.{number_at, new_parameter_of}

-- additional input has at most 256 bytes
abbrev pub is_additional : List ℕ → Bool
is_additional additional = nat_le (length additional) 256

-- 1 to 65,536 bytes
abbrev pub random_with : ℕ → List ℕ → Option RequestValue
random_with long additional =
    if nat_le 1 long && (nat_le long 65536 && is_additional additional)
    then Some (Cryptographic (Random long additional))
    else None

-- the length in four bytes, then additional input
abbrev pub random_of : List ℕ → Option RequestValue
random_of body = if nat_le 4 (length body) then random_with (number_at body 0) (drop 4 body) else None

-- a parameter as it is entered, whose bytes are drawn
abbrev pub generate_of : List ℕ → Option RequestValue
generate_of body = option_map (λ new. Cryptographic (Generate new.slot new.header new.length)) (new_parameter_of body)

abbrev pub reseed_of : List ℕ → Option RequestValue
reseed_of body = if is_additional body then Some (Cryptographic (Reseed body)) else None
