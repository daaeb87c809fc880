-- The line that `digest` writes is a digest file of the image.
use Rattle.std.proofs.Common.{◌≡◌, ◌++◌, ◌-◌, ℕ, List, [], ◌∷◌, Some, ◌∙◌, ap, length, length-append, arith, take, drop}
use Rattle.std.specs.Prelude.{bytes_eq, if◌then◌else◌}
use Rattle.std.specs.Result.{result_ok}
use Rattle.std.proofs.lemmas.List.{take_at, drop_at, length-take-le}
use Rattle.hex.specs.Hex.{encode_lower, lower_digits, decode_sized}
use Rattle.hex.proofs.HexLemmas.{length-encode_with, decode_sized-encode_lower}
use Rattle.bits_core.specs.declared.algorithm.Alg.TheVariants.{Sha256}
use Rattle.bits_core.proofs.Bytes.{IsBytes-take}
use Rattle.engine_core.specs.Calls.{Calls, Keeps}
use Rattle.self_tests.specs.declared.table.TheConstants.{IMAGE_KEY}
use Rattle.self_tests.specs.Integrity.{image_digest}
use Rattle.program_words.specs.DigestFile.{digits_of, digest_of}
use Rattle.module_top.specs.Program.{digest_line}

-- the LF behind 64 digits goes
digits_alone : (digits : List ℕ) → length digits ≡ 64 → digits_of (digits ++ 10 ∷ []) ≡ digits
digits_alone digits whole =
    let long : length (digits ++ 10 ∷ []) - 1 ≡ 64 = omega (arith, length-append digits (10 ∷ []), whole) in
    let Digits : ℕ → List ℕ = λ n. if bytes_eq (drop n (digits ++ 10 ∷ [])) (10 ∷ []) then take n (digits ++ 10 ∷ []) else digits ++ 10 ∷ [] in
    ap Digits long
    ∙ ap (λ end. if bytes_eq end (10 ∷ []) then take 64 (digits ++ 10 ∷ []) else digits ++ 10 ∷ []) (drop_at digits (10 ∷ []) 64 whole)
    ∙ take_at digits (10 ∷ []) 64 whole

pub line_is_read : {V : Type 0} (calls : Calls V) → Keeps calls → (engine : V) (image : List ℕ) → digest_of (digest_line calls engine image) ≡ Some (image_digest calls engine image)
line_is_read calls keeps engine image =
    let mac = calls.mac engine Sha256 IMAGE_KEY image in
    let digest = image_digest calls engine image in
    let long : length digest ≡ 32 = length-take-le 32 mac (omega (arith, keeps.mac_length engine Sha256 IMAGE_KEY image)) in
    let whole : length (encode_lower digest) ≡ 64 = omega (arith, length-encode_with lower_digits digest, long) in
    ap (λ digits. result_ok (decode_sized digits 32)) (digits_alone (encode_lower digest) whole)
    ∙ ap (λ read. result_ok read) (decode_sized-encode_lower digest 32 long (IsBytes-take 32 mac (keeps.mac_bytes engine Sha256 IMAGE_KEY image)))
