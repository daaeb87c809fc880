-- The bytes that hex digits spell, two digits after two.
use Rattle.std.proofs.Common.{◌≡◌, ◌+◌, ◌*◌, ◌%◌, ◌<◌, ◌==◌, ℕ, zero, suc, Bool, true, false, if◌then◌else◌, List, [], ◌∷◌, length, take, drop, get_or, Option, Some, None, Result, Ok, Err, bytes_eq, refl, sym, ap, ◌∙◌, arith}
use Rattle.std.specs.Option.{option_map}
use Rattle.std.specs.Result.{result_ok}
use Rattle.hex.proofs.HexLemmas.{decode_pairs-ok}
use Rattle.std.proofs.lemmas.Slice.Eq.{bytes_eq-Decides}
use Rattle.hex.specs.Hex.{decode_of, decode_pairs, digit_or_error, hex_digit_value, pair_value, ◌>>=◌}
use Rattle.hex.specs.declared.error.FromHexError.{FromHexError}
use Rattle.hex.specs.declared.error.FromHexError.TheVariants.{OddLength}
use Rattle.line_words.specs.Bytes.{bytes_of, no_byte}

-- the place of a digit shows in an error alone
by_digits : (a b i j v : ℕ) (high low : Option ℕ)
    → (digit_or_error a i high >>= λ h. (digit_or_error b (i + 1) low >>= λ l. Ok (h * 16 + l))) ≡ Ok v
    → (digit_or_error a j high >>= λ h. (digit_or_error b (j + 1) low >>= λ l. Ok (h * 16 + l))) ≡ Ok v
by_digits a b i j v (Some x) (Some y) e = e
by_digits a b i j v (Some x) None e = cc e
by_digits a b i j v None low e = cc e

pair_anywhere : (a b i j v : ℕ) → pair_value a b i ≡ Ok v → pair_value a b j ≡ Ok v
pair_anywhere a b i j v e = by_digits a b i j v (hex_digit_value a) (hex_digit_value b) e

-- the first byte, and the others
record Parts (a b i : ℕ) (rest bytes : List ℕ) : Type 0 where
  pub first : ℕ
  pub more : List ℕ
  pub pair : pair_value a b i ≡ Ok first
  pub others : decode_pairs (i + 2) rest ≡ Ok more
  pub whole : bytes ≡ first ∷ more

by_rest : (a b i v : ℕ) (rest bytes : List ℕ) → pair_value a b i ≡ Ok v → (found : Result (List ℕ) FromHexError) → decode_pairs (i + 2) rest ≡ found
    → (found >>= λ more. Ok (v ∷ more)) ≡ Ok bytes → Parts a b i rest bytes
by_rest a b i v rest bytes p (Ok more) q e = record { first = v; more = more; pair = p; others = q; whole = cc e }
by_rest a b i v rest bytes p (Err x) q e = cc e

by_pair : (a b i : ℕ) (rest bytes : List ℕ) → (found : Result ℕ FromHexError) → pair_value a b i ≡ found
    → (found >>= λ byte. (decode_pairs (i + 2) rest >>= λ more. Ok (byte ∷ more))) ≡ Ok bytes → Parts a b i rest bytes
by_pair a b i rest bytes (Ok v) p e = by_rest a b i v rest bytes p (decode_pairs (i + 2) rest) refl e
by_pair a b i rest bytes (Err x) p e = cc e

parts : (a b i : ℕ) (rest bytes : List ℕ) → decode_pairs i (a ∷ b ∷ rest) ≡ Ok bytes → Parts a b i rest bytes
unfolding decode_pairs
parts a b i rest bytes e = by_pair a b i rest bytes (pair_value a b i) refl e

-- two digits spell one byte
two_digits : (a b v : ℕ) → pair_value a b 0 ≡ Ok v → bytes_of (a ∷ b ∷ []) ≡ Some (v ∷ [])
unfolding bytes_of decode_pairs
two_digits a b v e = by_test (bytes_eq (a ∷ b ∷ []) no_byte) refl
  where
    by_test : (test : Bool) → bytes_eq (a ∷ b ∷ []) no_byte ≡ test
        → (if test then Some [] else result_ok (pair_value a b 0 >>= λ byte. Ok (byte ∷ []))) ≡ Some (v ∷ [])
    by_test true h = let same : a ∷ b ∷ [] ≡ no_byte = (bytes_eq-Decides (a ∷ b ∷ []) no_byte).0 h in cc
    by_test false h = ap (λ (r : Result ℕ FromHexError). result_ok (r >>= λ byte. Ok (byte ∷ []))) e

pub nth_pair : (k i : ℕ) (digits bytes : List ℕ) → decode_pairs i digits ≡ Ok bytes → k < length bytes
    → bytes_of (take 2 (drop (2 * k) digits)) ≡ Some (get_or bytes k 0 ∷ [])
unfolding decode_pairs
nth_pair k i [] bytes e h = let none : [] ≡ bytes = cc e in absurd (omega (arith, ap (length {A = ℕ}) none))
nth_pair k i (a ∷ []) bytes e h = cc e
nth_pair zero i (a ∷ b ∷ rest) bytes e h =
    let p = parts a b i rest bytes e in
    rw p.whole (two_digits a b p.first (pair_anywhere a b i 0 p.first p.pair))
nth_pair (suc k) i (a ∷ b ∷ rest) bytes e h =
    let p = parts a b i rest bytes e in
    let twice : 2 * suc k ≡ suc (suc (2 * k)) = omega arith in
    let less : k < length p.more = omega (arith, ap (length {A = ℕ}) p.whole) in
    rw (twice, p.whole) (nth_pair k (i + 2) rest p.more p.others less)

-- a word that spells some bytes is their digits
decoded : (word bytes : List ℕ) → bytes_of word ≡ Some bytes → 0 < length bytes → decode_pairs 0 word ≡ Ok bytes
unfolding bytes_of
decoded word bytes e h = by_test (bytes_eq word no_byte) e
  where
    by_odd : (odd : Bool) (found : Result (List ℕ) FromHexError) → decode_pairs 0 word ≡ found
        → result_ok (if odd then Err OddLength else found) ≡ Some bytes → decode_pairs 0 word ≡ Ok bytes
    by_odd true found q r = cc r
    by_odd false (Ok read) q r = let same : read ≡ bytes = cc r in q ∙ ap Ok same
    by_odd false (Err x) q r = cc r

    by_empty : (empty : Bool) → (if empty then None else result_ok (decode_of word)) ≡ Some bytes → decode_pairs 0 word ≡ Ok bytes
    by_empty true r = cc r
    by_empty false r = by_odd (length word % 2 == 1) (decode_pairs 0 word) refl r

    by_test : (test : Bool) → (if test then Some [] else if length word == 0 then None else result_ok (decode_of word)) ≡ Some bytes
        → decode_pairs 0 word ≡ Ok bytes
    by_test true r = let none : [] ≡ bytes = cc r in absurd (omega (arith, ap (length {A = ℕ}) none))
    by_test false r = by_empty (length word == 0) r

-- the bytes that a word spells, and how many they are
record Found (word : List ℕ) (count : ℕ) : Type 0 where
  pub bytes : List ℕ
  pub spelled : bytes_of word ≡ Some bytes
  pub long : length bytes ≡ count

found_bytes : (word : List ℕ) (count : ℕ) → option_map (length {A = ℕ}) (bytes_of word) ≡ Some count → Found word count
found_bytes word count e = by_bytes (bytes_of word) refl e
  where
    by_bytes : (found : Option (List ℕ)) → bytes_of word ≡ found → option_map (length {A = ℕ}) found ≡ Some count → Found word count
    by_bytes (Some bytes) q r = record { bytes = bytes; spelled = q; long = cc r }
    by_bytes None q r = cc r

-- two digits for each byte
pub digits_long : (word : List ℕ) (count : ℕ) → option_map (length {A = ℕ}) (bytes_of word) ≡ Some count → 0 < count → length word ≡ 2 * count
digits_long word count e h =
    let found = found_bytes word count e in
    let pairs = decoded word found.bytes found.spelled (omega (arith, found.long)) in
    (decode_pairs-ok 0 word found.bytes pairs).1 ∙ ap (λ (n : ℕ). 2 * n) found.long

pub nth_byte : (k : ℕ) (word bytes : List ℕ) → bytes_of word ≡ Some bytes → k < length bytes
    → bytes_of (take 2 (drop (2 * k) word)) ≡ Some (get_or bytes k 0 ∷ [])
nth_byte k word bytes e h = nth_pair k 0 word bytes (decoded word bytes e (omega arith)) h

pub count_is : (word : List ℕ) (count : ℕ) (bytes : List ℕ) → option_map (length {A = ℕ}) (bytes_of word) ≡ Some count → bytes_of word ≡ Some bytes → length bytes ≡ count
count_is word count bytes e q = let same = sym (ap (option_map (length {A = ℕ})) q) ∙ e in cc same

-- a pair of digits spells one byte
pub pair_length : (k : ℕ) (word : List ℕ) (count : ℕ) → option_map (length {A = ℕ}) (bytes_of word) ≡ Some count → k < count
    → option_map (length {A = ℕ}) (bytes_of (take 2 (drop (2 * k) word))) ≡ Some 1
pair_length k word count e h =
    let found = found_bytes word count e in
    ap (option_map (length {A = ℕ})) (nth_byte k word found.bytes found.spelled (omega (arith, found.long)))
