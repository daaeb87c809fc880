-- The first bytes: what they tell, and what shows in more bytes.
use Rattle.std.proofs.Common.{◌≡◌, ◌≤◌, ◌<◌, ◌+◌, ◌-◌, ◌++◌, ℕ, zero, suc, Bool, true, false, List, [], ◌∷◌, Option, Some, None, length, take, drop, get_or, replicate, inl, inr, refl, sym, ◌∙◌, ap, arith, if◌then◌else◌}
use Rattle.std.specs.Prelude.{nat_lt}
use Rattle.std.specs.Option.{option_map}
use Rattle.std.specs.Int.{from_be_bytes, w32}
use Rattle.std.proofs.lemmas.Bool.{cases_lt}
use Rattle.std.proofs.lemmas.List.{append_assoc, length-append, length-take-le, take_all, take-append-drop}
use Rattle.bits_core.specs.declared.limits.TheConstants.{LARGEST_BODY}
use Rattle.module_frames.specs.Streams.{first_fault, fault_from, body_length, length_bytes, is_too_long, is_at, is_numbered, header_length}

-- with nothing there is no fault
pub first_fault-nil : first_fault [] ≡ None
unfolding first_fault body_length
first_fault-nil = refl

one_test : (p : Bool) (y : Option ℕ) (offset : ℕ) → ◌≡◌ {A = Option ℕ} (if p then Some 0 else None) (Some offset) → ◌≡◌ {A = Option ℕ} (if p then Some 0 else y) (Some offset)
one_test true y offset h = h
one_test false y offset h = cc

two_tests : (p q : Bool) (y : Option ℕ) (offset : ℕ) → ◌≡◌ {A = Option ℕ} (if p then Some 0 else if q then Some 1 else None) (Some offset)
    → ◌≡◌ {A = Option ℕ} (if p then Some 0 else if q then Some 1 else y) (Some offset)
two_tests true q y offset h = h
two_tests false true y offset h = h
two_tests false false y offset h = cc

three_tests : (p q r : Bool) (y : Option ℕ) (offset : ℕ) → ◌≡◌ {A = Option ℕ} (if p then Some 0 else if q then Some 1 else if r then Some 3 else None) (Some offset)
    → ◌≡◌ {A = Option ℕ} (if p then Some 0 else if q then Some 1 else if r then Some 3 else y) (Some offset)
three_tests true q r y offset h = h
three_tests false true r y offset h = h
three_tests false false true y offset h = h
three_tests false false false y offset h = cc

-- a fault that shows stays where it is, however the bytes go on
pub fault_stays : (bytes more : List ℕ) (offset : ℕ) → first_fault bytes ≡ Some offset → first_fault (bytes ++ more) ≡ Some offset
unfolding first_fault body_length
fault_stays [] more offset h = cc
fault_stays (a ∷ []) more offset h = one_test _ _ offset h
fault_stays (a ∷ b ∷ []) more offset h = two_tests _ _ _ offset h
fault_stays (a ∷ b ∷ c ∷ []) more offset h = two_tests _ _ _ offset h
fault_stays (a ∷ b ∷ c ∷ d ∷ []) more offset h = three_tests _ _ _ _ offset h
fault_stays (a ∷ b ∷ c ∷ d ∷ e ∷ []) more offset h = three_tests _ _ _ _ offset h
fault_stays (a ∷ b ∷ c ∷ d ∷ e ∷ f ∷ []) more offset h = three_tests _ _ _ _ offset h
fault_stays (a ∷ b ∷ c ∷ d ∷ e ∷ f ∷ g ∷ []) more offset h = three_tests _ _ _ _ offset h
fault_stays (a ∷ b ∷ c ∷ d ∷ e ∷ f ∷ g ∷ h ∷ remainder) more offset k = k

fault_within : (start : ℕ) (fault : Option ℕ) (offset : ℕ) → option_map (λ within. start + within) fault ≡ Some offset → (within : ℕ) × (fault ≡ Some within)
fault_within start None offset h = cc
fault_within start (Some within) offset h = (within, refl)

-- bytes that show a fault at an offset in the stream show one
pub shown_fault : (start : ℕ) (bytes : List ℕ) (offset : ℕ) → fault_from start bytes ≡ Some offset → (within : ℕ) × (first_fault bytes ≡ Some within)
shown_fault start bytes offset h = fault_within start (first_fault bytes) offset h

-- and it stays there in the stream
pub fault_from_stays : (start : ℕ) (bytes more : List ℕ) (offset : ℕ) → fault_from start bytes ≡ Some offset → fault_from start (bytes ++ more) ≡ Some offset
fault_from_stays start bytes more offset h =
    let shown = shown_fault start bytes offset h in
    ap (λ fault. option_map (λ within. start + within) fault) (fault_stays bytes more shown.0 shown.1 ∙ sym shown.1) ∙ h

-- bytes with a whole header in front
pub record HeadedBytes (bytes : List ℕ) : Type 0 where
  pub a : ℕ
  pub b : ℕ
  pub c : ℕ
  pub d : ℕ
  pub e : ℕ
  pub f : ℕ
  pub g : ℕ
  pub h : ℕ
  pub remainder : List ℕ
  pub is : bytes ≡ a ∷ b ∷ c ∷ d ∷ e ∷ f ∷ g ∷ h ∷ remainder

pub headed : (bytes : List ℕ) → 8 ≤ length bytes → HeadedBytes bytes
headed [] k = absurd (omega arith)
headed (a ∷ []) k = absurd (omega arith)
headed (a ∷ b ∷ []) k = absurd (omega arith)
headed (a ∷ b ∷ c ∷ []) k = absurd (omega arith)
headed (a ∷ b ∷ c ∷ d ∷ []) k = absurd (omega arith)
headed (a ∷ b ∷ c ∷ d ∷ e ∷ []) k = absurd (omega arith)
headed (a ∷ b ∷ c ∷ d ∷ e ∷ f ∷ []) k = absurd (omega arith)
headed (a ∷ b ∷ c ∷ d ∷ e ∷ f ∷ g ∷ []) k = absurd (omega arith)
headed (a ∷ b ∷ c ∷ d ∷ e ∷ f ∷ g ∷ h ∷ remainder) k =
    record { a = a; b = b; c = c; d = d; e = e; f = f; g = g; h = h; remainder = remainder; is = refl }

-- a whole header tells the fault, whatever follows
pub first_fault-append : (header more : List ℕ) → 8 ≤ length header → first_fault (header ++ more) ≡ first_fault header
unfolding first_fault body_length
first_fault-append header more k = rw (headed header k).is refl

-- a whole header tells the length, whatever follows
pub body_length-append : (header more : List ℕ) → 8 ≤ length header → body_length (header ++ more) ≡ body_length header
unfolding body_length
body_length-append header more k = rw (headed header k).is refl

-- and so do its four bytes, and the version
pub length_bytes-append : (header more : List ℕ) → 8 ≤ length header → length_bytes (header ++ more) ≡ length_bytes header
length_bytes-append header more k = rw (headed header k).is refl

pub is_numbered-append : (header more : List ℕ) → 8 ≤ length header → is_numbered (header ++ more) ≡ is_numbered header
is_numbered-append header more k = rw (headed header k).is refl

-- with the version there, more bytes don't change how long the header is
pub header_length-append : (front more : List ℕ) → 2 ≤ length front → header_length (front ++ more) ≡ header_length front
unfolding header_length
header_length-append [] more k = absurd (omega arith)
header_length-append (a ∷ []) more k = absurd (omega arith)
header_length-append (a ∷ b ∷ front) more k = refl

-- nor does it with a version that is zero
pub header_length-padded : (front : List ℕ) (n : ℕ) → header_length (front ++ replicate n 0) ≡ header_length front
unfolding header_length
header_length-padded [] zero = refl
header_length-padded [] (suc zero) = refl
header_length-padded [] (suc (suc n)) = refl
header_length-padded (a ∷ []) zero = refl
header_length-padded (a ∷ []) (suc n) = refl
header_length-padded (a ∷ b ∷ front) n = refl

-- without the version the header has eight bytes at least
pub header_length-short : (bytes : List ℕ) → length bytes < 2 → header_length bytes ≡ 8
unfolding header_length
header_length-short [] k = refl
header_length-short (a ∷ []) k = refl
header_length-short (a ∷ b ∷ bytes) k = absurd (omega arith)

range : (numbered : Bool) → (8 ≤ (if numbered then 12 else 8)) × ((if numbered then 12 else 8) ≤ 12)
range true = (omega arith, omega arith)
range false = (omega arith, omega arith)

-- a header has eight to twelve bytes
pub header_range : (bytes : List ℕ) → (8 ≤ header_length bytes) × (header_length bytes ≤ 12)
unfolding header_length
header_range bytes = range (is_numbered bytes)

-- by its version
pub header_plain : (bytes : List ℕ) → is_numbered bytes ≡ false → header_length bytes ≡ 8
unfolding header_length
header_plain bytes h = rw h refl

pub header_numbered : (bytes : List ℕ) → is_numbered bytes ≡ true → header_length bytes ≡ 12
unfolding header_length
header_numbered bytes h = rw h refl

-- the length is in the bytes 4 to 7
pub body_length-bytes : (header : List ℕ) → 8 ≤ length header
    → body_length header ≡ from_be_bytes w32 (get_or header 4 0 ∷ get_or header 5 0 ∷ get_or header 6 0 ∷ get_or header 7 0 ∷ [])
unfolding body_length
body_length-bytes header k = rw (headed header k).is refl

pub length_bytes-bytes : (header : List ℕ) → 8 ≤ length header
    → length_bytes header ≡ get_or header 4 0 ∷ get_or header 5 0 ∷ get_or header 6 0 ∷ get_or header 7 0 ∷ []
length_bytes-bytes header k = rw (headed header k).is refl

-- with fewer bytes than a header there is no length
pub short_is_not_too_long : (header : List ℕ) → length header < 8 → is_too_long header ≡ false
short_is_not_too_long [] k = refl
short_is_not_too_long (a ∷ []) k = refl
short_is_not_too_long (a ∷ b ∷ []) k = refl
short_is_not_too_long (a ∷ b ∷ c ∷ []) k = refl
short_is_not_too_long (a ∷ b ∷ c ∷ d ∷ []) k = refl
short_is_not_too_long (a ∷ b ∷ c ∷ d ∷ e ∷ []) k = refl
short_is_not_too_long (a ∷ b ∷ c ∷ d ∷ e ∷ f ∷ []) k = refl
short_is_not_too_long (a ∷ b ∷ c ∷ d ∷ e ∷ f ∷ g ∷ []) k = refl
short_is_not_too_long (a ∷ b ∷ c ∷ d ∷ e ∷ f ∷ g ∷ h ∷ remainder) k = absurd (omega arith)

pub is_too_long-headed : (header : List ℕ) → 8 ≤ length header → is_too_long header ≡ nat_lt LARGEST_BODY (body_length header)
is_too_long-headed header k = rw (headed header k).is refl

-- four bytes are bytes at each offset
pub four_fit : (a b c d : ℕ) → a < 256 → b < 256 → c < 256 → d < 256 → (i : ℕ) → get_or (a ∷ b ∷ c ∷ d ∷ []) i 0 < 256
four_fit a b c d ha hb hc hd zero = ha
four_fit a b c d ha hb hc hd (suc zero) = hb
four_fit a b c d ha hb hc hd (suc (suc zero)) = hc
four_fit a b c d ha hb hc hd (suc (suc (suc zero))) = hd
four_fit a b c d ha hb hc hd (suc (suc (suc (suc i)))) = omega arith

-- the four bytes behind the length
four_behind : (a b c d e f g h : ℕ) (remainder : List ℕ) → length remainder ≡ 4
    → take 4 remainder ≡ get_or (a ∷ b ∷ c ∷ d ∷ e ∷ f ∷ g ∷ h ∷ remainder) 8 0 ∷ get_or (a ∷ b ∷ c ∷ d ∷ e ∷ f ∷ g ∷ h ∷ remainder) 9 0
    ∷ get_or (a ∷ b ∷ c ∷ d ∷ e ∷ f ∷ g ∷ h ∷ remainder) 10 0 ∷ get_or (a ∷ b ∷ c ∷ d ∷ e ∷ f ∷ g ∷ h ∷ remainder) 11 0 ∷ []
four_behind a b c d e f g h [] k = absurd (omega arith)
four_behind a b c d e f g h (i ∷ []) k = absurd (omega arith)
four_behind a b c d e f g h (i ∷ j ∷ []) k = absurd (omega arith)
four_behind a b c d e f g h (i ∷ j ∷ l ∷ []) k = absurd (omega arith)
four_behind a b c d e f g h (i ∷ j ∷ l ∷ m ∷ more) k = refl

pub number_cells : (header : List ℕ) → length header ≡ 12
    → take 4 (drop 8 header) ≡ get_or header 8 0 ∷ get_or header 9 0 ∷ get_or header 10 0 ∷ get_or header 11 0 ∷ []
number_cells header k =
    let front = headed header (omega arith) in
    let long = rw front.is at k in
    rw front.is (four_behind front.a front.b front.c front.d front.e front.f front.g front.h front.remainder (omega (arith, long)))

-- held bytes and a piece: the version is the second of all
pub version_in_piece : (held piece : List ℕ) → length held < 2 → is_at piece (1 - length held) 2 ≡ is_numbered (held ++ piece)
version_in_piece [] piece k = refl
version_in_piece (a ∷ []) piece k = refl
version_in_piece (a ∷ b ∷ held) piece k = absurd (omega arith)

pub version_held : (held piece : List ℕ) → 2 ≤ length held → is_at held 1 2 ≡ is_numbered (held ++ piece)
version_held [] piece k = absurd (omega arith)
version_held (a ∷ []) piece k = absurd (omega arith)
version_held (a ∷ b ∷ held) piece k = refl

-- no header is empty
pub not_whole : (bytes : List ℕ) → 0 ≡ header_length bytes → ⊥
not_whole bytes h = omega (arith, h, header_range bytes)

-- the bytes taken tell how long the header is, as all of the piece does
pub cut_piece : (front piece : List ℕ) (count : ℕ) → count ≤ length piece → (length front + count < 2 → length piece ≤ count)
    → header_length (front ++ take count piece) ≡ header_length (front ++ piece)
cut_piece front piece count within all = elim (cases_lt (length front + count) 2) [
  | inl few ↦ ap (λ xs. header_length (front ++ xs)) (take_all count piece (all few))
  | inr more ↦
      let whole : (front ++ take count piece) ++ drop count piece ≡ front ++ piece =
      append_assoc front (take count piece) (drop count piece) ∙ ap (λ xs. front ++ xs) (take-append-drop count piece) in
      let long : length (front ++ take count piece) ≡ length front + count = omega (arith, length-append front (take count piece), length-take-le count piece within) in
      sym (header_length-append (front ++ take count piece) (drop count piece) (omega (arith, long, more))) ∙ ap header_length whole
]
