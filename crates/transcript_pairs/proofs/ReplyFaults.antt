-- The faults of replies: that they stay, and that whole bytes without one encode a head.
use Rattle.std.proofs.Common.{◌≡◌, ◌≤◌, ◌++◌, ℕ, Bool, true, false, not, List, [], ◌∷◌, Option, None, Some, length, take, drop, get_or, refl, sym, ◌∙◌, ap, arith, if◌then◌else◌}
use Rattle.std.specs.Prelude.{nat_lt, ◌==◌, ◌&&◌}
use Rattle.std.specs.Option.{is_none}
use Rattle.std.specs.Int.{from_be_bytes, to_be_bytes, w16, w32}
use Rattle.std.proofs.lemmas.Bool.Decides.{nat_tests}
use Rattle.std.proofs.lemmas.List.{drop-append-le, drop-drop, length-drop, length-take, length-take-le, take-append-drop, take-append-le}
use Rattle.std.proofs.lemmas.Nat.{be_bytes_2, be_bytes_4}
use Rattle.bits_core.specs.ByteList.{IsBytes}
use Rattle.bits_core.proofs.Bytes.{IsBytes-drop, IsBytes-take}
use Rattle.bits_core.specs.declared.limits.TheConstants.{LARGEST_PAYLOAD}
use Rattle.service_table.specs.Numbers.{state_numbered, status_numbered}
use Rattle.module_frames.specs.CommandFrames.{sequence_bytes, version_of}
use Rattle.module_frames.specs.ReplyHeads.{BeginsNoHead, indicated}
use Rattle.module_frames.specs.declared.head.ReplyHead.{ReplyHead}
use Rattle.module_frames.proofs.Heads.{Fields, encoded_by, indicator_found, state_found, status_found}
use Rattle.transcript_pairs.proofs.ReplyEncodings.{head_range}
use Rattle.transcript_pairs.specs.ReplyStreams.{has_long_payload, head_size, payload_bytes, payload_length, reply_fault}

-- with the length there, more bytes don't change it
pub payload_bytes-append : (front more : List ℕ) → 24 ≤ length front → payload_bytes (front ++ more) ≡ payload_bytes front
payload_bytes-append front more k =
    ap (λ xs. take 4 xs) (drop-append-le 20 front more (omega (arith, k))) ∙ take-append-le 4 (drop 20 front) more (omega (arith, k, length-drop 20 front))

pub payload_length-append : (front more : List ℕ) → 24 ≤ length front → payload_length (front ++ more) ≡ payload_length front
unfolding payload_length
payload_length-append front more k = ap (λ xs. from_be_bytes w32 xs) (payload_bytes-append front more k)

-- four bytes of it are there only where as many bytes are as a head has
four_there : (bytes : List ℕ) → (length (payload_bytes bytes) == 4) ≡ true → 24 ≤ length bytes
four_there bytes test =
    let four : length (take 4 (drop 20 bytes)) ≡ 4 = grind (arith, nat_tests, test) in
    omega (arith, four, length-take 4 (drop 20 bytes), length-drop 20 bytes)

long_same : (front more : List ℕ) → 24 ≤ length front → has_long_payload (front ++ more) ≡ has_long_payload front
long_same front more k =
    ap (λ (xs : List ℕ). length xs == 4 && nat_lt LARGEST_PAYLOAD (payload_length (front ++ more))) (payload_bytes-append front more k)
    ∙ ap (λ n. length (payload_bytes front) == 4 && nat_lt LARGEST_PAYLOAD n) (payload_length-append front more k)

first_of : (a b : Bool) → (a && b) ≡ true → a ≡ true
first_of true b h = refl
first_of false b h = cc

long_stays : (front more : List ℕ) → has_long_payload front ≡ true → has_long_payload (front ++ more) ≡ true
long_stays front more h = long_same front more (four_there front (first_of _ _ h)) ∙ h

one_test : (p : Bool) (y : Option ℕ) (offset : ℕ) → ◌≡◌ {A = Option ℕ} (if p then Some 0 else None) (Some offset) → ◌≡◌ {A = Option ℕ} (if p then Some 0 else y) (Some offset)
one_test true y offset h = h
one_test false y offset h = cc

two_tests : (p q : Bool) (y : Option ℕ) (offset : ℕ) → ◌≡◌ {A = Option ℕ} (if p then Some 0 else if q then Some 1 else None) (Some offset)
    → ◌≡◌ {A = Option ℕ} (if p then Some 0 else if q then Some 1 else y) (Some offset)
two_tests true q y offset h = h
two_tests false q y offset h = after_one q y offset h
  where
    after_one : (q : Bool) (y : Option ℕ) (offset : ℕ) → ◌≡◌ {A = Option ℕ} (if q then Some 1 else None) (Some offset) → ◌≡◌ {A = Option ℕ} (if q then Some 1 else y) (Some offset)
    after_one true y offset h = h
    after_one false y offset h = cc

three_tests : (p q r : Bool) (y : Option ℕ) (offset : ℕ) → ◌≡◌ {A = Option ℕ} (if p then Some 0 else if q then Some 1 else if r then Some 3 else None) (Some offset)
    → ◌≡◌ {A = Option ℕ} (if p then Some 0 else if q then Some 1 else if r then Some 3 else y) (Some offset)
three_tests true q r y offset h = h
three_tests false true r y offset h = h
three_tests false false true y offset h = h
three_tests false false false y offset h = cc

four_tests : (p q r s : Bool) (y : Option ℕ) (offset : ℕ)
    → ◌≡◌ {A = Option ℕ} (if p then Some 0 else if q then Some 1 else if r then Some 3 else if s then Some 4 else None) (Some offset)
    → ◌≡◌ {A = Option ℕ} (if p then Some 0 else if q then Some 1 else if r then Some 3 else if s then Some 4 else y) (Some offset)
four_tests true q r s y offset h = h
four_tests false true r s y offset h = h
four_tests false false true s y offset h = h
four_tests false false false true y offset h = h
four_tests false false false false y offset h = cc

six_tests : (p q r s t u v : Bool) (offset : ℕ) → (u ≡ true → v ≡ true)
    → ◌≡◌ {A = Option ℕ} (if p then Some 0 else if q then Some 1 else if r then Some 3 else if s then Some 4 else if t then Some 5 else if u then Some 20 else None) (Some offset)
    → ◌≡◌ {A = Option ℕ} (if p then Some 0 else if q then Some 1 else if r then Some 3 else if s then Some 4 else if t then Some 5 else if v then Some 20 else None) (Some offset)
six_tests true q r s t u v offset stays h = h
six_tests false true r s t u v offset stays h = h
six_tests false false true s t u v offset stays h = h
six_tests false false false true t u v offset stays h = h
six_tests false false false false true u v offset stays h = h
six_tests false false false false false true v offset stays h = rw (stays refl) h
six_tests false false false false false false v offset stays h = cc

-- a fault that shows stays where it is, however the bytes go on
pub fault_stays : (bytes more : List ℕ) (offset : ℕ) → reply_fault bytes ≡ Some offset → reply_fault (bytes ++ more) ≡ Some offset
unfolding reply_fault payload_length
fault_stays [] more offset h = cc
fault_stays (a ∷ []) more offset h = one_test _ _ offset h
fault_stays (a ∷ b ∷ []) more offset h = two_tests _ _ _ offset h
fault_stays (a ∷ b ∷ c ∷ []) more offset h = two_tests _ _ _ offset h
fault_stays (a ∷ b ∷ c ∷ d ∷ []) more offset h = three_tests _ _ _ _ offset h
fault_stays (a ∷ b ∷ c ∷ d ∷ e ∷ []) more offset h = four_tests _ _ _ _ _ offset h
fault_stays (a ∷ b ∷ c ∷ d ∷ e ∷ f ∷ rest) more offset h = six_tests _ _ _ _ _ _ _ offset (long_stays (a ∷ b ∷ c ∷ d ∷ e ∷ f ∷ rest) more) h

six_same : (p q r s t u v : Bool) → u ≡ v
    → ◌≡◌ {A = Option ℕ} (if p then Some 0 else if q then Some 1 else if r then Some 3 else if s then Some 4 else if t then Some 5 else if u then Some 20 else None)
    (if p then Some 0 else if q then Some 1 else if r then Some 3 else if s then Some 4 else if t then Some 5 else if v then Some 20 else None)
six_same p q r s t u v h = rw h refl

-- as many bytes as a head has tell the fault, whatever follows
pub reply_fault-append : (front more : List ℕ) → 24 ≤ length front → reply_fault (front ++ more) ≡ reply_fault front
unfolding reply_fault
reply_fault-append [] more k = absurd (omega arith)
reply_fault-append (a ∷ []) more k = absurd (omega arith)
reply_fault-append (a ∷ b ∷ []) more k = absurd (omega arith)
reply_fault-append (a ∷ b ∷ c ∷ []) more k = absurd (omega arith)
reply_fault-append (a ∷ b ∷ c ∷ d ∷ []) more k = absurd (omega arith)
reply_fault-append (a ∷ b ∷ c ∷ d ∷ e ∷ []) more k = absurd (omega arith)
reply_fault-append (a ∷ b ∷ c ∷ d ∷ e ∷ f ∷ rest) more k = six_same _ _ _ _ _ _ _ (long_same (a ∷ b ∷ c ∷ d ∷ e ∷ f ∷ rest) more k)

-- nothing shows no fault
pub reply_fault-nil : reply_fault [] ≡ None
unfolding reply_fault payload_length
reply_fault-nil = refl

-- what bytes without a fault tell
record IsSound (bytes : List ℕ) : Type 0 where
  start : get_or bytes 0 0 ≡ 0x5c
  version : (not (get_or bytes 1 0 == 1) && not (get_or bytes 1 0 == 2)) ≡ false
  status : is_none (status_numbered (get_or bytes 3 0)) ≡ false
  state : is_none (state_numbered (get_or bytes 4 0)) ≡ false
  approved : is_none (indicated (get_or bytes 5 0)) ≡ false
  payload : has_long_payload bytes ≡ false

all_false : (p q r s t u : Bool)
    → ◌≡◌ {A = Option ℕ} (if p then Some 0 else if q then Some 1 else if r then Some 3 else if s then Some 4 else if t then Some 5 else if u then Some 20 else None) None
    → (p ≡ false) × (q ≡ false) × (r ≡ false) × (s ≡ false) × (t ≡ false) × (u ≡ false)
all_false true q r s t u h = cc
all_false false true r s t u h = cc
all_false false false true s t u h = cc
all_false false false false true t u h = cc
all_false false false false false true u h = cc
all_false false false false false false true h = cc
all_false false false false false false false h = (refl, refl, refl, refl, refl, refl)

sound : (bytes : List ℕ) → 6 ≤ length bytes → reply_fault bytes ≡ None → IsSound bytes
unfolding reply_fault
sound [] k h = absurd (omega arith)
sound (a ∷ []) k h = absurd (omega arith)
sound (a ∷ b ∷ []) k h = absurd (omega arith)
sound (a ∷ b ∷ c ∷ []) k h = absurd (omega arith)
sound (a ∷ b ∷ c ∷ d ∷ []) k h = absurd (omega arith)
sound (a ∷ b ∷ c ∷ d ∷ e ∷ []) k h = absurd (omega arith)
sound (a ∷ b ∷ c ∷ d ∷ e ∷ f ∷ rest) k h =
    let tests = all_false _ _ _ _ _ _ h in
    let first : not (a == 0x5c) ≡ false = tests.0 in
    record { start = grind (arith, nat_tests, first); version = tests.1; status = tests.2; state = tests.3; approved = tests.4; payload = tests.5 }

some_of : {T : Type 0} (o : Option T) → is_none o ≡ false → (x : T) × (o ≡ Some x)
some_of None h = cc
some_of (Some x) h = (x, refl)

short_told : (there long : ℕ) → there ≡ 4 → (there == 4 && nat_lt LARGEST_PAYLOAD long) ≡ false → long ≤ LARGEST_PAYLOAD
short_told there long four few = grind (arith, nat_tests)

few_told : (bytes : List ℕ) → length (payload_bytes bytes) ≡ 4 → has_long_payload bytes ≡ false → from_be_bytes w32 (payload_bytes bytes) ≤ LARGEST_PAYLOAD
unfolding payload_length
few_told bytes four few = short_told (length (payload_bytes bytes)) (payload_length bytes) four few

-- a head of version 2 has 28 bytes
long_head : (bytes : List ℕ) → (get_or bytes 1 0 == 2) ≡ true → head_size bytes ≡ 28
unfolding head_size
long_head [] test = cc
long_head (a ∷ []) test = cc
long_head (a ∷ b ∷ rest) test = rw test refl

-- a sequence number that bytes tell, and what follows it
record TellsNumber (bytes : List ℕ) : Type 0 where
  sequence : Option ℕ
  more : List ℕ
  version : get_or bytes 1 0 ≡ version_of sequence
  there : drop 24 bytes ≡ sequence_bytes sequence ++ more

numbered : (bytes : List ℕ) → IsBytes bytes → head_size bytes ≤ length bytes → (two : Bool) → (get_or bytes 1 0 == 2) ≡ two → (not (get_or bytes 1 0 == 1) && not (get_or bytes 1 0 == 2)) ≡ false → TellsNumber bytes
numbered bytes are long false test version = record {
  sequence = None;
  more = drop 24 bytes;
  version = grind (arith, nat_tests, test, version);
  there = refl;
}
numbered bytes are long true test version =
    let four : length (take 4 (drop 24 bytes)) ≡ 4 = length-take-le 4 (drop 24 bytes) (omega (arith, length-drop 24 bytes, long, long_head bytes test)) in
    record {
      sequence = Some (from_be_bytes w32 (take 4 (drop 24 bytes)));
      more = drop 28 bytes;
      version = grind (arith, nat_tests, test);
      there = sym (take-append-drop 4 (drop 24 bytes)) ∙ ap (λ xs. xs ++ drop 4 (drop 24 bytes)) (sym (be_bytes_4 (take 4 (drop 24 bytes)) _ four (IsBytes-take 4 (drop 24 bytes) (IsBytes-drop 24 bytes are)) refl))
          ∙ ap (λ xs. to_be_bytes w32 (from_be_bytes w32 (take 4 (drop 24 bytes))) ++ xs) (drop-drop 4 24 bytes);
    }

-- whole bytes without a fault begin with a head
pub begins_a_head : (bytes : List ℕ) → IsBytes bytes → reply_fault bytes ≡ None → head_size bytes ≤ length bytes → BeginsNoHead bytes → ⊥
begins_a_head bytes are no_fault whole none =
    let range = head_range bytes in
    let is = sound bytes (omega (arith, range.0, whole)) no_fault in
    let number = numbered bytes are whole (get_or bytes 1 0 == 2) refl is.version in
    let status' = some_of (status_numbered (get_or bytes 3 0)) is.status in
    let state' = some_of (state_numbered (get_or bytes 4 0)) is.state in
    let approved' = some_of (indicated (get_or bytes 5 0)) is.approved in
    let two : length (take 2 (drop 6 bytes)) ≡ 2 = length-take-le 2 (drop 6 bytes) (omega (arith, length-drop 6 bytes, range.0, whole)) in
    let twelve : length (take 12 (drop 8 bytes)) ≡ 12 = length-take-le 12 (drop 8 bytes) (omega (arith, length-drop 8 bytes, range.0, whole)) in
    let four : length (take 4 (drop 20 bytes)) ≡ 4 = length-take-le 4 (drop 20 bytes) (omega (arith, length-drop 20 bytes, range.0, whole)) in
    let head : ReplyHead = record {
      service = get_or bytes 2 0;
      sequence = number.sequence;
      status = status'.0;
      state = state'.0;
      approved = approved'.0;
      code = from_be_bytes w16 (take 2 (drop 6 bytes));
      block = take 12 (drop 8 bytes);
      length = from_be_bytes w32 (take 4 (drop 20 bytes));
    } in
    let fields : Fields head bytes number.more = record {
      start = is.start;
      version = number.version;
      service = refl;
      status = status_found (get_or bytes 3 0) status'.0 status'.1;
      state = state_found (get_or bytes 4 0) state'.0 state'.1;
      approved = indicator_found (get_or bytes 5 0) approved'.0 approved'.1;
      code = be_bytes_2 (take 2 (drop 6 bytes)) _ two (IsBytes-take 2 (drop 6 bytes) (IsBytes-drop 6 bytes are)) refl;
      block = refl;
      payload = be_bytes_4 (take 4 (drop 20 bytes)) _ four (IsBytes-take 4 (drop 20 bytes) (IsBytes-drop 20 bytes are)) refl;
      sequence = number.there;
    } in
    none head number.more twelve (few_told bytes four is.payload) (encoded_by head bytes number.more (omega (arith, range.0, whole)) fields)
