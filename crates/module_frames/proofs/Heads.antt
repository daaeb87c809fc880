-- What the head of a reply is encoded by, and that it is read in one way.
use Rattle.std.proofs.Common.{◌≡◌, ◌≤◌, ◌<◌, ◌+◌, ◌-◌, ◌^◌, ◌++◌, ℕ, Bool, true, false, List, [], ◌∷◌, Option, Some, None, if◌then◌else◌, rules, length, take, drop, get_or, refl, sym, ◌∙◌, ap, arith, length-append}
use Rattle.std.specs.Prelude.{find, ◌==◌}
use Rattle.std.specs.Int.{to_be_bytes, from_be_bytes, w16, w32}
use Rattle.std.proofs.lemmas.Bool.Decides.{nat_tests}
use Rattle.std.proofs.lemmas.List.{take_at, drop_at, drop-drop, take-append-drop, append_assoc}
use Rattle.std.proofs.lemmas.Nat.{from_be_bytes-to_be_bytes_2}
use Rattle.service_table.specs.declared.state.State.{State}
use Rattle.service_table.specs.declared.status.Status.{Status}
use Rattle.service_table.specs.Numbers.{state_number, state_numbered, all_states, status_number, status_numbered, all_statuses}
use Rattle.module_frames.specs.declared.head.ReplyHead.{ReplyHead}
use Rattle.module_frames.specs.ReplyFrames.{ReplyFrame, head_of, reply_header}
use Rattle.bits_core.specs.ByteList.{zeros, zero_padded}
use Rattle.bits_core.specs.declared.limits.TheConstants.{LARGEST_PAYLOAD}
use Rattle.module_frames.specs.CommandFrames.{version_of, sequence_bytes, IsSequence}
use Rattle.module_frames.specs.ReplyHeads.{head_encoding, BeginsNoHead, indicator, indicated}
use Rattle.module_frames.specs.HeadParts.{EndsWithSequence, HasNoSequence}
use Rattle.module_frames.specs.Laws.{HeadsReadInOneWay, HeadsReadBack, HeadersReadBack}
use Rattle.module_frames.proofs.Sequences.{same_number, same_sequence}

-- what is found passes the test
found : {X : Type 0} (test : X → Bool) (xs : List X) (x : X) → find test xs ≡ Some x → test x ≡ true
found test [] x e = cc
found {X} test (y ∷ ys) x e = found_first (test y) refl e (λ k. found test ys x k) where
  found_first : (b : Bool) → test y ≡ b → (if b then Some y else find test ys) ≡ Some x → (find test ys ≡ Some x → test x ≡ true) → test x ≡ true
  found_first true passes k _ = cc
  found_first false fails k later = later k

-- what is found by a number has it
pub status_found : (number : ℕ) (status : Status) → status_numbered number ≡ Some status → number ≡ status_number status
status_found number status e =
    let same = found (λ s. status_number s == number) all_statuses status e in
    grind (arith, nat_tests, same)

pub state_found : (number : ℕ) (state : State) → state_numbered number ≡ Some state → number ≡ state_number state
state_found number state e =
    let same = found (λ s. state_number s == number) all_states state e in
    grind (arith, nat_tests, same)

pub indicator_found : (number : ℕ) (approved : Bool) → indicated number ≡ Some approved → number ≡ indicator approved
indicator_found number approved e =
    let same = found (λ a. indicator a == number) (false ∷ true ∷ []) approved e in
    grind (arith, nat_tests, same)

-- numbers tell statuses, states and indicators apart
same_status : (a b : Status) → status_number a ≡ status_number b → a ≡ b
same_status a b e = search rules

same_state : (a b : State) → state_number a ≡ state_number b → a ≡ b
same_state a b e = search rules

same_indicator : (a b : Bool) → indicator a ≡ indicator b → a ≡ b
same_indicator true true e = refl
same_indicator true false e = cc
same_indicator false true e = cc
same_indicator false false e = refl

-- heads with the same fields are one
same_head : (service service' : ℕ) (sequence sequence' : Option ℕ) (status status' : Status) (state state' : State) (approved approved' : Bool) (code code' : ℕ) (block block' : List ℕ) (long long' : ℕ)
    → service ≡ service' → sequence ≡ sequence' → status ≡ status' → state ≡ state' → approved ≡ approved' → code ≡ code' → block ≡ block' → long ≡ long'
    → Path ReplyHead (record { service = service; sequence = sequence; status = status; state = state; approved = approved; code = code; block = block; length = long })
    (record { service = service'; sequence = sequence'; status = status'; state = state'; approved = approved'; code = code'; block = block'; length = long' })
same_head s s' n n' t t' u u' a a' c c' b b' l l' hs hn ht hu ha hc hb hl = rw (hs, hn, ht, hu, ha, hc, hb, hl) refl

six_cells : (bytes : List ℕ) → 6 ≤ length bytes
    → bytes ≡ get_or bytes 0 0 ∷ get_or bytes 1 0 ∷ get_or bytes 2 0 ∷ get_or bytes 3 0 ∷ get_or bytes 4 0 ∷ get_or bytes 5 0 ∷ drop 6 bytes
six_cells [] h = absurd (omega arith)
six_cells (a ∷ []) h = absurd (omega arith)
six_cells (a ∷ b ∷ []) h = absurd (omega arith)
six_cells (a ∷ b ∷ c ∷ []) h = absurd (omega arith)
six_cells (a ∷ b ∷ c ∷ d ∷ []) h = absurd (omega arith)
six_cells (a ∷ b ∷ c ∷ d ∷ e ∷ []) h = absurd (omega arith)
six_cells (a ∷ b ∷ c ∷ d ∷ e ∷ f ∷ remainder) h = refl

-- a part, and what follows it
part : (n from : ℕ) (bytes : List ℕ) → take n (drop from bytes) ++ drop (from + n) bytes ≡ drop from bytes
part n from bytes = ap (λ xs. take n (drop from bytes) ++ xs) (sym (drop-drop n from bytes)) ∙ take-append-drop n (drop from bytes)

four_parts : (bytes : List ℕ) → drop 6 bytes ≡ take 2 (drop 6 bytes) ++ (take 12 (drop 8 bytes) ++ (take 4 (drop 20 bytes) ++ drop 24 bytes))
four_parts bytes =
    let last : take 12 (drop 8 bytes) ++ (take 4 (drop 20 bytes) ++ drop 24 bytes) ≡ drop 8 bytes = ap (λ xs. take 12 (drop 8 bytes) ++ xs) (part 4 20 bytes) ∙ part 12 8 bytes in
    sym (ap (λ xs. take 2 (drop 6 bytes) ++ xs) last ∙ part 2 6 bytes)

-- what the fields of a head are in the bytes, with what follows it
pub record Fields (head : ReplyHead) (bytes more : List ℕ) : Type 0 where
  pub start : get_or bytes 0 0 ≡ 0x5c
  pub version : get_or bytes 1 0 ≡ version_of head.sequence
  pub service : get_or bytes 2 0 ≡ head.service
  pub status : get_or bytes 3 0 ≡ status_number head.status
  pub state : get_or bytes 4 0 ≡ state_number head.state
  pub approved : get_or bytes 5 0 ≡ indicator head.approved
  pub code : to_be_bytes w16 head.code ≡ take 2 (drop 6 bytes)
  pub block : head.block ≡ take 12 (drop 8 bytes)
  pub payload : to_be_bytes w32 head.length ≡ take 4 (drop 20 bytes)
  pub sequence : drop 24 bytes ≡ sequence_bytes head.sequence ++ more

-- a head, and what follows it
encoded_with : (head : ReplyHead) (more : List ℕ) → head_encoding head ++ more
    ≡ 0x5c ∷ version_of head.sequence ∷ head.service ∷ status_number head.status ∷ state_number head.state ∷ indicator head.approved
    ∷ (to_be_bytes w16 head.code ++ (head.block ++ (to_be_bytes w32 head.length ++ (sequence_bytes head.sequence ++ more))))
encoded_with head more =
    ap (λ xs. 0x5c ∷ version_of head.sequence ∷ head.service ∷ status_number head.status ∷ state_number head.state ∷ indicator head.approved ∷ (to_be_bytes w16 head.code ++ xs))
    (append_assoc head.block (to_be_bytes w32 head.length ++ sequence_bytes head.sequence) more)

-- bytes with these fields begin with the head
pub encoded_by : (head : ReplyHead) (bytes more : List ℕ) → 6 ≤ length bytes → Fields head bytes more → bytes ≡ head_encoding head ++ more
encoded_by head bytes more h fields =
    six_cells bytes h
    ∙ rw (four_parts bytes, fields.start, fields.version, fields.service, fields.status, fields.state, fields.approved, ← fields.code, ← fields.block, ← fields.payload, fields.sequence) refl
    ∙ sym (encoded_with head more)

-- bytes that begin with the head have these fields
pub fields_of : (head : ReplyHead) (bytes more : List ℕ) → length head.block ≡ 12 → bytes ≡ head_encoding head ++ more → Fields head bytes more
fields_of head bytes more h encoded =
    let e = encoded ∙ encoded_with head more in
    let tail : drop 8 bytes ≡ head.block ++ (to_be_bytes w32 head.length ++ (sequence_bytes head.sequence ++ more)) = ap (λ xs. drop 8 xs) e in
    let behind : drop 20 bytes ≡ to_be_bytes w32 head.length ++ (sequence_bytes head.sequence ++ more) =
    sym (drop-drop 12 8 bytes) ∙ ap (λ xs. drop 12 xs) tail ∙ drop_at head.block (to_be_bytes w32 head.length ++ (sequence_bytes head.sequence ++ more)) 12 h in
    record {
      start = ap (λ xs. get_or xs 0 0) e;
      version = ap (λ xs. get_or xs 1 0) e;
      service = ap (λ xs. get_or xs 2 0) e;
      status = ap (λ xs. get_or xs 3 0) e;
      state = ap (λ xs. get_or xs 4 0) e;
      approved = ap (λ xs. get_or xs 5 0) e;
      code = sym (ap (λ xs. take 2 (drop 6 xs)) e);
      block = sym (ap (λ xs. take 12 xs) tail ∙ take_at head.block (to_be_bytes w32 head.length ++ (sequence_bytes head.sequence ++ more)) 12 h);
      payload = sym (ap (λ xs. take 4 xs) behind);
      sequence = sym (drop-drop 4 20 bytes) ∙ ap (λ xs. drop 4 xs) behind;
    }

same_code : (m n : ℕ) → m < 2 ^ 16 → n < 2 ^ 16 → to_be_bytes w16 m ≡ to_be_bytes w16 n → m ≡ n
same_code m n hm hn e = sym (from_be_bytes-to_be_bytes_2 m hm) ∙ ap (λ xs. from_be_bytes w16 xs) e ∙ from_be_bytes-to_be_bytes_2 n hn

-- bytes that tell too long a payload begin with no head
pub too_long : (bytes : List ℕ) (long : ℕ) → long < 2 ^ 32 → to_be_bytes w32 long ≡ take 4 (drop 20 bytes) → LARGEST_PAYLOAD < long → BeginsNoHead bytes
too_long bytes long fits e above head more block few encoded =
    let fields = fields_of head bytes more block encoded in
    let same = same_number long head.length fits (omega (arith, few)) (e ∙ sym fields.payload) in
    omega (arith, same, few, above)

length-encoded : (head : ReplyHead) (bytes more : List ℕ) → length head.block ≡ 12 → bytes ≡ head_encoding head ++ more
    → length bytes ≡ 24 + length (sequence_bytes head.sequence ++ more)
length-encoded head bytes more h encoded =
    omega (arith, ap length (encoded ∙ encoded_with head more), length-append head.block (to_be_bytes w32 head.length ++ (sequence_bytes head.sequence ++ more)), h)

-- fewer bytes than a head has begin with none
pub too_short : (bytes : List ℕ) → length bytes < 24 → BeginsNoHead bytes
too_short bytes short head more block few encoded = omega (arith, short, length-encoded head bytes more block encoded)

no_version : (sequence : Option ℕ) (bytes more : List ℕ) → HasNoSequence bytes → get_or bytes 1 0 ≡ version_of sequence
    → length bytes ≡ 24 + length (sequence_bytes sequence ++ more) → ⊥
no_version None bytes more none version long = none.0 version
no_version (Some number) bytes more none version long = omega (arith, none.1 version, long)

-- bytes of neither version, or too few for a sequence number, begin with none
pub no_sequence : (bytes : List ℕ) → HasNoSequence bytes → BeginsNoHead bytes
no_sequence bytes none head more block few encoded =
    no_version head.sequence bytes more none (fields_of head bytes more block encoded).version (length-encoded head bytes more block encoded)

-- what follows a head with this sequence number
pub behind : Option ℕ → List ℕ → List ℕ
behind None bytes = drop 24 bytes
behind (Some number) bytes = drop 28 bytes

pub told_version : (sequence : Option ℕ) (bytes : List ℕ) → EndsWithSequence bytes sequence → get_or bytes 1 0 ≡ version_of sequence
told_version None bytes ends = ends
told_version (Some number) bytes ends = ends.0

pub told_sequence : (sequence : Option ℕ) (bytes : List ℕ) → EndsWithSequence bytes sequence → drop 24 bytes ≡ sequence_bytes sequence ++ behind sequence bytes
unfolding behind
told_sequence None bytes ends = refl
told_sequence (Some number) bytes ends = sym (ap (λ xs. xs ++ drop 28 bytes) ends.3 ∙ part 4 24 bytes)

pub told_width : (sequence : Option ℕ) (bytes : List ℕ) → EndsWithSequence bytes sequence → IsSequence sequence
told_width None bytes ends = tt
told_width (Some number) bytes ends = ends.2

pub one_way : HeadsReadInOneWay
one_way a b x y wa wb e =
    let bytes = head_encoding a ++ x in
    let fa = fields_of a bytes x wa.block refl in
    let fb = fields_of b bytes y wb.block e in
    let numbers = same_sequence a.sequence b.sequence x y wa.sequence wb.sequence (sym fa.version ∙ fb.version) (sym fa.sequence ∙ fb.sequence) in (
      same_head a.service b.service a.sequence b.sequence a.status b.status a.state b.state a.approved b.approved a.code b.code a.block b.block a.length b.length
          (sym fa.service ∙ fb.service) numbers.0 (same_status a.status b.status (sym fa.status ∙ fb.status)) (same_state a.state b.state (sym fa.state ∙ fb.state))
          (same_indicator a.approved b.approved (sym fa.approved ∙ fb.approved)) (same_code a.code b.code wa.code wb.code (fa.code ∙ sym fb.code))
          (fa.block ∙ sym fb.block) (same_number a.length b.length wa.payload wb.payload (fa.payload ∙ sym fb.payload)),
      numbers.1,
    )

pub reads_back : HeadsReadBack
reads_back head bytes None is read = absurd (read head is.more is.widths.block is.payload is.encoded)
reads_back head bytes (Some other) is read =
    ap (λ (h : ReplyHead). Some h) (one_way other head read.more is.more read.widths is.widths (sym read.encoded ∙ is.encoded)).0

pub headers_read_back : HeadersReadBack
headers_read_back reply more answer widths few read =
    reads_back (head_of reply) (reply_header reply ++ more) answer (record { widths = widths; payload = few; more = more; encoded = refl }) read

-- the parts of a header, with zeros where there is no sequence number
abbrev pub header_parts : ReplyFrame → List ℕ
header_parts reply =
    0x5c ∷ version_of reply.sequence ∷ reply.service ∷ status_number reply.status ∷ state_number reply.state ∷ indicator reply.approved
    ∷ (to_be_bytes w16 reply.code ++ (reply.block ++ (to_be_bytes w32 (length reply.payload) ++ zero_padded 4 (sequence_bytes reply.sequence))))

parts_of : (reply : ReplyFrame) → header_parts reply ≡ reply_header reply ++ zeros (4 - length (sequence_bytes reply.sequence))
parts_of reply = sym (encoded_with (head_of reply) (zeros (4 - length (sequence_bytes reply.sequence))))

pub length-header : (reply : ReplyFrame) → length reply.block ≡ 12 → length (reply_header reply) ≡ 24 + length (sequence_bytes reply.sequence)
length-header reply h = omega (arith, length-append reply.block (to_be_bytes w32 (length reply.payload) ++ sequence_bytes reply.sequence), h)

-- the header is in front, and zeros are behind it
pub header_in_front : (reply : ReplyFrame) → length reply.block ≡ 12 → take (24 + length (sequence_bytes reply.sequence)) (header_parts reply) ≡ reply_header reply
header_in_front reply h =
    let size = length-header reply h in
    ap (λ xs. take (24 + length (sequence_bytes reply.sequence)) xs) (parts_of reply)
    ∙ take_at (reply_header reply) (zeros (4 - length (sequence_bytes reply.sequence))) (24 + length (sequence_bytes reply.sequence)) size

pub zeros_behind : (reply : ReplyFrame) → length reply.block ≡ 12
    → drop (24 + length (sequence_bytes reply.sequence)) (header_parts reply) ≡ zeros (28 - (24 + length (sequence_bytes reply.sequence)))
zeros_behind reply h =
    let size = length-header reply h in
    let same : 4 - length (sequence_bytes reply.sequence) ≡ 28 - (24 + length (sequence_bytes reply.sequence)) = omega arith in
    ap (λ xs. drop (24 + length (sequence_bytes reply.sequence)) xs) (parts_of reply)
    ∙ drop_at (reply_header reply) (zeros (4 - length (sequence_bytes reply.sequence))) (24 + length (sequence_bytes reply.sequence)) size
    ∙ ap zeros same
