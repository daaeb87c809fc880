-- What the bytes of a reply tell, and that they are read in one way.
use Rattle.std.proofs.Common.{◌≡◌, ◌≤◌, ◌<◌, ◌+◌, ◌^◌, ◌++◌, ℕ, Bool, true, false, not, List, [], ◌∷◌, Option, None, Some, length, refl, sym, ◌∙◌, ap, arith, length-append, if◌then◌else◌}
use Rattle.std.specs.Prelude.{nat_lt, ◌==◌, ◌&&◌}
use Rattle.std.specs.Option.{is_none}
use Rattle.std.specs.Int.{from_be_bytes, to_be_bytes, w32}
use Rattle.std.proofs.lemmas.Bool.Decides.{nat_tests}
use Rattle.std.proofs.lemmas.List.{append_assoc}
use Rattle.std.proofs.lemmas.Nat.{from_be_bytes-to_be_bytes_4}
use Rattle.bits_core.specs.declared.limits.TheConstants.{LARGEST_PAYLOAD}
use Rattle.service_table.specs.Numbers.{state_number, state_numbered, status_number, status_numbered}
use Rattle.service_table.specs.declared.state.State.{State}
use Rattle.service_table.specs.declared.state.State.TheVariants as state
use Rattle.service_table.specs.declared.status.Status.{Status}
use Rattle.service_table.specs.declared.status.Status.TheVariants as status
use Rattle.module_frames.specs.CommandFrames.{sequence_bytes, version_of}
use Rattle.module_frames.specs.ReplyHeads.{head_encoding, indicated, indicator}
use Rattle.module_frames.specs.declared.head.ReplyHead.{ReplyHead}
use Rattle.module_frames.proofs.Heads.{fields_of}
use Rattle.transcript_pairs.specs.ReplyStreams.{BeginsNoReply, head_size, payload_bytes, payload_length, reply_fault}

-- numbers tell what they are of
has_status : (s : Status) → is_none (status_numbered (status_number s)) ≡ false
has_status status.Ok = refl
has_status status.UnknownService = refl
has_status status.NotInState = refl
has_status status.BadBody = refl
has_status status.TestFailed = refl
has_status status.NoiseFault = refl
has_status status.EmptySlot = refl
has_status status.WrongKind = refl
has_status status.WrongDomain = refl
has_status status.Spent = refl
has_status status.OccupiedSlot = refl
has_status status.NotExportable = refl
has_status status.BadLength = refl
has_status status.CheckFailed = refl
has_status status.AuthFailed = refl
has_status status.UnwrapFailed = refl
has_status status.OutOfOrder = refl

has_state : (s : State) → is_none (state_numbered (state_number s)) ≡ false
has_state state.Off = refl
has_state state.Init = refl
has_state state.SelfTest = refl
has_state state.Approved = refl
has_state state.Officer = refl
has_state state.User = refl
has_state state.Entry = refl
has_state state.Error = refl

has_indicator : (approved : Bool) → is_none (indicated (indicator approved)) ≡ false
has_indicator true = refl
has_indicator false = refl

has_version : (sequence : Option ℕ) → (not (version_of sequence == 1) && not (version_of sequence == 2)) ≡ false
has_version None = refl
has_version (Some number) = refl

-- how many bytes the head of a reply with this sequence number has
pub size_of : Option ℕ → ℕ
size_of sequence = 24 + length (sequence_bytes sequence)

by_version : (sequence : Option ℕ) → (if version_of sequence == 2 then 28 else 24) ≡ 24 + length (sequence_bytes sequence)
by_version None = refl
by_version (Some number) = refl

-- a reply tells the size of its head
pub head_size-encoding : (reply : ReplyHead) (more : List ℕ) → head_size (head_encoding reply ++ more) ≡ size_of reply.sequence
unfolding head_size size_of
head_size-encoding reply more = by_version reply.sequence

-- and the length of its payload
pub payload_bytes-encoding : (reply : ReplyHead) (more : List ℕ) → length reply.block ≡ 12 → payload_bytes (head_encoding reply ++ more) ≡ to_be_bytes w32 reply.length
payload_bytes-encoding reply more h = sym (fields_of reply (head_encoding reply ++ more) more h refl).payload

pub payload_length-encoding : (reply : ReplyHead) (more : List ℕ) → length reply.block ≡ 12 → reply.length < 2 ^ 32 → payload_length (head_encoding reply ++ more) ≡ reply.length
unfolding payload_length
payload_length-encoding reply more h small = ap (λ xs. from_be_bytes w32 xs) (payload_bytes-encoding reply more h) ∙ from_be_bytes-to_be_bytes_4 reply.length small

pub length-encoding : (reply : ReplyHead) (more : List ℕ) → length reply.block ≡ 12 → length (head_encoding reply ++ more) ≡ size_of reply.sequence + length more
unfolding size_of
length-encoding reply more h =
    omega (arith, length-append reply.block (to_be_bytes w32 reply.length ++ sequence_bytes reply.sequence), length-append (reply.block ++ (to_be_bytes w32 reply.length ++ sequence_bytes reply.sequence)) more, h)

-- a reply shows no fault
pub reply_fault-encoding : (reply : ReplyHead) (more : List ℕ) → length reply.block ≡ 12 → reply.length ≤ LARGEST_PAYLOAD → reply_fault (head_encoding reply ++ more) ≡ None
unfolding reply_fault
reply_fault-encoding reply more h few =
    let small : nat_lt LARGEST_PAYLOAD (payload_length (head_encoding reply ++ more)) ≡ false = rw (payload_length-encoding reply more h (omega (arith, few))) (grind (arith, nat_tests, few)) in
    let there : (length (payload_bytes (head_encoding reply ++ more)) == 4) ≡ true = rw (payload_bytes-encoding reply more h) refl in
    rw (has_version reply.sequence, has_status reply.status, has_state reply.state, has_indicator reply.approved, there, small) refl

-- bytes that show a fault begin with no reply
pub broken_begins_none : (bytes : List ℕ) (offset : ℕ) → reply_fault bytes ≡ Some offset → BeginsNoReply bytes
broken_begins_none bytes offset fault reply payload more is e =
    let encoded = e ∙ append_assoc (head_encoding reply) payload more in
    let none : reply_fault bytes ≡ None = ap reply_fault encoded ∙ reply_fault-encoding reply (payload ++ more) is.widths.block is.room in
    let wrong : None ≡ Some offset = sym none ∙ fault in
    cc

-- bytes that are fewer than their head and the payload that it tells begin with no reply
pub short_begins_none : (bytes : List ℕ) → length bytes < head_size bytes + payload_length bytes → BeginsNoReply bytes
short_begins_none bytes short reply payload more is e =
    let encoded = e ∙ append_assoc (head_encoding reply) payload more in
    let long = ap length encoded ∙ length-encoding reply (payload ++ more) is.widths.block in
    let size = ap head_size encoded ∙ head_size-encoding reply (payload ++ more) in
    let told = ap payload_length encoded ∙ payload_length-encoding reply (payload ++ more) is.widths.block is.widths.payload in
    omega (arith, short, long, size, told, is.told, length-append payload more)

pub head_range : (bytes : List ℕ) → (24 ≤ head_size bytes) × (head_size bytes ≤ 28)
unfolding head_size
head_range bytes = by_test _
  where
    by_test : (two : Bool) → (24 ≤ (if two then 28 else 24)) × ((if two then 28 else 24) ≤ 28)
    by_test true = (omega arith, omega arith)
    by_test false = (omega arith, omega arith)

-- with the version there, more bytes don't change the size of the head
pub head_size-append : (front more : List ℕ) → 2 ≤ length front → head_size (front ++ more) ≡ head_size front
unfolding head_size
head_size-append [] more k = absurd (omega arith)
head_size-append (a ∷ []) more k = absurd (omega arith)
head_size-append (a ∷ b ∷ front) more k = refl
