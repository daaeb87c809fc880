-- A reply's line, put part by part.
use Rattle.std.proofs.Common.{◌≡◌, ◌+◌, ◌≤◌, ◌++◌, ℕ, Bool, true, false, List, [], ◌∷◌, length, ap, ◌∙◌, sym, refl, append_assoc, length-append, arith, lit≤}
use Rattle.std.specs.Int.{to_be_bytes, w16}
use Rattle.bits_core.specs.OutboxContents.{OutboxContents, holding}
use Rattle.hex.specs.Hex.{encode_lower}
use Rattle.module_frames.specs.ReplyFrames.{ReplyFrame}
use Rattle.service_table.specs.declared.state.State.{State}
use Rattle.service_table.specs.declared.state.State.TheVariants as state
use Rattle.service_table.specs.declared.status.Status.{Status}
use Rattle.service_table.specs.declared.status.Status.TheVariants as status
use Rattle.reply_lines.specs.ReplyLines.{status_name, state_name, indicator_word, payload_word, reply_line}
use Rattle.reply_lines.proofs.Digits.{digits_long}

status_long : (s : Status) → length (status_name s) ≤ 14
status_long status.Ok = lit≤ tt
status_long status.UnknownService = lit≤ tt
status_long status.NotInState = lit≤ tt
status_long status.BadBody = lit≤ tt
status_long status.TestFailed = lit≤ tt
status_long status.NoiseFault = lit≤ tt
status_long status.EmptySlot = lit≤ tt
status_long status.WrongKind = lit≤ tt
status_long status.WrongDomain = lit≤ tt
status_long status.Spent = lit≤ tt
status_long status.OccupiedSlot = lit≤ tt
status_long status.NotExportable = lit≤ tt
status_long status.BadLength = lit≤ tt
status_long status.CheckFailed = lit≤ tt
status_long status.AuthFailed = lit≤ tt
status_long status.UnwrapFailed = lit≤ tt
status_long status.OutOfOrder = lit≤ tt

state_long : (s : State) → length (state_name s) ≤ 8
state_long state.Off = lit≤ tt
state_long state.Init = lit≤ tt
state_long state.SelfTest = lit≤ tt
state_long state.Approved = lit≤ tt
state_long state.Officer = lit≤ tt
state_long state.User = lit≤ tt
state_long state.Entry = lit≤ tt
state_long state.Error = lit≤ tt

indicator_long : (approved : Bool) → length (indicator_word approved) ≤ 1
indicator_long true = lit≤ tt
indicator_long false = lit≤ tt

-- the words of the outcome, with a space behind each
abbrev pub outcome : Status → State → Bool → List ℕ
outcome status state approved = status_name status ++ 0x20 ∷ (state_name state ++ 0x20 ∷ (indicator_word approved ++ 0x20 ∷ []))

pub outcome_long : (s : Status) (t : State) (approved : Bool) → length (outcome s t approved) ≤ 26
outcome_long s t approved =
    simp length-append (omega (arith, status_long s, state_long t, indicator_long approved))

pub code_long : (code : ℕ) (bytes : List ℕ) → bytes ≡ to_be_bytes w16 code → length (encode_lower bytes ++ 0x20 ∷ []) ≤ 5
code_long code bytes e = omega (arith, length-append (encode_lower bytes) (0x20 ∷ []), digits_long bytes, ap (length {A = ℕ}) e)

-- what a piece of some length leaves
pub record IsGrown (old new : OutboxContents) (most : ℕ) : Type 0 where
  pub bytes : length new.bytes ≤ length old.bytes + most
  pub room : new.room ≡ old.room

pub grown : (old new : OutboxContents) (piece : List ℕ) (most : ℕ) → new ≡ holding (old.bytes ++ piece) old.room → length piece ≤ most → IsGrown old new most
grown old new piece most e h = record {
  bytes = omega (arith, ap (λ (o : OutboxContents). length o.bytes) e, length-append old.bytes piece, h);
  room = ap (λ (o : OutboxContents). o.room) e;
}

joined : (a b c d e f : List ℕ)
    → ((([] ++ (a ++ 0x20 ∷ (b ++ 0x20 ∷ (c ++ 0x20 ∷ [])))) ++ (d ++ 0x20 ∷ [])) ++ (e ++ 0x20 ∷ [])) ++ (f ++ 0x0a ∷ [])
    ≡ (a ++ 0x20 ∷ (b ++ 0x20 ∷ (c ++ 0x20 ∷ (d ++ 0x20 ∷ (e ++ 0x20 ∷ f))))) ++ 0x0a ∷ []
joined a b c d e f = simp append_assoc

pub whole_line : (reply : ReplyFrame) (start first second third last : OutboxContents) (code payload : List ℕ)
    → start.bytes ≡ [] → code ≡ to_be_bytes w16 reply.code → payload ≡ reply.payload
    → first ≡ holding (start.bytes ++ outcome reply.status reply.state reply.approved) start.room
    → second ≡ holding (first.bytes ++ (encode_lower code ++ 0x20 ∷ [])) first.room
    → third ≡ holding (second.bytes ++ (encode_lower reply.block ++ 0x20 ∷ [])) second.room
    → last ≡ holding (third.bytes ++ (payload_word payload ++ 0x0a ∷ [])) third.room
    → last ≡ holding (reply_line reply) start.room
whole_line reply start first second third last code payload empty c p e1 e2 e3 e4 =
    let o : List ℕ = outcome reply.status reply.state reply.approved in
    let d : List ℕ = encode_lower (to_be_bytes w16 reply.code) ++ 0x20 ∷ [] in
    let b : List ℕ = encode_lower reply.block ++ 0x20 ∷ [] in
    let f : List ℕ = payload_word reply.payload ++ 0x0a ∷ [] in
    let one : first.bytes ≡ [] ++ o = ap (λ (x : OutboxContents). x.bytes) e1 ∙ ap (λ (x : List ℕ). x ++ o) empty in
    let two : second.bytes ≡ ([] ++ o) ++ d =
    ap (λ (x : OutboxContents). x.bytes) e2 ∙ ap (λ (x : List ℕ). first.bytes ++ (encode_lower x ++ 0x20 ∷ [])) c ∙ ap (λ (x : List ℕ). x ++ d) one in
    let three : third.bytes ≡ (([] ++ o) ++ d) ++ b = ap (λ (x : OutboxContents). x.bytes) e3 ∙ ap (λ (x : List ℕ). x ++ b) two in
    let four : third.bytes ++ (payload_word payload ++ 0x0a ∷ []) ≡ reply_line reply =
    ap (λ (x : List ℕ). third.bytes ++ (payload_word x ++ 0x0a ∷ [])) p
    ∙ ap (λ (x : List ℕ). x ++ f) three
    ∙ joined (status_name reply.status) (state_name reply.state) (indicator_word reply.approved) (encode_lower (to_be_bytes w16 reply.code)) (encode_lower reply.block) (payload_word reply.payload) in
    let room : third.room ≡ start.room =
    ap (λ (x : OutboxContents). x.room) e3 ∙ ap (λ (x : OutboxContents). x.room) e2 ∙ ap (λ (x : OutboxContents). x.room) e1 in
    e4 ∙ ap (λ (x : List ℕ). holding x third.room) four ∙ ap (λ (r : ℕ). holding (reply_line reply) r) room
