-- Entered bytes are looked at by their number alone.
use Rattle.std.proofs.Common.{◌≡◌, ℕ, Bool, true, false, List, [], ◌∷◌, Option, Some, None, length, sym, subst, arith, inl, inr, if◌then◌else◌}
use Rattle.std.specs.Prelude.{◌==◌, ◌&&◌, ◌||◌, ◌⊎◌, nat_le, Err, MatchResult}
use Rattle.std.proofs.lemmas.Bool.Decides.{nat_tests}
use Rattle.service_table.specs.Services.{is_permitted}
use Rattle.service_table.specs.declared.service.Service.TheVariants as service
use Rattle.service_table.specs.declared.status.Status.{Status}
use Rattle.service_table.specs.declared.status.Status.TheVariants as status
use Rattle.module_frames.specs.CommandFrames.{CommandFrame}
use Rattle.module_frames.specs.LawfulSteps.{IsAnswered, IsRefusedAtOnce, IsLawfulStep, begun_with, found_by}
use Rattle.module_frames.specs.Requests.{RequestValue}
use Rattle.module_frames.specs.Requests as request
use Rattle.module_frames.specs.Sequencing.{is_in_order}
use Rattle.module_frames.specs.declared.head.ReplyHead.{ReplyHead}
use Rattle.module_frames.specs.declared.public_state.PublicState.{PublicState}
use Rattle.transcript_check.specs.Effects.{IsReplied}
use Rattle.transcript_check.specs.Transcripts.{Pair, Leads, IsWalk}
use Rattle.transcript_check.specs.Laws.{IsBlanked, AreBlanked}

-- a command with this service, sequence number and body
framed : ℕ → Option ℕ → List ℕ → CommandFrame
framed number sequence body = record { service = number; sequence = sequence; body = body }

refused_alike : (reason : Status) (before after : PublicState) (number : ℕ) (sequence : Option ℕ) (body other : List ℕ) (reply : ReplyHead)
    → IsRefusedAtOnce reason before (record { service = number; sequence = sequence; body = body }) reply after → IsRefusedAtOnce reason before (record { service = number; sequence = sequence; body = other }) reply after
refused_alike reason before after number sequence body other reply h =
    record { status = h.status; unchanged = h.unchanged; payload = h.payload; indicator = h.indicator; block = h.block }

piece_alike : (piece other : List ℕ) (found after : PublicState) (reply : ReplyHead) → IsAnswered (request.EntryBytes piece) found reply after → IsAnswered (request.EntryBytes other) found reply after
piece_alike piece other found after reply h = record {
  status = h.status;
  begun = h.begun;
  failure = record { test = h.failure.test; noise = h.failure.noise; seed = λ _ e. cc };
  effect = h.effect;
  payload = h.payload;
  indicator = h.indicator;
  block = h.block;
}

check_alike : (check other : List ℕ) (found after : PublicState) (reply : ReplyHead) → IsAnswered (request.EntryCommit check) found reply after → IsAnswered (request.EntryCommit other) found reply after
check_alike check other found after reply h = record {
  status = h.status;
  begun = h.begun;
  failure = record { test = h.failure.test; noise = h.failure.noise; seed = λ _ e. cc };
  effect = h.effect;
  payload = h.payload;
  indicator = h.indicator;
  block = h.block;
}

-- a request of a form that a test of the body's length tells is answered alike whatever the bytes are
by_length : (before after : PublicState) (number : ℕ) (sequence : Option ℕ) (body other : List ℕ) (reply : ReplyHead) (make : List ℕ → RequestValue) (in_order allowed good : Bool)
    → ((found : PublicState) → IsAnswered (make body) found reply after → IsAnswered (make other) found reply after)
    → (let command : CommandFrame = record { service = number; sequence = sequence; body = body } in
    MatchResult (if in_order then (if allowed then begun_with (if good then Some (make body) else None) else Err status.NotInState) else Err status.OutOfOrder)
    (λ requested. IsAnswered requested (found_by command before) reply after) (λ reason. IsRefusedAtOnce reason before command reply after))
    → (let command : CommandFrame = record { service = number; sequence = sequence; body = other } in
    MatchResult (if in_order then (if allowed then begun_with (if good then Some (make other) else None) else Err status.NotInState) else Err status.OutOfOrder)
    (λ requested. IsAnswered requested (found_by command before) reply after) (λ reason. IsRefusedAtOnce reason before command reply after))
by_length before after number sequence body other reply make false allowed good alike h = refused_alike _ before after number sequence body other reply h
by_length before after number sequence body other reply make true false good alike h = refused_alike _ before after number sequence body other reply h
by_length before after number sequence body other reply make true true false alike h = refused_alike _ before after number sequence body other reply h
by_length before after number sequence body other reply make true true true alike h = alike _ h

piece_replied : (before after : PublicState) (sequence : Option ℕ) (body other : List ℕ) (reply : ReplyHead) → length other ≡ length body
    → IsReplied before (record { service = 9; sequence = sequence; body = body }) reply after → IsReplied before (record { service = 9; sequence = sequence; body = other }) reply after
piece_replied before after sequence body other reply same h = rw same
    (by_length before after 9 sequence body other reply (λ piece. request.EntryBytes piece) (is_in_order sequence before.next_sequence) (is_permitted service.EntryBytes before.state)
    (nat_le 1 (length body) && nat_le (length body) 64) (λ found. piece_alike body other found after reply) h)

check_replied : (before after : PublicState) (sequence : Option ℕ) (body other : List ℕ) (reply : ReplyHead) → length other ≡ length body
    → IsReplied before (record { service = 10; sequence = sequence; body = body }) reply after → IsReplied before (record { service = 10; sequence = sequence; body = other }) reply after
check_replied before after sequence body other reply same h = rw same
    (by_length before after 10 sequence body other reply (λ check. request.EntryCommit check) (is_in_order sequence before.next_sequence) (is_permitted service.EntryCommit before.state)
    (length body == 8) (λ found. check_alike body other found after reply) h)

-- a number that is one of two
either_number : (n : ℕ) → (n == 9 || n == 10) ≡ true → (n ≡ 9) ⊎ (n ≡ 10)
either_number n is = grind (arith, nat_tests)

secret_replied : (before after : PublicState) (number : ℕ) (sequence : Option ℕ) (body other : List ℕ) (reply : ReplyHead) → length other ≡ length body → (number ≡ 9) ⊎ (number ≡ 10)
    → IsReplied before (record { service = number; sequence = sequence; body = body }) reply after → IsReplied before (record { service = number; sequence = sequence; body = other }) reply after
secret_replied before after number sequence body other reply same is h = elim is [
  | inl nine ↦ (let P : ℕ → Type 0 = λ n. IsReplied before (record { service = n; sequence = sequence; body = body }) reply after → IsReplied before (record { service = n; sequence = sequence; body = other }) reply after in
      subst P (sym nine) (piece_replied before after sequence body other reply same) h)
  | inr ten ↦ (let P : ℕ → Type 0 = λ n. IsReplied before (record { service = n; sequence = sequence; body = body }) reply after → IsReplied before (record { service = n; sequence = sequence; body = other }) reply after in
      subst P (sym ten) (check_replied before after sequence body other reply same) h)
]

-- a command with other bytes of a parameter is answered alike
secret_step : (before after : PublicState) (number : ℕ) (sequence : Option ℕ) (body other : List ℕ) (reply : ReplyHead) → length other ≡ length body → (number == 9 || number == 10) ≡ true
    → IsLawfulStep before (record { service = number; sequence = sequence; body = body }) reply after → IsLawfulStep before (record { service = number; sequence = sequence; body = other }) reply after
secret_step before after number sequence body other reply same is h = record {
  service = h.service;
  sequence = h.sequence;
  state = h.state;
  code = h.code;
  error = record { none = h.error.none; stays = h.error.stays };
  answer = secret_replied before after number sequence body other reply same (either_number number is) h.answer;
}

-- a command is the one of its fields
moved_step : (before after : PublicState) (command : CommandFrame) (number : ℕ) (sequence : Option ℕ) (reply : ReplyHead) → command.service ≡ number → command.sequence ≡ sequence
    → IsLawfulStep before (record { service = number; sequence = sequence; body = command.body }) reply after → IsLawfulStep before command reply after
moved_step before after command number sequence reply is was h =
    let P : ℕ → Type 0 = λ n. IsLawfulStep before (record { service = n; sequence = sequence; body = command.body }) reply after in
    let Q : Option ℕ → Type 0 = λ s. IsLawfulStep before (record { service = command.service; sequence = s; body = command.body }) reply after in
    let numbered : P command.service = subst P (sym is) h in
    subst Q (sym was) numbered

blanked_step : (before after : PublicState) (command blanked : CommandFrame) (reply : ReplyHead) → IsBlanked command blanked → IsLawfulStep before command reply after → IsLawfulStep before blanked reply after
blanked_step before after command blanked reply is h = moved_step before after blanked command.service command.sequence reply is.service is.sequence (elim is.body [
  | inl secret ↦ secret_step before after command.service command.sequence command.body blanked.body reply is.length secret h
  | inr same ↦ (let P : List ℕ → Type 0 = λ b. IsLawfulStep before (record { service = command.service; sequence = command.sequence; body = b }) reply after in subst P (sym same) h)
])

pub blanked_walk : (before after : PublicState) (transcript blanked : List Pair) → AreBlanked transcript blanked → IsWalk before transcript after → IsWalk before blanked after
blanked_walk before after [] [] are walk = walk
blanked_walk before after [] (pair ∷ others) are walk = absurd are
blanked_walk before after (pair ∷ rest) [] are walk = absurd are
blanked_walk before after (pair ∷ rest) (other ∷ others) are walk =
    let moved : Leads before (record { command = pair.command; reply = other.reply }) walk.0 = subst (λ (r : ReplyHead). IsLawfulStep before pair.command r walk.0) (sym are.1) walk.1 in
    (walk.0, blanked_step before walk.0 pair.command other.command other.reply are.0 moved, blanked_walk walk.0 after rest others are.2 walk.2)
