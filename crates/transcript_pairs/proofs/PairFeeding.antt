-- What a reader of transcripts answers to a piece.
use Rattle.std.proofs.Common.{◌≡◌, ◌≤◌, ◌<◌, ◌+◌, ◌⊎◌, ◌++◌, ℕ, List, [], None, Some, length, take, drop, inl, inr, refl, sym, ◌∙◌, ap, subst, arith, length-append}
use Rattle.std.proofs.lemmas.Bool.{cases_lt}
use Rattle.std.proofs.lemmas.List.{append-nil, append_assoc, length-drop, length-take-le, nil_from_length, take-append-drop, take_all}
use Rattle.std.proofs.Math.Seq.{take-add}
use Rattle.module_frames.specs.CommandFrames.{CommandFrame, IsSendable, command_encoding}
use Rattle.module_frames.specs.ReplyHeads.{IsReplyHead, head_encoding}
use Rattle.module_frames.specs.declared.frames.Fed.TheVariants as command_fed
use Rattle.module_frames.specs.declared.head.ReplyHead.{ReplyHead}
use Rattle.module_frames.proofs.CommandEncodings.{first_fault-encoding}
use Rattle.module_frames.proofs.Heads.{one_way}
use Rattle.module_frames.proofs.Parsing.{no_prefix}
use Rattle.transcript_pairs.specs.PairStreams.{held_length, BeginsNoPair, FeedsPair, HasCome, HeldPair, HoldsPair, IsPartialPair, IsWholeReply, ShowsNoFault, new_pair}
use Rattle.transcript_pairs.specs.PairSteps.{BreaksReply, HoldsCommand, TakesCommand, TakesHead}
use Rattle.transcript_pairs.specs.ReplyStreams.{BeginsNoReply, head_size, payload_length, reply_encoding, reply_fault}
use Rattle.transcript_pairs.specs.declared.pairs.PairFed.TheVariants as fed
use Rattle.transcript_pairs.proofs.ReplyEncodings.{broken_begins_none, head_range, head_size-append, head_size-encoding, length-encoding, short_begins_none}
use Rattle.transcript_pairs.proofs.ReplyFaults.{payload_length-append, reply_fault-append}

-- behind a whole command the bytes are those of a reply: there is no pair where there is none
pub no_pair : (command : CommandFrame) (reply : List ℕ) → IsSendable command → BeginsNoReply reply → BeginsNoPair (command_encoding command ++ reply)
no_pair command reply sendable none pair payload more is e =
    let split = e ∙ append_assoc (command_encoding pair.command) (reply_encoding pair.reply payload) more in
    let same = no_prefix command pair.command reply (reply_encoding pair.reply payload ++ more) sendable is.command split in
    none pair.reply payload more is.reply same.1

-- and no fault where they show none
pub no_fault_behind : (command : CommandFrame) (reply : List ℕ) → IsSendable command → reply_fault reply ≡ None → ShowsNoFault (command_encoding command ++ reply)
no_fault_behind command reply sendable none = record {
  command = first_fault-encoding command reply sendable;
  reply = λ other behind fits e.
      let same = no_prefix command other reply behind sendable fits e in
      sym (ap reply_fault same.1) ∙ none;
}

-- bytes are joined behind those of the part that they belong to, where nothing of a later part came
join_parts : (c h p x y z : List ℕ) → (x ≡ []) ⊎ ((h ≡ []) × (p ≡ [])) → (y ≡ []) ⊎ (p ≡ []) → (c ++ (h ++ p)) ++ (x ++ (y ++ z)) ≡ (c ++ x) ++ ((h ++ y) ++ (p ++ z))
join_parts c h p x y z (inl none) (inl nothing) = rw (none, nothing, append-nil c, append-nil h) (append_assoc c (h ++ p) z ∙ ap (λ xs. c ++ xs) (append_assoc h p z))
join_parts c h p x y z (inl none) (inr last) = rw (none, last, append-nil c, append-nil h) (append_assoc c h (y ++ z) ∙ ap (λ xs. c ++ xs) (sym (append_assoc h y z)))
join_parts c h p x y z (inr both) (inl nothing) = rw (nothing, both.0, both.1, append-nil c) (sym (append_assoc c x z))
join_parts c h p x y z (inr both) (inr last) = rw (both.0, both.1, append-nil c) (sym (append_assoc c x (y ++ z)))

-- the payload that came is empty where none was skipped
empty_payload : (held : HeldPair) (bytes : List ℕ) (come : HasCome held bytes) → held.skipped ≡ 0 → come.payload ≡ []
empty_payload held bytes come none = nil_from_length come.payload (come.skipped ∙ none)

zero_take : (count : ℕ) (xs : List ℕ) → count ≡ 0 → take count xs ≡ []
zero_take count xs none = ap (λ n. take n xs) none

-- a piece was taken in three steps
pub record TakenThrice (old mid late new : HeldPair) (piece : List ℕ) (command head payload : ℕ) : Type 0 where
  pub first : TakesCommand old piece (command_fed.Whole command) mid
  pub second : TakesHead mid (drop command piece) head late
  pub within : payload ≤ length (drop head (drop command piece))
  pub third : new ≡ record late { skipped = late.skipped + payload }

-- what is held after them
record IsAfter (old new : HeldPair) (piece : List ℕ) (n h p : ℕ) : Type 0 where
  start : new.start ≡ old.start
  fault : new.fault ≡ old.fault
  command : new.command ≡ old.command ++ take n piece
  head : new.head ≡ old.head ++ take h (drop n piece)
  skipped : new.skipped ≡ old.skipped + p
  long : length new.command ≡ length old.command + n
  longer : length new.head ≡ length old.head + h
  within : n + h + p ≤ length piece
  pieces : take (n + h + p) piece ≡ take n piece ++ (take h (drop n piece) ++ take p (drop h (drop n piece)))
  unreplied : 1 ≤ n → (old.head ≡ []) × (old.skipped ≡ 0)
  unskipped : 1 ≤ h → old.skipped ≡ 0

after_all : {old mid late new : HeldPair} {piece : List ℕ} {command head payload : ℕ} → TakenThrice old mid late new piece command head payload → IsAfter old new piece command head payload
after_all {old} {mid} {late} {new} {piece} {command} {head} {payload} taken =
    let after = taken.second.after in
    let commands : new.command ≡ old.command ++ take command piece = ap (λ (p : HeldPair). p.command) taken.third ∙ ap (λ (p : HeldPair). p.command) after ∙ ap (λ (p : HeldPair). p.command) taken.first.1 in
    let heads : new.head ≡ old.head ++ take head (drop command piece) = ap (λ (p : HeldPair). p.head) taken.third ∙ ap (λ (p : HeldPair). p.head) after ∙ ap (λ (p : HeldPair). p.head ++ take head (drop command piece)) taken.first.1 in
    record {
      start = ap (λ (p : HeldPair). p.start) taken.third ∙ ap (λ (p : HeldPair). p.start) after ∙ ap (λ (p : HeldPair). p.start) taken.first.1;
      fault = ap (λ (p : HeldPair). p.fault) taken.third ∙ ap (λ (p : HeldPair). p.fault) after ∙ ap (λ (p : HeldPair). p.fault) taken.first.1;
      command = commands;
      head = heads;
      skipped = ap (λ (p : HeldPair). p.skipped) taken.third ∙ ap (λ (p : HeldPair). p.skipped + payload) after ∙ ap (λ (p : HeldPair). p.skipped + payload) taken.first.1;
      long = ap length commands ∙ length-append old.command (take command piece) ∙ ap (λ n. length old.command + n) (length-take-le command piece taken.first.0);
      longer = ap length heads ∙ length-append old.head (take head (drop command piece)) ∙ ap (λ n. length old.head + n) (length-take-le head (drop command piece) taken.second.within);
      within = omega (arith, taken.first.0, taken.second.within, taken.within, length-drop command piece, length-drop head (drop command piece));
      pieces = (let regroup : command + head + payload ≡ command + (head + payload) = omega arith in
          ap (λ n. take n piece) regroup ∙ take-add command (head + payload) piece ∙ ap (λ xs. take command piece ++ xs) (take-add head payload (drop command piece)));
      unreplied = taken.first.2;
      unskipped = λ some. sym (ap (λ (p : HeldPair). p.skipped) taken.first.1) ∙ taken.second.unskipped some;
    }

-- these bytes came then
came_all : {old new : HeldPair} {piece : List ℕ} {command head payload : ℕ} (bytes : List ℕ) → IsAfter old new piece command head payload → payload ≤ length (drop head (drop command piece)) → HasCome old bytes
    → HasCome new (bytes ++ take (command + head + payload) piece)
came_all {old} {new} {piece} {command} {head} {payload} bytes after few come =
    let last = take payload (drop head (drop command piece)) in
    let x = take command piece in
    let y = take head (drop command piece) in
    let one : (x ≡ []) ⊎ ((old.head ≡ []) × (come.payload ≡ [])) = elim (cases_lt 0 command) [
      | inl some ↦ (let both = after.unreplied (omega (arith, some)) in inr (both.0, empty_payload old bytes come both.1))
      | inr none ↦ inl (zero_take command piece (omega (arith, none)))
    ] in
    let two : (y ≡ []) ⊎ (come.payload ≡ []) = elim (cases_lt 0 head) [
      | inl some ↦ inr (empty_payload old bytes come (after.unskipped (omega (arith, some))))
      | inr none ↦ inl (zero_take head (drop command piece) (omega (arith, none)))
    ] in
    record {
      payload = come.payload ++ last;
      came = ap (λ xs. xs ++ take (command + head + payload) piece) come.came
          ∙ ap (λ xs. (old.command ++ (old.head ++ come.payload)) ++ xs) after.pieces
          ∙ join_parts old.command old.head come.payload x y last one two
          ∙ ap (λ xs. xs ++ ((old.head ++ y) ++ (come.payload ++ last))) (sym after.command)
          ∙ ap (λ xs. new.command ++ (xs ++ (come.payload ++ last))) (sym after.head);
      skipped = omega (arith, length-append come.payload last, length-take-le payload (drop head (drop command piece)) few, come.skipped, after.skipped);
    }

-- the bytes of a reply that isn't whole show no fault, and none is whole in them
record IsPartialReply (bytes : List ℕ) : Type 0 where
  no_fault : reply_fault bytes ≡ None
  unfinished : BeginsNoReply bytes

partial_reply : (head payload : List ℕ) → reply_fault head ≡ None → (length head < head_size head → length payload ≡ 0) → length head + length payload < head_size head + payload_length head → IsPartialReply (head ++ payload)
partial_reply head payload sound unskipped short = elim (cases_lt (length head) (head_size head)) [
  | inl part ↦
      (let none : payload ≡ [] = nil_from_length payload (unskipped part) in
      let same : head ++ payload ≡ head = ap (λ xs. head ++ xs) none ∙ append-nil head in
      record {
        no_fault = ap reply_fault same ∙ sound;
        unfinished = short_begins_none (head ++ payload) (omega (arith, part, ap length same, ap head_size same));
      })
  | inr whole ↦
      (let least = head_range head in
      record {
        no_fault = reply_fault-append head payload (omega (arith, whole, least)) ∙ sound;
        unfinished = short_begins_none (head ++ payload)
            (omega (arith, short, length-append head payload, head_size-append head payload (omega (arith, whole, least)), payload_length-append head payload (omega (arith, whole, least))));
      })
]

-- a pair isn't whole yet
pub fed_more : {old mid late new : HeldPair} {piece : List ℕ} {command head payload : ℕ} → old.fault ≡ None → TakenThrice old mid late new piece command head payload
    → (length late.head < head_size late.head → payload ≡ 0) → (length old.head < head_size old.head → old.skipped ≡ 0)
    → (head_size late.head ≤ length late.head → new.skipped < payload_length late.head → payload ≡ length (drop head (drop command piece)))
    → length new.head + new.skipped < head_size new.head + payload_length new.head → FeedsPair old piece fed.More new
fed_more {old} {mid} {late} {new} {piece} {command} {head} {payload} fresh taken part unskipped all short =
    let after = after_all taken in
    let same : new.head ≡ late.head = ap (λ (p : HeldPair). p.head) taken.third in
    let whole : command + head + payload ≡ length piece = elim (cases_lt (length late.head) (head_size late.head)) [
      | inl less ↦ omega (arith, part less, taken.second.part less, length-drop command piece, taken.first.0)
      | inr full ↦
          (let left : new.skipped < payload_length late.head = omega (arith, short, full, ap length same, ap head_size same, ap payload_length same) in
          omega (arith, all full left, length-drop head (drop command piece), length-drop command piece, taken.first.0, taken.second.within))
    ] in
    let none : length new.head < head_size new.head → new.skipped ≡ 0 = λ less.
    let here : payload ≡ 0 = part (omega (arith, less, ap length same, ap head_size same)) in
    elim (cases_lt 0 head) [
      | inl some ↦ omega (arith, after.skipped, here, after.unskipped (omega (arith, some)))
      | inr nothing ↦
          (let stays : new.head ≡ old.head = after.head ∙ ap (λ xs. old.head ++ xs) (zero_take head (drop command piece) (omega (arith, nothing))) ∙ append-nil old.head in
          omega (arith, after.skipped, here, unskipped (omega (arith, less, ap length stays, ap head_size stays))))
    ] in
    let stands : HoldsCommand mid = taken.first.3 in
    let kept : new.command ≡ mid.command = ap (λ (p : HeldPair). p.command) taken.third ∙ ap (λ (p : HeldPair). p.command) taken.second.after in
    record {
      start = after.start;
      told = after.fault ∙ fresh;
      place = omega (arith, after.start, after.long, after.longer, after.skipped, after.within);
      stands = λ count e. cc;
      before_fault = λ _ bytes come.
          let took = came_all bytes after taken.within come in
          let everything : bytes ++ take (command + head + payload) piece ≡ bytes ++ piece = ap (λ xs. bytes ++ xs) (take_all (command + head + payload) piece (omega (arith, whole))) in
          let reply = partial_reply new.head took.payload (ap reply_fault same ∙ taken.second.sound) (λ less. took.skipped ∙ none less) (omega (arith, short, took.skipped)) in
          let encoded : bytes ++ piece ≡ command_encoding stands.0 ++ (new.head ++ took.payload) =
          sym everything ∙ took.came ∙ ap (λ xs. xs ++ (new.head ++ took.payload)) (kept ∙ stands.1.encoded) in (
            subst (λ xs. HasCome new xs) everything took,
            subst (λ xs. IsPartialPair xs) (sym encoded) (record {
              no_fault = no_fault_behind stands.0 (new.head ++ took.payload) stands.1.sendable reply.no_fault;
              unfinished = no_pair stands.0 (new.head ++ took.payload) stands.1.sendable reply.unfinished;
            }),
          );
      after_fault = λ offset broken. let wrong : None ≡ Some offset = sym fresh ∙ broken in cc;
    }

-- a pair is whole
pub fed_whole : {old mid late new : HeldPair} {piece : List ℕ} {command head payload : ℕ} → old.fault ≡ None → TakenThrice old mid late new piece command head payload → HoldsPair new
    → FeedsPair old piece (fed.Whole (command + head + payload)) new
fed_whole {old} {mid} {late} {new} {piece} {command} {head} {payload} fresh taken stands =
    let after = after_all taken in
    record {
      start = after.start;
      told = after.fault ∙ fresh;
      place = omega (arith, after.start, after.long, after.longer, after.skipped, after.within);
      stands = λ _ _. stands;
      before_fault = λ _ bytes come. (after.within, came_all bytes after taken.within come, stands);
      after_fault = λ offset broken. let wrong : None ≡ Some offset = sym fresh ∙ broken in cc;
    }

-- the reply shows a fault
pub fed_broken : {old mid new : HeldPair} {piece : List ℕ} {command offset : ℕ} → old.fault ≡ None → TakesCommand old piece (command_fed.Whole command) mid → BreaksReply mid (drop command piece) offset new
    → FeedsPair old piece (fed.BadFrame offset) new
fed_broken {old} {mid} {new} {piece} {command} {offset} fresh took breaks =
    let starts : mid.start ≡ old.start = ap (λ (p : HeldPair). p.start) took.1 in
    let heads : mid.head ≡ old.head = ap (λ (p : HeldPair). p.head) took.1 in
    let commands : mid.command ≡ old.command ++ take command piece = ap (λ (p : HeldPair). p.command) took.1 in
    let none : old.skipped ≡ 0 = sym (ap (λ (p : HeldPair). p.skipped) took.1) ∙ breaks.unskipped in
    let stands : HoldsCommand mid = took.3 in
    record {
      start = ap (λ (p : HeldPair). p.start) breaks.after ∙ starts;
      told = ap (λ (p : HeldPair). p.fault) breaks.after;
      place = omega (arith, starts, ap (λ (p : HeldPair). p.start + held_length p) breaks.after);
      stands = λ count e. cc;
      before_fault = λ _ bytes come.
          let empty = empty_payload old bytes come none in
          let one : (take command piece ≡ []) ⊎ ((old.head ≡ []) × (come.payload ≡ [])) = elim (cases_lt 0 command) [
            | inl some ↦ (let both = took.2 (omega (arith, some)) in inr (both.0, empty))
            | inr nothing ↦ inl (zero_take command piece (omega (arith, nothing)))
          ] in
          let split : piece ≡ take command piece ++ (drop command piece ++ []) = sym (take-append-drop command piece) ∙ ap (λ xs. take command piece ++ xs) (sym (append-nil (drop command piece))) in
          let joined : bytes ++ piece ≡ command_encoding stands.0 ++ (mid.head ++ drop command piece) =
          ap (λ xs. xs ++ piece) come.came
          ∙ ap (λ xs. (old.command ++ (old.head ++ come.payload)) ++ xs) split
          ∙ join_parts old.command old.head come.payload (take command piece) (drop command piece) [] one (inr empty)
          ∙ ap (λ xs. (old.command ++ take command piece) ++ ((old.head ++ drop command piece) ++ (xs ++ []))) empty
          ∙ ap (λ xs. (old.command ++ take command piece) ++ xs) (append-nil (old.head ++ drop command piece))
          ∙ ap (λ xs. xs ++ (old.head ++ drop command piece)) (sym commands ∙ stands.1.encoded)
          ∙ ap (λ xs. command_encoding stands.0 ++ (xs ++ drop command piece)) (sym heads) in (
            breaks.after ∙ ap (λ n. new_pair n (Some offset)) starts,
            record {
              within = length (command_encoding stands.0) + breaks.within;
              fault = inr (stands.0, mid.head ++ drop command piece, breaks.within, stands.1.sendable, joined, breaks.fault, refl);
              place = omega (arith, breaks.place, starts, ap length stands.1.encoded);
              unfinished = subst (λ xs. BeginsNoPair xs) (sym joined)
                  (no_pair stands.0 (mid.head ++ drop command piece) stands.1.sendable (broken_begins_none (mid.head ++ drop command piece) breaks.within breaks.fault));
            },
          );
      after_fault = λ other broken. let wrong : None ≡ Some other = sym fresh ∙ broken in cc;
    }

-- a reply's head that is held whole has its size
pub whole_size : (reply : ReplyHead) (held : HeldPair) → IsWholeReply reply held → head_size held.head ≤ length held.head
whole_size reply held is =
    let encoded = is.head ∙ sym (append-nil (head_encoding reply)) in
    omega (arith, ap head_size encoded, head_size-encoding reply [], ap length encoded, length-encoding reply [] is.widths.block)

-- the head that is read of whole bytes is the reply's
pub read_reply : (reply other : ReplyHead) (held : HeldPair) → IsWholeReply reply held → IsReplyHead other held.head → IsWholeReply other held
read_reply reply other held is read =
    let encoded = is.head ∙ sym (append-nil (head_encoding reply)) in
    let same = one_way reply other [] read.more is.widths read.widths (sym encoded ∙ read.encoded) in
    subst (λ (r : ReplyHead). IsWholeReply r held) same.0 is

-- a head of no more bytes than its size is nothing more
pub exact_reply : (other : ReplyHead) (held : HeldPair) → IsReplyHead other held.head → length held.head ≤ head_size held.head → held.skipped ≡ other.length → IsWholeReply other held
exact_reply other held read most skipped =
    let long = ap length read.encoded ∙ length-encoding other read.more read.widths.block in
    let size = ap head_size read.encoded ∙ head_size-encoding other read.more in
    let none : read.more ≡ [] = nil_from_length read.more (omega (arith, long, size, most)) in
    record { widths = read.widths; room = read.payload; head = read.encoded ∙ ap (λ xs. head_encoding other ++ xs) none ∙ append-nil (head_encoding other); payload = skipped }
