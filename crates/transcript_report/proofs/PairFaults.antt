-- The faults that the bytes of a pair show.
use Rattle.std.proofs.Common.{◌≡◌, ◌++◌, ℕ, List, [], None, Some, length, inl, inr, sym, ◌∙◌, ap, subst, arith, length-append}
use Rattle.std.proofs.lemmas.List.{append_assoc}
use Rattle.module_frames.specs.CommandFrames.{CommandFrame, IsSendable, command_encoding}
use Rattle.module_frames.specs.Streams.{first_fault}
use Rattle.module_frames.proofs.CommandEncodings.{broken_begins_none, first_fault-encoding}
use Rattle.module_frames.proofs.Headers.{fault_stays, first_fault-nil}
use Rattle.module_frames.proofs.Parsing.{no_prefix}
use Rattle.transcript_pairs.specs.PairStreams.{BeginsNoPair, ShowsFault, ShowsNoFault}
use Rattle.transcript_pairs.specs.ReplyStreams.{reply_encoding, reply_fault}
use Rattle.transcript_pairs.proofs.PairFeeding.{no_pair}
use Rattle.transcript_pairs.proofs.ReplyEncodings.{broken_begins_none as broken_begins_no_reply}
use Rattle.transcript_pairs.proofs.ReplyFaults.{fault_stays as reply_fault_stays}
use Rattle.transcript_report.specs.Verdicts.{ShowsBadFrame}
use Rattle.transcript_report.proofs.PairSplits.{parsed_more}

no_command_fault : (bytes : List ℕ) (command : CommandFrame) (reply : List ℕ) (offset : ℕ) → IsSendable command → bytes ≡ command_encoding command ++ reply → first_fault bytes ≡ Some offset → ⊥
no_command_fault bytes command reply offset sendable e fault =
    let wrong : None ≡ Some offset = sym (first_fault-encoding command reply sendable) ∙ sym (ap first_fault e) ∙ fault in cc

same_number : (one other : ℕ) → Some one ≡ Some other → one ≡ other
same_number one other e = cc

-- the first fault is one
pub fault_one : (bytes : List ℕ) (one other : ℕ) → ShowsFault bytes one → ShowsFault bytes other → one ≡ other
fault_one bytes one other (inl h) (inl k) = same_number one other (sym h ∙ k)
fault_one bytes one other (inl h) (inr k) = absurd (no_command_fault bytes k.0 k.1 one k.3 k.4 h)
fault_one bytes one other (inr h) (inl k) = absurd (no_command_fault bytes h.0 h.1 other h.3 h.4 k)
fault_one bytes one other (inr h) (inr k) =
    let same = no_prefix h.0 k.0 h.1 k.1 h.3 k.3 (sym h.4 ∙ k.4) in
    let within = same_number h.2 k.2 (sym h.5 ∙ ap reply_fault same.1 ∙ k.5) in
    omega (arith, within, h.6, k.6, ap (λ c. length (command_encoding c)) same.0)

-- where none shows there is none
pub no_fault_at : (bytes : List ℕ) (offset : ℕ) → ShowsNoFault bytes → ShowsFault bytes offset → ⊥
no_fault_at bytes offset none (inl h) = let wrong : None ≡ Some offset = sym none.command ∙ h in cc
no_fault_at bytes offset none (inr h) = let wrong : None ≡ Some h.2 = sym (none.reply h.0 h.1 h.3 h.4) ∙ h.5 in cc

-- it stays, whatever bytes follow
pair_fault_stays : (bytes more : List ℕ) (offset : ℕ) → ShowsFault bytes offset → ShowsFault (bytes ++ more) offset
pair_fault_stays bytes more offset (inl h) = inl (fault_stays bytes more offset h)
pair_fault_stays bytes more offset (inr h) =
    inr (h.0, h.1 ++ more, h.2, h.3, ap (λ xs. xs ++ more) h.4 ∙ append_assoc (command_encoding h.0) h.1 more, reply_fault_stays h.1 more h.2 h.5, h.6)

-- and no pair is whole
fault_begins_none : (bytes : List ℕ) (offset : ℕ) → ShowsFault bytes offset → BeginsNoPair bytes
fault_begins_none bytes offset (inl h) = λ pair payload more recorded e.
    broken_begins_none bytes offset h pair.command (reply_encoding pair.reply payload ++ more) recorded.command (e ∙ append_assoc (command_encoding pair.command) (reply_encoding pair.reply payload) more)
fault_begins_none bytes offset (inr h) = subst (λ (xs : List ℕ). BeginsNoPair xs) (sym h.4) (no_pair h.0 h.1 h.3 (broken_begins_no_reply h.1 h.2 h.5))

-- nothing shows none
pub nothing_is_sound : ShowsNoFault []
nothing_is_sound = record { command = first_fault-nil; reply = λ command reply sendable e. absurd (omega (arith, ap length e)) }

-- a bad frame stays one, whatever bytes follow
pub bad_frame_stays : (bytes more : List ℕ) (place : ℕ) → ShowsBadFrame bytes place → ShowsBadFrame (bytes ++ more) place
bad_frame_stays bytes more place bad =
    let fault = pair_fault_stays bad.remainder more bad.within bad.fault in
    record {
      recorded = bad.recorded;
      remainder = bad.remainder ++ more;
      parses = parsed_more bytes more bad.remainder bad.recorded bad.parses (fault_begins_none (bad.remainder ++ more) bad.within fault);
      lawful = bad.lawful;
      within = bad.within;
      fault = fault;
      placed = omega (arith, bad.placed, length-append bad.remainder more, length-append bytes more);
    }
