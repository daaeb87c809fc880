-- What a reader of transcripts holds, and what it takes.
use Rattle.std.proofs.Common.{◌≡◌, ◌≤◌, ◌<◌, ◌+◌, ◌-◌, ◌^◌, ◌++◌, ℕ, Bool, true, false, not, List, [], Option, None, Some, length, take, drop, inl, inr, refl, sym, ◌∙◌, ap, arith, length-append, if◌then◌else◌, ◌∷◌}
use Rattle.std.specs.Prelude.{min, ◌==◌}
use Rattle.std.proofs.lemmas.Bool.Decides.{nat_tests}
use Rattle.std.specs.Option.{is_some, option_map}
use Rattle.std.proofs.lemmas.Bool.{cases_lt}
use Rattle.std.proofs.lemmas.List.{append-nil, append_assoc, length-drop, length-take-le, nil_from_length, take-append-drop}
use Rattle.std.proofs.Math.Seq.{take-add}
use Rattle.module_frames.specs.Fragments.{Fragment, Feeds, IsBrokenAt, cleared_fragment, new_fragment}
use Rattle.module_frames.specs.ReplyHeads.{IsReplyHead}
use Rattle.module_frames.specs.Streams.{first_fault}
use Rattle.module_frames.specs.declared.frames.Fed.TheVariants as fed
use Rattle.module_frames.specs.declared.head.ReplyHead.{ReplyHead}
use Rattle.module_frames.proofs.Headers.{shown_fault}
use Rattle.transcript_pairs.specs.PairStreams.{HeldPair, held_length}
use Rattle.transcript_pairs.specs.PairSteps.{HoldsCommand, HoldsNoReply, IsPairReader, TakesCommand, TakesHead, pair_of}
use Rattle.transcript_pairs.specs.ReplyStreams.{head_size, payload_length, reply_fault}
use Rattle.transcript_pairs.specs.declared.pairs.Pairs.TheInside.{Inside}
use Rattle.transcript_pairs.proofs.ReplyEncodings.{head_range, head_size-append, payload_length-encoding}
use Rattle.transcript_pairs.proofs.ReplyFaults.{fault_stays, payload_length-append, reply_fault-nil}

-- with no byte of a head nothing of a reply came
pub no_reply : (r : Inside) → IsPairReader r → length r.head ≡ 0 → HoldsNoReply (pair_of r)
no_reply r reader none = (nil_from_length r.head none, reader.unskipped (omega (arith, none, head_range r.head)))

pub more_command : (r : Inside) (piece : List ℕ) (new : Fragment) (taken : ℕ) → IsPairReader r → r.fault ≡ None → HoldsNoReply (pair_of r) → Feeds r.frames piece fed.More new
    → TakesCommand (pair_of r) piece fed.More (pair_of (record r { taken = taken; frames = new }))
more_command r piece new taken reader fresh none feeds =
    let fed' = feeds.before_fault (reader.faultless fresh) in
    (none, ap (λ (f : Fragment). record (pair_of r) { command = f.bytes }) fed'.0, fed'.1)

pub whole_command : (r : Inside) (piece : List ℕ) (new : Fragment) (count taken : ℕ) → IsPairReader r → r.fault ≡ None → HoldsNoReply (pair_of r) → Feeds r.frames piece (fed.Whole count) new
    → TakesCommand (pair_of r) piece (fed.Whole count) (pair_of (record r { taken = taken; frames = new }))
whole_command r piece new count taken reader fresh none feeds =
    let fed' = feeds.before_fault (reader.faultless fresh) in
    (fed'.0, ap (λ (f : Fragment). record (pair_of r) { command = f.bytes }) fed'.1, λ _. none, fed'.2)

four_tests : (p q r s : Bool) (offset : ℕ) → ◌≡◌ {A = Option ℕ} (if p then Some 0 else if q then Some 1 else if r then Some 3 else if s then Some 4 else None) (Some offset) → offset ≤ 4
four_tests true q r s offset h = let e : 0 ≡ offset = cc in omega (arith, e)
four_tests false true r s offset h = let e : 1 ≡ offset = cc in omega (arith, e)
four_tests false false true s offset h = let e : 3 ≡ offset = cc in omega (arith, e)
four_tests false false false true offset h = let e : 4 ≡ offset = cc in omega (arith, e)
four_tests false false false false offset h = cc

early_fault : (bytes : List ℕ) (offset : ℕ) → first_fault bytes ≡ Some offset → offset ≤ 4
unfolding first_fault
early_fault bytes offset h = four_tests _ _ _ _ offset h

-- where a command shows a fault
pub record CommandFault (r : Inside) (piece : List ℕ) (new : Fragment) (offset : ℕ) : Type 0 where
  pub within : ℕ
  pub fault : first_fault (r.frames.bytes ++ piece) ≡ Some within
  pub early : within ≤ 4
  pub place : offset ≡ r.commands + within
  pub gone : new.bytes ≡ []
  pub broken : IsBrokenAt r.frames.start (r.frames.bytes ++ piece) offset

same_place : (one two : ℕ) → ◌≡◌ {A = Option ℕ} (Some one) (Some two) → one ≡ two
same_place one two e = cc

pub command_fault : (r : Inside) (piece : List ℕ) (new : Fragment) (offset : ℕ) → IsPairReader r → r.fault ≡ None → Feeds r.frames piece (fed.BadFrame offset) new → CommandFault r piece new offset
command_fault r piece new offset reader fresh feeds =
    let fed' = feeds.before_fault (reader.faultless fresh) in
    let shown = shown_fault r.frames.start (r.frames.bytes ++ piece) offset fed'.1.fault in
    let here : Some (r.frames.start + shown.0) ≡ Some offset = sym (ap (option_map (λ n. r.frames.start + n)) shown.1) ∙ fed'.1.fault in
    record {
      within = shown.0;
      fault = shown.1;
      early = early_fault (r.frames.bytes ++ piece) shown.0 shown.1;
      place = omega (arith, same_place _ _ here, reader.commands);
      gone = ap (λ (f : Fragment). f.bytes) fed'.0;
      broken = fed'.1;
    }

pub broken_command : (r : Inside) (piece : List ℕ) (new : Fragment) (offset : ℕ) → IsPairReader r → r.fault ≡ None → HoldsNoReply (pair_of r) → CommandFault r piece new offset
    → TakesCommand (pair_of r) piece (fed.BadFrame (r.start + (offset - r.commands))) (pair_of (record r { taken = 0; frames = new; fault = Some (r.start + (offset - r.commands)) }))
broken_command r piece new offset reader fresh none fault =
    let place : r.start + (offset - r.commands) ≡ r.start + fault.within = omega (arith, fault.place) in (
      none,
      rw (fault.gone, none.0, none.1) refl,
      record { fault = ap (option_map (λ n. r.start + n)) fault.fault ∙ ap (λ n. Some n) (sym place); unfinished = fault.broken.unfinished },
    )

-- bytes were gathered behind those of a head
record Gathered (r : Inside) (piece head : List ℕ) (count : ℕ) : Type 0 where
  long : length head ≡ length r.head + count
  most : count ≤ length piece
  less : length r.head + count ≤ head_size r.head
  size : 2 ≤ length r.head → head_size head ≡ head_size r.head
  small : length r.head < 2 → head_size r.head ≡ 24

small_size : (bytes : List ℕ) → length bytes < 2 → head_size bytes ≡ 24
unfolding head_size
small_size [] k = refl
small_size (a ∷ []) k = refl
small_size (a ∷ b ∷ rest) k = absurd (omega arith)

gathered : (r : Inside) (piece head : List ℕ) (count : ℕ) → IsPairReader r → count ≡ min (head_size r.head - length r.head) (length piece) → head ≡ r.head ++ take count piece → Gathered r piece head count
gathered r piece head count reader many is = record {
  long = ap length is ∙ length-append r.head (take count piece) ∙ ap (λ n. length r.head + n) (length-take-le count piece (omega (arith, many)));
  most = omega (arith, many);
  less = omega (arith, many, reader.most);
  size = λ enough. ap head_size is ∙ head_size-append r.head (take count piece) enough;
  small = small_size r.head;
}

-- what is read of the payload's length stays
gathered_skipped : (r : Inside) (piece head : List ℕ) (count : ℕ) → IsPairReader r → Gathered r piece head count → head ≡ r.head ++ take count piece → head_size head ≤ length head → r.skipped ≤ payload_length head
gathered_skipped r piece head count reader g is whole = elim (cases_lt (length r.head) (head_size r.head)) [
  | inl part ↦ omega (arith, reader.unskipped part)
  | inr all ↦
      (let same : payload_length head ≡ payload_length r.head = ap payload_length is ∙ payload_length-append r.head (take count piece) (omega (arith, all, head_range r.head)) in
      omega (arith, same, reader.skipped all))
]

pub gathered_reader : (r : Inside) (piece head : List ℕ) (count : ℕ) → IsPairReader r → r.fault ≡ None → HoldsCommand (pair_of r) → r.start + (length r.frames.bytes + length r.head + r.skipped) + length piece ≤ 2 ^ 63
    → count ≡ min (head_size r.head - length r.head) (length piece) → head ≡ r.head ++ take count piece → reply_fault head ≡ None → IsPairReader (record r { head = head })
gathered_reader r piece head count reader fresh stands short many is no_fault =
    let g = gathered r piece head count reader many is in
    record {
      commands = reader.commands;
      least = reader.least;
      taken = reader.taken;
      short = omega (arith, short, g.long, g.most);
      sound = no_fault;
      most = elim (cases_lt (length r.head) 2) [
        | inl few ↦ omega (arith, g.long, g.less, g.small few, head_range head)
        | inr enough ↦ omega (arith, g.long, g.less, g.size enough)
      ];
      behind = λ _. stands;
      unskipped = λ part. reader.unskipped (elim (cases_lt (length r.head) (head_size r.head)) [
        | inl less ↦ less
        | inr all ↦ absurd (omega (arith, part, all, g.long, g.size (omega (arith, all, head_range r.head))))
      ]);
      skipped = gathered_skipped r piece head count reader g is;
      faultless = reader.faultless;
      empty = λ offset broken. let wrong : None ≡ Some offset = sym fresh ∙ broken in cc;
    }

-- none of the payload came where bytes of the head did
pub gathered_unskipped : (r : Inside) (piece : List ℕ) (count : ℕ) → IsPairReader r → count ≡ min (head_size r.head - length r.head) (length piece) → 1 ≤ count → r.skipped ≡ 0
gathered_unskipped r piece count reader many some = reader.unskipped (omega (arith, many, some))

-- the fault that a head shows with bytes of the piece, it shows with all of it; and none of the payload came
pub gathered_fault : (r : Inside) (piece head : List ℕ) (count within : ℕ) → IsPairReader r → count ≡ min (head_size r.head - length r.head) (length piece) → head ≡ r.head ++ take count piece
    → reply_fault head ≡ Some within → (reply_fault (r.head ++ piece) ≡ Some within) × (r.skipped ≡ 0)
gathered_fault r piece head count within reader many is fault =
    let all : head ++ drop count piece ≡ r.head ++ piece =
    ap (λ xs. xs ++ drop count piece) is ∙ append_assoc r.head (take count piece) (drop count piece) ∙ ap (λ xs. r.head ++ xs) (take-append-drop count piece) in (
      sym (ap reply_fault all) ∙ fault_stays head (drop count piece) within fault,
      elim (cases_lt (length r.head) (head_size r.head)) [
        | inl part ↦ reader.unskipped part
        | inr full ↦
            (let none : count ≡ 0 = omega (arith, many, full) in
            let same : head ≡ r.head = is ∙ ap (λ n. r.head ++ take n piece) none ∙ append-nil r.head in
            let wrong : None ≡ Some within = sym reader.sound ∙ sym (ap reply_fault same) ∙ fault in
            cc)
      ],
    )

-- a whole head tells its payload's length
pub told_length : (reply : ReplyHead) (bytes : List ℕ) → IsReplyHead reply bytes → payload_length bytes ≡ reply.length
told_length reply bytes is = ap payload_length is.encoded ∙ payload_length-encoding reply is.more is.widths.block is.widths.payload

-- bytes of the payload were skipped
pub skipped_reader : (r : Inside) (piece : List ℕ) (count : ℕ) → IsPairReader r → r.start + (length r.frames.bytes + length r.head + r.skipped) + length piece ≤ 2 ^ 63 → count ≤ length piece
    → head_size r.head ≤ length r.head → r.skipped + count ≤ payload_length r.head → IsPairReader (record r { skipped = r.skipped + count })
skipped_reader r piece count reader short most whole within = record {
  commands = reader.commands;
  least = reader.least;
  taken = reader.taken;
  short = omega (arith, short, most);
  sound = reader.sound;
  most = reader.most;
  behind = reader.behind;
  unskipped = λ part. absurd (omega (arith, part, whole));
  skipped = λ _. within;
  faultless = reader.faultless;
  empty = reader.empty;
}

-- the head was taken in two steps
pub took_head : (old mid new : HeldPair) (piece : List ℕ) (front back : ℕ) → front ≡ min (head_size old.head - length old.head) (length piece) → mid ≡ record old { head = old.head ++ take front piece }
    → (1 ≤ front → old.skipped ≡ 0) → back ≡ min (head_size mid.head - length mid.head) (length (drop front piece)) → new ≡ record mid { head = mid.head ++ take back (drop front piece) }
    → (1 ≤ back → mid.skipped ≡ 0) → reply_fault new.head ≡ None → TakesHead old piece (front + back) new
took_head old mid new piece front back first gone early second came late no_fault =
    let here : mid.head ≡ old.head ++ take front piece = ap (λ (p : HeldPair). p.head) gone in
    let there : new.head ≡ mid.head ++ take back (drop front piece) = ap (λ (p : HeldPair). p.head) came in
    let long : length mid.head ≡ length old.head + front = ap length here ∙ length-append old.head (take front piece) ∙ ap (λ n. length old.head + n) (length-take-le front piece (omega (arith, first))) in
    let longer : length new.head ≡ length mid.head + back =
    ap length there ∙ length-append mid.head (take back (drop front piece)) ∙ ap (λ n. length mid.head + n) (length-take-le back (drop front piece) (omega (arith, second))) in
    let rest = length-drop front piece in
    let kept : mid.skipped ≡ old.skipped = ap (λ (p : HeldPair). p.skipped) gone in
    record {
      within = omega (arith, first, second, rest);
      after = came ∙ ap (λ (p : HeldPair). record p { head = p.head ++ take back (drop front piece) }) gone
          ∙ ap (λ xs. record old { head = xs }) (append_assoc old.head (take front piece) (take back (drop front piece)) ∙ ap (λ xs. old.head ++ xs) (sym (take-add front back piece)));
      sound = no_fault;
      part = λ short. elim (cases_lt front (length piece)) [
        | inl cut ↦
            (let enough : 24 ≤ length mid.head = omega (arith, long, first, cut, head_range old.head) in
            let size : head_size new.head ≡ head_size mid.head = ap head_size there ∙ head_size-append mid.head (take back (drop front piece)) (omega (arith, enough)) in
            omega (arith, short, size, longer, second, rest, first))
        | inr all ↦ omega (arith, all, first, second, rest)
      ];
      unskipped = λ some. elim (cases_lt 0 front) [
        | inl one ↦ early (omega (arith, one))
        | inr none ↦ sym kept ∙ late (omega (arith, some, none))
      ];
    }

-- nothing is held
pub new_reader : IsPairReader (record { start = 0; commands = 0; taken = 0; frames = new_fragment; head = []; skipped = 0; fault = None })
new_reader = record {
  commands = refl;
  least = λ _. omega arith;
  taken = refl;
  short = omega arith;
  sound = reply_fault-nil;
  most = omega (arith, head_range []);
  behind = λ some. absurd (omega (arith, some));
  unskipped = λ _. refl;
  skipped = λ whole. absurd (omega (arith, whole, head_range []));
  faultless = λ _. refl;
  empty = λ offset broken. cc;
}

-- and after a fault
pub broken_reader : (r : Inside) (frames : Fragment) (start : ℕ) (place : ℕ) → frames ≡ cleared_fragment r.frames → IsPairReader r → start ≡ r.commands + r.taken
    → IsPairReader (record { start = r.start; commands = start; taken = 0; frames = frames; head = []; skipped = 0; fault = Some place })
broken_reader r frames start place gone reader is =
    let bytes : frames.bytes ≡ [] = ap (λ (f : Fragment). f.bytes) gone in
    let begins : frames.start ≡ r.frames.start + length r.frames.bytes = ap (λ (f : Fragment). f.start) gone in
    record {
      commands = omega (arith, is, begins, reader.commands, reader.taken);
      least = λ e. cc;
      taken = sym (ap length bytes);
      short = omega (arith, reader.short, ap length bytes);
      sound = reply_fault-nil;
      most = omega (arith, head_range []);
      behind = λ some. absurd (omega (arith, some));
      unskipped = λ _. refl;
      skipped = λ whole. absurd (omega (arith, whole, head_range []));
      faultless = λ e. cc;
      empty = λ offset broken. (bytes, refl);
    }

pub none_of : (head seen : List ℕ) → seen ≡ head → (length seen == 0) ≡ true → length head ≡ 0
none_of head seen same test = let none : length seen ≡ 0 = grind (arith, nat_tests, test) in omega (arith, none, ap length same)

-- without a byte of a command nothing is held
pub nothing_taken : (r : Inside) → IsPairReader r → r.taken ≡ 0 → held_length (pair_of r) ≡ 0
nothing_taken r reader none =
    let empty : length r.frames.bytes ≡ 0 = omega (arith, none, reader.taken) in
    elim (cases_lt 0 (length r.head)) [
      | inl some ↦ (let stands = reader.behind (omega (arith, some)) in absurd (omega (arith, empty, ap length stands.1.encoded)))
      | inr nothing ↦ omega (arith, empty, nothing, reader.unskipped (omega (arith, nothing, head_range r.head)))
    ]

pub none_held : (fault : Option ℕ) (none : Bool) → is_some fault ≡ not none → (none ≡ true → fault ≡ None) × (fault ≡ None → none ≡ true)
none_held None true e = (λ _. refl, λ _. refl)
none_held None false e = cc
none_held (Some offset) true e = cc
none_held (Some offset) false e = (λ is. cc, λ is. cc)

-- what was held is forgotten, and the next pair begins behind it
pub cleared_reader : (r : Inside) (frames : Fragment) (start : ℕ) → frames ≡ cleared_fragment r.frames → IsPairReader r → start ≡ r.start + (length r.frames.bytes + length r.head + r.skipped)
    → IsPairReader (record { start = start; commands = r.commands + r.taken; taken = 0; frames = frames; head = []; skipped = 0; fault = r.fault })
cleared_reader r frames start gone reader is =
    let bytes : frames.bytes ≡ [] = ap (λ (f : Fragment). f.bytes) gone in
    let begins : frames.start ≡ r.frames.start + length r.frames.bytes = ap (λ (f : Fragment). f.start) gone in
    record {
      commands = omega (arith, begins, reader.commands, reader.taken);
      least = λ fresh. omega (arith, is, reader.taken, reader.least fresh);
      taken = sym (ap length bytes);
      short = omega (arith, reader.short, ap length bytes, is);
      sound = reply_fault-nil;
      most = omega (arith, head_range []);
      behind = λ some. absurd (omega (arith, some));
      unskipped = λ _. refl;
      skipped = λ whole. absurd (omega (arith, whole, head_range []));
      faultless = λ fresh. ap (λ (f : Fragment). f.fault) gone ∙ reader.faultless fresh;
      empty = λ offset broken. (bytes, refl);
    }
