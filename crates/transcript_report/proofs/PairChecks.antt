-- What was found of the pairs after more bytes.
use Rattle.std.proofs.Common.{◌≡◌, ◌≤◌, ◌<◌, ◌+◌, ◌++◌, ℕ, Bool, true, false, List, [], ◌∷◌, Option, None, Some, length, take, drop, inl, inr, refl, sym, ◌∙◌, ap, subst, arith, length-append}
use Rattle.std.proofs.Math.Seq.{take-add}
use Rattle.std.proofs.lemmas.Bool.{cases_lt}
use Rattle.std.proofs.lemmas.List.{append-nil, append_assoc, length-map, map-append, take-append-drop}
use Rattle.module_frames.specs.CommandFrames.{command_encoding}
use Rattle.module_frames.specs.PublicState.{unpowered}
use Rattle.module_frames.specs.declared.public_state.PublicState.{PublicState}
use Rattle.transcript_check.specs.Checking.{Answers, AnswersFrom}
use Rattle.transcript_check.specs.Transcripts.{Leads, Pair}
use Rattle.transcript_check.proofs.Walks.{walk_on}
use Rattle.transcript_pairs.specs.PairStreams.{FeedsPair, HasCome, HeldPair, IsRecorded, IsWholePair, ParsesIntoPairs, Recorded, cleared_pair, held_length, new_pair, pair_encoding, pairs_of}
use Rattle.transcript_pairs.specs.declared.pairs.PairFed.TheVariants as fed
use Rattle.transcript_report.specs.Progress.{AnswersPair, CheckedSoFar}
use Rattle.transcript_report.specs.Verdicts.{ShowsBadFrame, ShowsUnlawful}
use Rattle.transcript_report.proofs.PairFaults.{nothing_is_sound}
use Rattle.transcript_report.proofs.PairSplits.{nothing_parses, parsed_more, parsed_pair}

pub came_length : (held : HeldPair) (bytes : List ℕ) → HasCome held bytes → held_length held ≡ length bytes
came_length held bytes come = omega (arith, ap length come.came, length-append held.command (held.head ++ come.payload), length-append held.head come.payload, come.skipped)

-- what is held ends where the bytes taken do
pub held_place : (taken : List ℕ) (walk : Option PublicState) (count : ℕ) (held : HeldPair) → CheckedSoFar taken walk count held → held.start + held_length held ≡ length taken
held_place taken walk count held h = omega (arith, came_length held h.remainder h.came, h.begins)

-- nothing was taken
pub checked_none : CheckedSoFar [] (Some unpowered) 0 (new_pair 0 None)
checked_none = record {
  recorded = [];
  remainder = [];
  parses = nothing_parses;
  sound = nothing_is_sound;
  public = unpowered;
  goes_on = refl;
  walked = refl;
  counted = refl;
  came = record { payload = []; came = refl; skipped = refl };
  no_fault = refl;
  begins = refl;
}

-- all of a piece was taken, and no pair became whole
pub checked_more : (taken piece : List ℕ) (walk : Option PublicState) (count : ℕ) (old new : HeldPair) → CheckedSoFar taken walk count old → FeedsPair old piece fed.More new → CheckedSoFar (taken ++ piece) walk count new
checked_more taken piece walk count old new h feeds =
    let (come, partial) = feeds.before_fault h.no_fault h.remainder h.came in
    record {
      recorded = h.recorded;
      remainder = h.remainder ++ piece;
      parses = parsed_more taken piece h.remainder h.recorded h.parses partial.unfinished;
      sound = partial.no_fault;
      public = h.public;
      goes_on = h.goes_on;
      walked = h.walked;
      counted = h.counted;
      came = come;
      no_fault = feeds.told;
      begins = omega (arith, h.begins, feeds.start, length-append h.remainder piece, length-append taken piece);
    }

-- a whole pair stood
pub record PairStood (taken piece : List ℕ) (recorded : List Recorded) (pair : Pair) : Type 0 where
  pub payload : List ℕ
  pub parses : ParsesIntoPairs (taken ++ piece) (recorded ++ (record { pair = pair; payload = payload }) ∷ []) []
  pub pairs : pairs_of (recorded ++ (record { pair = pair; payload = payload }) ∷ []) ≡ pairs_of recorded ++ pair ∷ []
  pub count : length (recorded ++ (record { pair = pair; payload = payload }) ∷ []) ≡ length recorded + 1

recorded_pair : (pair : Pair) (held : HeldPair) (bytes : List ℕ) → IsWholePair pair held → (come : HasCome held bytes) → IsRecorded pair come.payload × (bytes ≡ pair_encoding pair come.payload)
recorded_pair pair held bytes whole come = (
  record { command = whole.command.sendable; reply = record { widths = whole.reply.widths; room = whole.reply.room; told = come.skipped ∙ whole.reply.payload } },
  come.came ∙ ap (λ xs. xs ++ (held.head ++ come.payload)) whole.command.encoded ∙ ap (λ xs. command_encoding pair.command ++ (xs ++ come.payload)) whole.reply.head,
)

stood : (taken piece : List ℕ) (walk : Option PublicState) (count size : ℕ) (old mid : HeldPair) (pair : Pair) → (h : CheckedSoFar taken walk count old) → FeedsPair old piece (fed.Whole size) mid → IsWholePair pair mid
    → PairStood taken (take size piece) h.recorded pair
stood taken piece walk count size old mid pair h feeds whole =
    let fed' = feeds.before_fault h.no_fault h.remainder h.came in
    let come = fed'.1 in
    let is = recorded_pair pair mid (h.remainder ++ take size piece) whole come in
    let r : Recorded = record { pair = pair; payload = come.payload } in
    record {
      payload = come.payload;
      parses = parsed_pair taken (take size piece) h.remainder h.recorded r h.parses is.0 is.1;
      pairs = map-append (λ (r : Recorded). r.pair) h.recorded (r ∷ []);
      count = length-append h.recorded (r ∷ []);
    }

-- no more bytes were taken than there were
pub taken_within : (taken piece : List ℕ) (walk : Option PublicState) (count size : ℕ) (old mid : HeldPair) → CheckedSoFar taken walk count old → FeedsPair old piece (fed.Whole size) mid → size ≤ length piece
taken_within taken piece walk count size old mid h feeds = (feeds.before_fault h.no_fault h.remainder h.came).0

-- and at least one
pub some_taken : (taken piece : List ℕ) (walk : Option PublicState) (count size : ℕ) (old mid : HeldPair) (pair : Pair) → CheckedSoFar taken walk count old → FeedsPair old piece (fed.Whole size) mid → IsWholePair pair mid → 0 < size
some_taken taken piece walk count size old mid pair h feeds whole =
    elim (cases_lt 0 size) [
      | inl some ↦ some
      | inr least ↦ absurd (let fed' = feeds.before_fault h.no_fault h.remainder h.came in
          let is = recorded_pair pair mid (h.remainder ++ take size piece) whole fed'.1 in
          let none : size ≡ 0 = omega (arith, least) in
          let all : h.remainder ≡ h.remainder ++ take size piece = sym (ap (λ n. h.remainder ++ take n piece) none ∙ append-nil h.remainder) in
          h.parses.unfinished pair fed'.1.payload [] is.0 (all ∙ is.1 ∙ sym (append-nil (pair_encoding pair fed'.1.payload))))
    ]

led : (public : PublicState) (pair : Pair) (after : Option PublicState) → AnswersFrom public pair true after → (next : PublicState) × (after ≡ Some next) × Leads public pair next
led public pair None answers = absurd answers
led public pair (Some next) answers = (next, refl, answers)

answers_from : (walk : Option PublicState) (public : PublicState) (pair : Pair) (answer : Bool) (after : Option PublicState) → walk ≡ Some public → Answers walk pair answer after → AnswersFrom public pair answer after
answers_from walk public pair answer after is answers = subst (λ (w : Option PublicState). Answers w pair answer after) is answers

-- the pair is lawful
pub checked_pair : (taken piece : List ℕ) (walk after : Option PublicState) (count size : ℕ) (old mid new : HeldPair) → CheckedSoFar taken walk count old → FeedsPair old piece (fed.Whole size) mid → AnswersPair walk mid true after
    → new ≡ cleared_pair mid → CheckedSoFar (taken ++ take size piece) after (count + 1) new
checked_pair taken piece walk after count size old mid new h feeds (pair, whole, answers) gone =
    let come = (feeds.before_fault h.no_fault h.remainder h.came).1 in
    let pair' = stood taken piece walk count size old mid pair h feeds whole in
    let (next, is, leads) = led h.public pair after (answers_from walk h.public pair true after h.goes_on answers) in
    subst (λ (held : HeldPair). CheckedSoFar (taken ++ take size piece) after (count + 1) held) (sym gone)
    (record {
      recorded = h.recorded ++ (record { pair = pair; payload = pair'.payload }) ∷ [];
      remainder = [];
      parses = pair'.parses;
      sound = nothing_is_sound;
      public = next;
      goes_on = is;
      walked = rw pair'.pairs (walk_on unpowered h.public next (pairs_of h.recorded) pair h.walked leads);
      counted = omega (arith, h.counted, pair'.count);
      came = record { payload = []; came = refl; skipped = refl };
      no_fault = feeds.told;
      begins = omega (arith, feeds.start, came_length mid (h.remainder ++ take size piece) come, length-append h.remainder (take size piece), h.begins, length-append taken (take size piece));
    })

-- the pair isn't lawful
pub shown_unlawful : (taken piece : List ℕ) (walk after : Option PublicState) (count size : ℕ) (old mid : HeldPair) → CheckedSoFar taken walk count old → FeedsPair old piece (fed.Whole size) mid → AnswersPair walk mid false after
    → ShowsUnlawful (taken ++ piece) (count + 1)
shown_unlawful taken piece walk after count size old mid h feeds (pair, whole, answers) =
    let pair' = stood taken piece walk count size old mid pair h feeds whole in
    record {
      front = taken ++ take size piece;
      more = drop size piece;
      whole = ap (λ xs. taken ++ xs) (sym (take-append-drop size piece)) ∙ sym (append_assoc taken (take size piece) (drop size piece));
      recorded = h.recorded ++ (record { pair = pair; payload = pair'.payload }) ∷ [];
      parses = pair'.parses;
      unlawful = record {
        earlier = pairs_of h.recorded;
        pair = pair;
        later = [];
        found = h.public;
        split = pair'.pairs;
        numbered = omega (arith, h.counted, length-map h.recorded (λ (r : Recorded). r.pair));
        walk = h.walked;
        unlawful = (answers_from walk h.public pair false after h.goes_on answers).0;
      };
    }

-- a fault shows
pub shown_fault : (taken piece : List ℕ) (walk : Option PublicState) (count place : ℕ) (old new : HeldPair) → CheckedSoFar taken walk count old → FeedsPair old piece (fed.BadFrame place) new → ShowsBadFrame (taken ++ piece) place
shown_fault taken piece walk count place old new h feeds =
    let broken = (feeds.before_fault h.no_fault h.remainder h.came).1 in
    record {
      recorded = h.recorded;
      remainder = h.remainder ++ piece;
      parses = parsed_more taken piece h.remainder h.recorded h.parses broken.unfinished;
      lawful = (h.public, h.walked);
      within = broken.within;
      fault = broken.fault;
      placed = omega (arith, broken.place, h.begins, length-append h.remainder piece, length-append taken piece);
    }

-- a chunk is a front of it and the rest
pub joined_rest : (taken chunk : List ℕ) (done : ℕ) → (taken ++ take done chunk) ++ drop done chunk ≡ taken ++ chunk
joined_rest taken chunk done = append_assoc taken (take done chunk) (drop done chunk) ∙ ap (λ xs. taken ++ xs) (take-append-drop done chunk)

pub joined_more : (taken chunk : List ℕ) (done size : ℕ) → (taken ++ take done chunk) ++ take size (drop done chunk) ≡ taken ++ take (done + size) chunk
joined_more taken chunk done size = append_assoc taken (take done chunk) (take size (drop done chunk)) ∙ ap (λ xs. taken ++ xs) (sym (take-add done size chunk))
