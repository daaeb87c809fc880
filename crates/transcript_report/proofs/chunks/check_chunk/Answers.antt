use Rattle.std.proofs.Common.{◌≡◌, ◌+◌, ◌++◌, ℕ, List, take, drop, length, ap, subst, arith, length-drop, length-append}
use Rattle.std.proofs.lemmas.List.{take_rest, length-take-le}
use Rattle.transcript_pairs.specs.PairStreams.{FeedsPair}
use Rattle.transcript_pairs.specs.declared.pairs.PairFed.TheVariants as fed
use Rattle.transcript_report.specs.Progress.{CheckedSoFar}
use Rattle.transcript_report.specs.Verdicts.{ShowsBadFrame, ShowsUnlawful}
use Rattle.transcript_report.proofs.PairChecks.{checked_more, checked_pair, held_place, joined_more, joined_rest, shown_fault, shown_unlawful, some_taken, taken_within}
use Rattle.transcript_report.proofs.chunks.check_chunk.Goals as goal

-- the bytes held and those of the chunk are all that came
pub feed-requires : goal.feed-requires
feed-requires c =
    let i = c.loop-done.invariant in
    let (taken, before) = c.requires.so_far in
    let h = i.so_far taken before in
    let chunk = c.args.chunk.now in
    let rest = ap length (take_rest chunk c.loop-done.done) in
    omega (arith, held_place _ _ _ _ before, held_place _ _ _ _ h, c.requires.short, rest, length-drop c.loop-done.done chunk, length-take-le c.loop-done.done chunk i.within, length-append taken (take c.loop-done.done chunk), i.within)

-- the rest of the chunk is held
pub returns-in-More-clause-all : goal.returns-in-More-clause-all
returns-in-More-clause-all c _ taken before =
    let chunk = c.args.chunk.now in
    let done = c.loop-done.done in
    let feeds : FeedsPair c.loop-done.pairs (drop done chunk) fed.More c.feed.new.self = rw (take_rest chunk done) at c.in-More.ensures in
    let after = checked_more (taken ++ take done chunk) (drop done chunk) c.loop-done.checker c.loop-done.count c.loop-done.pairs c.feed.new.self (c.loop-done.invariant.so_far taken before) feeds in
    subst (λ (xs : List ℕ). CheckedSoFar xs c.loop-done.checker c.loop-done.count c.feed.new.self) (joined_rest taken chunk done) after

-- the rest of the chunk shows a fault
pub returns-in-BadFrame-clause-bad_frame : goal.returns-in-BadFrame-clause-bad_frame
returns-in-BadFrame-clause-bad_frame c place is taken before =
    let chunk = c.args.chunk.now in
    let done = c.loop-done.done in
    let same : c.in-BadFrame.place ≡ place = cc in
    let feeds : FeedsPair c.loop-done.pairs (drop done chunk) (fed.BadFrame c.in-BadFrame.place) c.feed.new.self = rw (take_rest chunk done) at c.in-BadFrame.ensures in
    let shown = shown_fault (taken ++ take done chunk) (drop done chunk) c.loop-done.checker c.loop-done.count c.in-BadFrame.place c.loop-done.pairs c.feed.new.self (c.loop-done.invariant.so_far taken before) feeds in
    subst (λ (n : ℕ). ShowsBadFrame (taken ++ chunk) n) same (subst (λ (xs : List ℕ). ShowsBadFrame xs c.in-BadFrame.place) (joined_rest taken chunk done) shown)

-- a pair stood that isn't lawful
pub returns-then-not-check_pair-clause-unlawful : goal.returns-then-not-check_pair-clause-unlawful
returns-then-not-check_pair-clause-unlawful c _ taken before =
    let chunk = c.args.chunk.now in
    let done = c.loop-done.done in
    let feeds : FeedsPair c.loop-done.pairs (drop done chunk) (fed.Whole c.in-Whole.taken) c.feed.new.self = rw (take_rest chunk done) at c.in-Whole.ensures in
    let shown = shown_unlawful (taken ++ take done chunk) (drop done chunk) c.loop-done.checker c.check_pair.new.checker c.loop-done.count c.in-Whole.taken c.loop-done.pairs c.feed.new.self
    (c.loop-done.invariant.so_far taken before) feeds c.if-not-check_pair.ensures.answer in
    subst (λ (xs : List ℕ). ShowsUnlawful xs (c.loop-done.count + 1)) (joined_rest taken chunk done) shown

pub overflow_add-done : goal.overflow_add-done
overflow_add-done c =
    let i = c.loop-done.invariant in
    let (taken, before) = c.requires.so_far in
    let chunk = c.args.chunk.now in
    let feeds : FeedsPair c.loop-done.pairs (drop c.loop-done.done chunk) (fed.Whole c.in-Whole.taken) c.feed.new.self = rw (take_rest chunk c.loop-done.done) at c.in-Whole.ensures in
    let within = taken_within _ _ _ _ _ _ _ (i.so_far taken before) feeds in
    omega (arith, within, length-drop c.loop-done.done chunk, i.within, c.requires.short)

pub loop-done-smaller : goal.loop-done-smaller
loop-done-smaller c =
    let i = c.loop-done.invariant in
    let (taken, before) = c.requires.so_far in
    let chunk = c.args.chunk.now in
    let feeds : FeedsPair c.loop-done.pairs (drop c.loop-done.done chunk) (fed.Whole c.in-Whole.taken) c.feed.new.self = rw (take_rest chunk c.loop-done.done) at c.in-Whole.ensures in
    let within = taken_within _ _ _ _ _ _ _ (i.so_far taken before) feeds in
    let some = some_taken _ _ _ _ _ _ _ c.check_pair.ensures.answer.0 (i.so_far taken before) feeds c.check_pair.ensures.answer.1 in
    omega (arith, some, within, length-drop c.loop-done.done chunk, c.loop-done-test.true)

-- a pair stood that is lawful
pub loop-done-preserved : goal.loop-done-preserved
loop-done-preserved c =
    let i = c.loop-done.invariant in
    let (first, begun) = c.requires.so_far in
    let chunk = c.args.chunk.now in
    let done = c.loop-done.done in
    let feeds : FeedsPair c.loop-done.pairs (drop done chunk) (fed.Whole c.in-Whole.taken) c.feed.new.self = rw (take_rest chunk done) at c.in-Whole.ensures in
    let within = taken_within _ _ _ _ _ _ _ (i.so_far first begun) feeds in
    let some = some_taken _ _ _ _ _ _ _ c.check_pair.ensures.answer.0 (i.so_far first begun) feeds c.check_pair.ensures.answer.1 in
    record {
      within = omega (arith, within, length-drop done chunk, c.loop-done-test.true);
      so_far = λ taken before.
          let after = checked_pair (taken ++ take done chunk) (drop done chunk) c.loop-done.checker c.check_pair.new.checker c.loop-done.count c.in-Whole.taken c.loop-done.pairs c.feed.new.self c.check_pair.new.pairs
          (i.so_far taken before) feeds c.if-not-check_pair.ensures.answer c.if-not-check_pair.ensures.cleared in
          subst (λ (xs : List ℕ). CheckedSoFar xs c.check_pair.new.checker (c.loop-done.count + 1) c.check_pair.new.pairs) (joined_more taken chunk done c.in-Whole.taken) after;
      counted = omega (arith, i.counted, some);
    }
