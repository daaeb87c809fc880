use Rattle.std.proofs.Common.{◌≡◌, ◌≤◌, ◌<◌, ◌+◌, ◌++◌, ℕ, List, [], ◌∷◌, length, take, sym, ◌∙◌, ap, arith, length-append}
use Rattle.std.proofs.lemmas.List.{take_all}
use Rattle.module_frames.specs.CommandFrames.{CommandFrame}
use Rattle.operator_text.proofs.HexPairs.{count_is}
use Rattle.operator_text.proofs.Bodies.{push_more}
use Rattle.operator_text.proofs.pushing.push_spelled.Goals as goal

pub loop-place-preserved : goal.loop-place-preserved
loop-place-preserved c =
    let pushed = c.push.ensures in (
      omega (arith, ap (λ (x : CommandFrame). length x.body) pushed, length-append c.loop-place.into.body (c.byte_at.result ∷ []), c.loop-place.invariant.0),
      λ bytes e. push_more c.args.into.now c.loop-place.into c.push.new.self bytes c.loop-place.place c.byte_at.result (c.loop-place.invariant.1 bytes e) pushed
          (omega (arith, count_is c.args.word.now c.args.count bytes c.requires.spelled e)) (c.byte_at.ensures bytes e),
    )

pub returns : goal.returns
returns c = λ bytes e.
    let long = count_is c.args.word.now c.args.count bytes c.requires.spelled e in
    c.loop-place.invariant.1 bytes e
    ∙ ap (λ (xs : List ℕ). let d : CommandFrame = record c.args.into.now { body = c.args.into.now.body ++ xs } in d) (take_all c.loop-place.place bytes (omega (arith, long)))
