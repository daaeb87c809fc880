use Rattle.std.proofs.Common.{ap₂, ◌∙◌, bit_xor}
use Rattle.aes_lanes.specs.Rounds.{gap}
use Rattle.aes_lanes.proofs.sixteen.column.Goals as goal

pub returns-clause-first : goal.returns-clause-first
unfolding gap
returns-clause-first c j h =
    c.sum.ensures j h
    ∙ ap₂ bit_xor (c.sum-e.ensures j h ∙ ap₂ bit_xor (c.sum-d1.ensures j h ∙ ap₂ bit_xor (c.multiples-2.ensures.thrice j h) (c.multiples-3.ensures.twice j h)) (c.sum-d2.ensures j h ∙ ap₂ bit_xor (c.multiples-3.ensures.thrice j h) (c.multiples-4.ensures.twice j h))) (c.sum-d3.ensures j h ∙ ap₂ bit_xor (c.multiples-4.ensures.thrice j h) (c.multiples.ensures.twice j h))

pub returns-clause-second : goal.returns-clause-second
unfolding gap
returns-clause-second c j h =
    c.sum-2.ensures j h
    ∙ ap₂ bit_xor (c.sum-f.ensures j h ∙ ap₂ bit_xor (c.sum-d3.ensures j h ∙ ap₂ bit_xor (c.multiples-4.ensures.thrice j h) (c.multiples.ensures.twice j h)) (c.sum-d0.ensures j h ∙ ap₂ bit_xor (c.multiples.ensures.thrice j h) (c.multiples-2.ensures.twice j h))) (c.sum-d2.ensures j h ∙ ap₂ bit_xor (c.multiples-3.ensures.thrice j h) (c.multiples-4.ensures.twice j h))

pub returns-clause-third : goal.returns-clause-third
unfolding gap
returns-clause-third c j h =
    c.sum-3.ensures j h
    ∙ ap₂ bit_xor (c.sum-f.ensures j h ∙ ap₂ bit_xor (c.sum-d3.ensures j h ∙ ap₂ bit_xor (c.multiples-4.ensures.thrice j h) (c.multiples.ensures.twice j h)) (c.sum-d0.ensures j h ∙ ap₂ bit_xor (c.multiples.ensures.thrice j h) (c.multiples-2.ensures.twice j h))) (c.sum-d1.ensures j h ∙ ap₂ bit_xor (c.multiples-2.ensures.thrice j h) (c.multiples-3.ensures.twice j h))

pub returns-clause-fourth : goal.returns-clause-fourth
unfolding gap
returns-clause-fourth c j h =
    c.sum-4.ensures j h
    ∙ ap₂ bit_xor (c.sum-e.ensures j h ∙ ap₂ bit_xor (c.sum-d1.ensures j h ∙ ap₂ bit_xor (c.multiples-2.ensures.thrice j h) (c.multiples-3.ensures.twice j h)) (c.sum-d2.ensures j h ∙ ap₂ bit_xor (c.multiples-3.ensures.thrice j h) (c.multiples-4.ensures.twice j h))) (c.sum-d0.ensures j h ∙ ap₂ bit_xor (c.multiples.ensures.thrice j h) (c.multiples-2.ensures.twice j h))
