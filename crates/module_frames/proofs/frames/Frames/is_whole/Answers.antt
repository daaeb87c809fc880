use Rattle.std.proofs.Common.{◌≡◌, ◌<◌, ◌≤◌, ℕ, List, length, false, arith, refl, ◌∙◌, ap, inr}
use Rattle.std.specs.Prelude.{nat_eq}
use Rattle.std.specs.Int.{to_be_bytes, w32}
use Rattle.std.proofs.lemmas.Bool.Decides.{nat_tests}
use Rattle.module_frames.proofs.Holding.{held_whole, held_partial, length-held, header_length-held, body_length-held, is_headed}
use Rattle.module_frames.proofs.frames.Frames.is_whole.Goals as goal

-- not as many bytes as known, and no more: fewer
below_told : (body seen : List ℕ) (known length' : ℕ) → seen ≡ body → length' ≡ known → length body ≤ known → nat_eq (length seen) length' ≡ false → length body < known
below_told body seen known length' e f h k = let q = rw (e, f) at k in grind (arith, nat_tests, q)

pub returns-then-is_headed-clause-whole : goal.returns-then-is_headed-clause-whole
returns-then-is_headed-clause-whole c full =
    let long = c.if-is_headed.ensures.yes refl in
    let held = rw (← c.self.view_is) at long in
    let whole = is_headed c.self.inside c.self.invariant held in
    let same : length c.self.inside.command.body ≡ c.body_length.result = grind (arith, nat_tests, full, c.body.ensures.body) in
    rw (← c.self.view_is)
    (held_whole c.self.inside c.self.invariant whole (ap (λ n. to_be_bytes w32 n) same ∙ c.body_length.ensures.encoded) (same ∙ c.body_length.ensures.known))

pub returns-then-is_headed-clause-incomplete : goal.returns-then-is_headed-clause-incomplete
returns-then-is_headed-clause-incomplete c part =
    let long = c.if-is_headed.ensures.yes refl in
    let held = rw (← c.self.view_is) at long in
    let whole = is_headed c.self.inside c.self.invariant held in
    let less = below_told _ _ _ _ (c.body.ensures.body) c.body_length.ensures.known (c.self.invariant.within whole) part in
    rw (← c.self.view_is) (held_partial c.self.inside c.self.invariant (inr (whole, less)))

pub returns-then-is_headed-clause-short : goal.returns-then-is_headed-clause-short
returns-then-is_headed-clause-short c part =
    let long = c.if-is_headed.ensures.yes refl in
    let held = rw (← c.self.view_is) at long in
    let whole = is_headed c.self.inside c.self.invariant held in
    let less = below_told _ _ _ _ (c.body.ensures.body) c.body_length.ensures.known (c.self.invariant.within whole) part in
    rw (← c.self.view_is)
    (omega (arith, less, whole, length-held c.self.inside c.self.invariant, header_length-held c.self.inside c.self.invariant, body_length-held c.self.inside c.self.invariant whole))
