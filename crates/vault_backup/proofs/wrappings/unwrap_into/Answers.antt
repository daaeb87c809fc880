use Rattle.std.proofs.Common.{◌≡◌, ℕ, List, take, subst, arith}
use Rattle.aes_core.specs.Schedules.{IsExpanded}
use Rattle.key_wrap.specs.Wrapping.{IsKwpOf}
use Rattle.vault_backup.proofs.Unwrapped.{size_found}
use Rattle.vault_backup.proofs.wrappings.unwrap_into.Goals as goal

pub returns : goal.returns
returns c = λ key is.
    let buf = c.unwrap_pad.new.buf in
    let n = c.in-Some.field-0 in
    let wrapped = c.args.wrapped.now in
    let found : (k : List ℕ) → IsExpanded c.args.schedule.now k → IsKwpOf k wrapped (take n buf) = λ k expanded.
    subst (λ (w : List ℕ). IsKwpOf k w (take n buf)) c.lay.ensures.front (c.in-Some.ensures.found k expanded) in
    let known = c.requires.wrapping in
    let same : n ≡ c.args.size =
    size_found known.0 wrapped buf n c.args.size known.1.bytes (omega (arith, c.in-Some.ensures.size, c.unwrap_pad.array_long, c.requires.long, c.requires.most))
    (found known.0 known.1) known.2 in
    subst (λ (k : ℕ). IsKwpOf key wrapped (take k buf)) same (found key is)
