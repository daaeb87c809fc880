use Rattle.std.proofs.Common.{ℕ, List, take, refl, sym, subst, arith}
use Rattle.std.proofs.lemmas.Bool.{false≢true}
use Rattle.key_wrap.specs.Wrapping.{IsKwpOf}
use Rattle.vault_backup.proofs.Unwrapped.{found_some}
use Rattle.vault_backup.proofs.wrappings.is_wrapping.Goals as goal

pub returns-in-Some : goal.returns-in-Some
returns-in-Some c = λ key is.
    let buf = c.unwrap_pad-found.new.buf in
    let n = c.in-Some.length in
    let found : IsKwpOf key c.args.wrapped.now (take n buf) =
    subst (λ (w : List ℕ). IsKwpOf key w (take n buf)) c.lay.ensures.front (c.in-Some.ensures.found key is) in
    found_some key c.args.wrapped.now buf n c.args.size is.bytes (omega (arith, c.in-Some.ensures.size, c.unwrap_pad-found.array_long, c.requires.long, c.requires.most)) found

pub returns-in-None : goal.returns-in-None
returns-in-None c = λ key is. (
  λ no. absurd (false≢true no),
  λ h. absurd ((c.in-None.ensures.refused key is).0 refl h.0 (subst (λ (w : List ℕ). IsKwpOf key w h.0) (sym c.lay.ensures.front) h.1)),
)
