use Rattle.std.proofs.Common.{◌≡◌, ◌++◌, ◌∙◌, List, ℕ, drop, length, take, ap, sym, arith, subst, OnOk}
use Rattle.bits_core.specs.ByteList.{zeros}
use Rattle.bits_core.specs.declared.limits.TheConstants.{LARGEST_PAYLOAD}
use Rattle.noise_health.specs.Counts.{Counts}
use Rattle.outside.specs.Explained.{Explained}
use Rattle.random_bits.specs.Draws.{IsDrawn, drawn}
use Rattle.crypto_services.proofs.ZeroWork.{front_wiped, front_of_zeros, length_front_of_zeros}
use Rattle.crypto_services.proofs.work.put_draw_in.Goals as goal

pub put_draw-requires-clause-zero : goal.put_draw-requires-clause-zero
put_draw-requires-clause-zero g c =
    let IsZero : List ℕ → Type 0 = λ xs. take c.args.count xs ≡ zeros (length (take c.args.count xs)) in
    subst IsZero (sym c.requires.zero) (front_of_zeros c.args.count LARGEST_PAYLOAD)

pub returns-clause-zero : goal.returns-clause-zero
returns-clause-zero g c =
    let n : ℕ = c.args.count in
    let behind : List ℕ = drop n c.args.work.now in
    let long : length (take n c.args.work.now) ≡ n = ap (λ (xs : List ℕ). length (take n xs)) c.requires.zero ∙ length_front_of_zeros n LARGEST_PAYLOAD (omega (arith, c.requires.most)) in
    let wiped : c.put_draw.new.out ≡ zeros n = c.put_draw.ensures.wiped ∙ ap zeros long in
    ap (λ (xs : List ℕ). xs ++ behind) wiped
    ∙ ap (λ (xs : List ℕ). zeros n ++ drop n xs) c.requires.zero ∙ front_wiped n LARGEST_PAYLOAD (omega (arith, c.requires.most))

pub returns-clause-drawn : goal.returns-clause-drawn
returns-clause-drawn g c =
    let n : ℕ = c.args.count in
    let long : length (take n c.args.work.now) ≡ n = ap (λ (xs : List ℕ). length (take n xs)) c.requires.zero ∙ length_front_of_zeros n LARGEST_PAYLOAD (omega (arith, c.requires.most)) in
    subst (λ (count : ℕ). Explained (g.N.Noise.left c.args.noise.now) (g.N.Noise.left c.put_draw.new.noise) (λ events left. (samples : List ℕ) → Counts c.args.health.now samples →
    IsDrawn {V = g.row.E.Denot} (drawn g.E.Engine.calls c.args.engine.now c.args.drbg.now c.args.additional.now count samples events) c.put_draw.new.engine c.put_draw.new.drbg
    c.put_draw.new.health c.put_draw.result left
    × OnOk c.put_draw.result (c.put_draw.new.port.outbox.now.bytes ≡ (drawn g.E.Engine.calls c.args.engine.now c.args.drbg.now c.args.additional.now count samples events).bytes)))
    long c.put_draw.ensures.drawn
