use Rattle.std.proofs.Common.{◌≡◌, ℕ, length, refl, sym, ap, subst, ◌∙◌}
use Rattle.std.proofs.lemmas.List.{length-replicate}
use Rattle.outside.proofs.Explanations.{explained_both, explained_by}
use Rattle.line_serving.specs.Operating.{Operates}
use Rattle.backup_runs.specs.Restoring.{as_officer}
use Rattle.backup_runs.proofs.restoring.restore_and_operate.Goals as goal

pub returns-in-NotOfficer-clause-secrets : goal.returns-in-NotOfficer-clause-secrets
returns-in-NotOfficer-clause-secrets g c plain = explained_by _ _ c.become_officer.ensures (λ events left through s represents. tt)

pub returns-in-NotOfficer-clause-restored : goal.returns-in-NotOfficer-clause-restored
returns-in-NotOfficer-clause-restored g c =
    explained_by _ _ c.become_officer.ensures (λ events left through s represents.
    let did = through s represents in
    let filled = c.in-NotOfficer.ensures (as_officer g.E.Engine.calls s events).machine did.0 in
    (filled.0, record { represents = filled.1; noise_left = sym did.1; untouched = refl }))

pub returns-in-Refused-clause-secrets : goal.returns-in-Refused-clause-secrets
returns-in-Refused-clause-secrets g c plain = explained_by _ _ c.become_officer.ensures (λ events left through s represents. tt)

pub returns-in-Refused-clause-restored : goal.returns-in-Refused-clause-restored
returns-in-Refused-clause-restored g c =
    explained_by _ _ c.become_officer.ensures (λ events left through s represents.
    let did = through s represents in
    let filled = c.in-Refused.ensures (as_officer g.E.Engine.calls s events).machine did.0 in
    (filled.0, filled.1, record { represents = filled.2; noise_left = sym did.1; untouched = refl }))

pub returns-in-Done-clause-restored : goal.returns-in-Done-clause-restored
returns-in-Done-clause-restored g c =
    let long : length c.wipe_served.new.chunk ≡ length c.args.chunk.now = ap length c.wipe_served.ensures ∙ length-replicate {A = ℕ} (length c.args.chunk.now) 0 in
    explained_both _ _ _ c.become_officer.ensures c.operate.ensures.served (λ events mid left through operates s represents.
    let did = through s represents in
    let filled = c.in-Done.ensures (as_officer g.E.Engine.calls s events).machine did.0 in
    let Over : ℕ → Type 0 = λ n. Operates g.E.Engine.calls c.operate.result n filled.1.0 c.operate.new.module
    (record { left = g.S.Source.left c.args.lines.now; gained = g.K.Sink.gained c.args.replies.now })
    (record { left = g.S.Source.left c.operate.new.lines; gained = g.K.Sink.gained c.operate.new.replies }) mid left in
    (filled.1.0, mid, record { officer = filled.0; restored = filled.1.1; noise_left = sym did.1 }, subst Over long (operates filled.1.0 filled.1.2)))

pub returns-in-Done-clause-secrets : goal.returns-in-Done-clause-secrets
returns-in-Done-clause-secrets g c plain =
    explained_both _ _ _ c.become_officer.ensures (c.operate.ensures.secrets plain) (λ events mid left through keeps s represents.
    let did = through s represents in
    let filled = c.in-Done.ensures (as_officer g.E.Engine.calls s events).machine did.0 in
    (filled.1.0, mid, record { officer = filled.0; restored = filled.1.1; noise_left = sym did.1 }, keeps filled.1.0 filled.1.2))

pub returns-in-Done-clause-untouched : goal.returns-in-Done-clause-untouched
returns-in-Done-clause-untouched g c never = absurd (never c.operate.result refl)
