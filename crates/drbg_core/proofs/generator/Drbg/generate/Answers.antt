use Rattle.std.proofs.Common.{◌≡◌, ℕ, List, [], ◌++◌, ◌+◌, ◌/◌, length, take, ap, ◌∙◌, arith}
use Rattle.std.proofs.lemmas.List.{append-nil}
use Rattle.hmac_core.specs.Blocks.{joined}
use Rattle.drbg_core.specs.Generator.{generate, drawn, primed, update, value_after}
use Rattle.drbg_core.specs.declared.generator.Drbg.{Drbg}
use Rattle.drbg_core.proofs.Requests.{counter-update, counter-primed}
use Rattle.drbg_core.proofs.generator.Drbg.generate.Goals as goal

pub overflow_add-self : goal.overflow_add-self
overflow_add-self c =
    let updated : c.update.new.self.counter ≡ c.prime.new.self.counter = ap (λ (g : Drbg). g.counter) c.update.ensures ∙ counter-update _ _ in
    let kept : c.prime.new.self.counter ≡ c.args.self.now.counter = ap (λ (g : Drbg). g.counter) c.prime.ensures ∙ counter-primed c.args.self.now c.args.additional.now in
    omega arith

pub returns-clause-bytes : goal.returns-clause-bytes
unfolding generate drawn
returns-clause-bytes c =
    let n = length c.args.out.now in
    c.fill.ensures.bytes ∙ ap (λ (g : Drbg). take n (joined (value_after g.k g.v) ((n + 31) / 32))) c.prime.ensures

pub returns-clause-after : goal.returns-clause-after
unfolding generate drawn
returns-clause-after c =
    let n = length c.args.out.now in
    let additional = c.args.additional.now in
    let request : Drbg = primed c.args.self.now additional in
    let drew : Drbg = record request { v = value_after request.k request.v ((n + 31) / 32) } in
    let bare : additional ++ [] ++ [] ≡ additional = append-nil (additional ++ []) ∙ append-nil additional in
    let last : c.update.new.self ≡ update drew additional =
    c.update.ensures
    ∙ ap (λ (v : List ℕ). let g : Drbg = record c.prime.new.self { v = v } in update g (additional ++ [] ++ [])) c.fill.ensures.last
    ∙ ap (λ (p : Drbg). let g : Drbg = record p { v = value_after p.k p.v ((n + 31) / 32) } in update g (additional ++ [] ++ [])) c.prime.ensures
    ∙ ap (update drew) bare in
    ap (λ (g : Drbg). let after : Drbg = record g { counter = g.counter + 1 } in after) last

pub returns-clause-counter : goal.returns-clause-counter
returns-clause-counter c =
    let updated : c.update.new.self.counter ≡ c.prime.new.self.counter = ap (λ (g : Drbg). g.counter) c.update.ensures ∙ counter-update _ _ in
    let kept : c.prime.new.self.counter ≡ c.args.self.now.counter = ap (λ (g : Drbg). g.counter) c.prime.ensures ∙ counter-primed c.args.self.now c.args.additional.now in
    omega arith
