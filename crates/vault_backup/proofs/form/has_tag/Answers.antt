use Rattle.std.proofs.Common.{◌≡◌, ◌-◌, [], ℕ, List, length, take, drop, ap, sym, ◌∙◌}
use Rattle.bits_core.specs.declared.algorithm.Alg.TheVariants.{Sha256}
use Rattle.hmac_core.specs.Hmac.{hmac}
use Rattle.hmac_core.proofs.Lengths.{take-hmac256}
use Rattle.vault_backup.proofs.form.has_tag.Goals as goal

pub returns : goal.returns
returns c =
    let mac = c.args.mac.now in
    let signed : List ℕ = take (length c.args.bytes.now - 32) c.args.bytes.now in
    let tag : List ℕ = drop (length c.args.bytes.now - 32) c.args.bytes.now in
    let front : c.split_at.result.0.now ≡ signed = c.split_at.ensures.front in
    let back : c.split_at.result.1.now ≡ tag = c.split_at.ensures.back in
    let made : c.finish_leftmost.result ≡ hmac Sha256 mac signed =
    c.finish_leftmost.ensures Sha256 mac _ (c.update.ensures Sha256 mac [] c.new-stream.ensures)
    ∙ ap (λ (text : List ℕ). take 32 (hmac Sha256 mac text)) front ∙ take-hmac256 mac signed in
    (λ yes. sym back ∙ c.same.ensures.0 yes ∙ made, λ e. c.same.ensures.1 (back ∙ e ∙ sym made))
