use Rattle.std.proofs.Common.{ℕ, List, ap, ◌∙◌}
use Rattle.aes_core.specs.Key.{aes}
use Rattle.aes_core.specs.Gctr.{gctr, inc32}
use Rattle.gcm_mode.specs.Gcm.{full_tag, gcm_encrypt, gcm_tag, text_counter}
use Rattle.gcm_mode.proofs.mode.seal.Goals as goal

pub returns-clause-ciphertext : goal.returns-clause-ciphertext
unfolding gcm_encrypt text_counter
returns-clause-ciphertext c key f =
    c.gctr.ensures key f.schedule
    ∙ ap (λ (start : List ℕ). gctr (aes key) start c.args.text.now) (c.next_counter.ensures ∙ ap inc32 (c.first_counter-counter.ensures key f))

pub returns-clause-tag : goal.returns-clause-tag
unfolding gcm_encrypt gcm_tag
returns-clause-tag c key f =
    c.tag_of.ensures key f
    ∙ ap (λ (counter : List ℕ). full_tag key counter c.args.aad.now c.gctr.new.text) (c.first_counter-counter.ensures key f)
    ∙ ap (gcm_tag key c.args.iv.now c.args.aad.now) (returns-clause-ciphertext c key f)
