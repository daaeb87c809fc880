use Rattle.std.proofs.Common.{◌≡◌, ◌↔◌, ℕ, Bool, IsTrue, List, length, take, sym, ap, ◌∙◌}
use Rattle.aes_core.specs.Key.{aes}
use Rattle.aes_core.specs.Gctr.{gctr, inc32}
use Rattle.gcm_mode.specs.Gcm.{full_tag, gcm_encrypt, gcm_tag, gcm_text, text_counter}
use Rattle.aes_spec.proofs.KeyStream.{gctr-gctr}
use Rattle.gcm_mode.proofs.mode.open.Goals as goal

-- a comparison with the leftmost part of a list, as one with that of an equal list
compared : (answer : Bool) (tag full whole : List ℕ) → IsTrue answer ↔ (take (length tag) full ≡ tag) → full ≡ whole → IsTrue answer ↔ (tag ≡ take (length tag) whole)
compared answer tag full whole same e =
    let part : take (length tag) full ≡ take (length tag) whole = ap (take (length tag)) e in
    ((λ t. sym (same.0 t) ∙ part), (λ equal. same.1 (part ∙ sym equal)))

pub returns-then-authentic-clause-answer : goal.returns-then-authentic-clause-answer
unfolding gcm_tag
returns-then-authentic-clause-answer c key f =
    compared c.same-authentic.result c.args.tag.now c.tag_of-full.result (gcm_tag key c.args.iv.now c.args.aad.now c.args.text.now) c.same-authentic.ensures
    (c.tag_of-full.ensures key f ∙ ap (λ (counter : List ℕ). full_tag key counter c.args.aad.now c.args.text.now) (c.first_counter-counter.ensures key f))

pub returns-then-authentic-clause-decrypted : goal.returns-then-authentic-clause-decrypted
unfolding gcm_text text_counter
returns-then-authentic-clause-decrypted c key f t =
    c.gctr.ensures key f.schedule
    ∙ ap (λ (start : List ℕ). gctr (aes key) start c.args.text.now) (c.next_counter.ensures ∙ ap inc32 (c.first_counter-counter.ensures key f))

pub returns-then-authentic-clause-opened : goal.returns-then-authentic-clause-opened
unfolding gcm_encrypt gcm_text
returns-then-authentic-clause-opened c key f t =
    ap (gctr (aes key) (text_counter key c.args.iv.now)) (returns-then-authentic-clause-decrypted c key f t)
    ∙ gctr-gctr (aes key) (text_counter key c.args.iv.now) c.args.text.now

pub returns-else-authentic-clause-answer : goal.returns-else-authentic-clause-answer
unfolding gcm_tag
returns-else-authentic-clause-answer c key f =
    compared c.same-authentic.result c.args.tag.now c.tag_of-full.result (gcm_tag key c.args.iv.now c.args.aad.now c.args.text.now) c.same-authentic.ensures
    (c.tag_of-full.ensures key f ∙ ap (λ (counter : List ℕ). full_tag key counter c.args.aad.now c.args.text.now) (c.first_counter-counter.ensures key f))
