-- What the indicator tells of a cryptographic request.
use Rattle.std.proofs.Common.{◌≡◌, Bool, true, false, refl, sym, subst, ◌∙◌}
use Rattle.std.specs.Prelude.{◌↔◌, IsTrue, not}
use mathlib.Core.Bool.{beq}
use Rattle.module_frames.specs.LawfulSteps.{IsIndicated, is_approved_use, names_no_slot}
use Rattle.module_frames.specs.Requests.{RequestValue, CryptographicRequest, Cryptographic}
use Rattle.module_frames.specs.declared.head.ReplyHead.{ReplyHead}

alike : (told use' : Bool) → IsTrue (beq told use') → told ≡ use'
alike true true is = refl
alike true false is = cc
alike false true is = cc
alike false false is = refl

alike_back : (told use' : Bool) → told ≡ use' → IsTrue (beq told use')
alike_back true true is = refl
alike_back true false is = cc
alike_back false true is = cc
alike_back false false is = refl

-- a request that names no slot
pub slotless : (requested : RequestValue) (what : CryptographicRequest) (reply : ReplyHead) (use' : Bool) → requested ≡ Cryptographic what → names_no_slot what ≡ true → use' ≡ is_approved_use what reply.status
    → IsTrue (beq reply.approved use') ↔ IsIndicated requested reply
slotless requested what reply use' is none is_use =
    let P : RequestValue → Type 0 = λ r. IsTrue (beq reply.approved use') ↔ IsIndicated r reply in
    let here : P (Cryptographic what) = (
      λ told. record { approved = λ yes'. sym is_use ∙ sym (alike reply.approved use' told) ∙ yes'; exactly = λ _. alike reply.approved use' told ∙ is_use },
      λ indicated. alike_back reply.approved use' (indicated.exactly none ∙ sym is_use),
    ) in
    subst P (sym is) here

-- a request that names a slot: where it was an approved use, and where it wasn't
pub with_use : (requested : RequestValue) (what : CryptographicRequest) (reply : ReplyHead) (use' : Bool) → requested ≡ Cryptographic what → names_no_slot what ≡ false → use' ≡ is_approved_use what reply.status
    → use' ≡ true → IsTrue use' ↔ IsIndicated requested reply
with_use requested what reply use' is slots is_use done =
    let P : RequestValue → Type 0 = λ r. IsTrue use' ↔ IsIndicated r reply in
    let here : P (Cryptographic what) = (λ _. record { approved = λ _. sym is_use ∙ done; exactly = λ none. absurd (never none) }, λ _. done) in
    subst P (sym is) here
  where
    never : names_no_slot what ≡ true → ⊥
    never none = let both : true ≡ false = sym none ∙ slots in cc

not_told : (told : Bool) → IsTrue (not told) → told ≡ true → ⊥
not_told true is e = cc
not_told false is e = cc

told_not : (told : Bool) → (told ≡ true → ⊥) → IsTrue (not told)
told_not true never = absurd (never refl)
told_not false never = refl

pub without_use : (requested : RequestValue) (what : CryptographicRequest) (reply : ReplyHead) (use' : Bool) → requested ≡ Cryptographic what → names_no_slot what ≡ false → use' ≡ is_approved_use what reply.status
    → use' ≡ false → IsTrue (not reply.approved) ↔ IsIndicated requested reply
without_use requested what reply use' is slots is_use undone =
    let P : RequestValue → Type 0 = λ r. IsTrue (not reply.approved) ↔ IsIndicated r reply in
    let here : P (Cryptographic what) = (
      λ silent. record { approved = λ told. absurd (not_told reply.approved silent told); exactly = λ none. absurd (never none) },
      λ indicated. told_not reply.approved (λ told. both (indicated.approved told)),
    ) in
    subst P (sym is) here
  where
    never : names_no_slot what ≡ true → ⊥
    never none = let both : true ≡ false = sym none ∙ slots in cc

    both : is_approved_use what reply.status ≡ true → ⊥
    both used = let same : true ≡ false = sym used ∙ sym is_use ∙ undone in cc
