-- W and KWP's cipher keep the length and join no two lists.
use Rattle.std.proofs.Common.{◌≡◌, ℕ, ◌-◌, ◌*◌, ◌/◌, ◌%◌, ◌≤◌, Bool, cond, List, length, sym, ap, ◌∙◌, arith, inl, inr, eq-eqb}
use Rattle.std.proofs.lemmas.Bool.{cases_eq, ne_eqb}
use Rattle.bits_core.specs.ByteList.{IsBytes}
use Rattle.aes_core.specs.Aes.{IsState}
use Rattle.aes_core.specs.Key.{aes, aes_inverse}
use Rattle.key_wrap.specs.Wrapping.{wrapped}
use Rattle.key_wrap.specs.InPlace.{steps, padded_cipher, IsPadded}
use Rattle.key_wrap.proofs.Undone.{Inverses, HasRegisters, unsteps, unsteps-steps}
use Rattle.key_wrap.proofs.Wraps.{wrapped-steps, steps-long}
use Rattle.key_wrap.proofs.Cipher.{aes-long, aes_inverses}

pub wrapped-long : (enciphered : List ℕ → List ℕ) → ((b : List ℕ) → length (enciphered b) ≡ 16) → (s : List ℕ) → 24 ≤ length s → length s % 8 ≡ 0
    → length (wrapped enciphered s) ≡ length s
wrapped-long enciphered blocks s least whole =
    let m : ℕ = length s / 8 - 1 in
    ap (length {A = ℕ}) (wrapped-steps enciphered blocks s least whole)
    ∙ steps-long enciphered blocks m s (omega arith) (omega arith) (6 * m)

pub wrapped-injective : (key s u : List ℕ) → IsBytes key → IsBytes s → IsBytes u → length u ≡ length s → 24 ≤ length s → length s % 8 ≡ 0
    → wrapped (aes key) s ≡ wrapped (aes key) u → s ≡ u
wrapped-injective key s u hk hs hu same least whole e =
    let m : ℕ = length s / 8 - 1 in
    let n : ℕ = 6 * m in
    let inv : Inverses (aes key) (aes_inverse key) = aes_inverses key hk in
    let rs : HasRegisters s m = record { bytes = hs; some = omega arith; within = omega arith } in
    let ru : HasRegisters u m = record { bytes = hu; some = omega arith; within = omega arith } in
    sym (unsteps-steps (aes key) (aes_inverse key) inv m n s rs)
    ∙ ap (unsteps (aes_inverse key) m n)
    (sym (wrapped-steps (aes key) (aes-long key) s least whole) ∙ e
    ∙ wrapped-steps (aes key) (aes-long key) u (omega arith) (omega arith)
    ∙ ap (λ (k : ℕ). steps (aes key) (k / 8 - 1) (6 * (k / 8 - 1)) u) same)
    ∙ unsteps-steps (aes key) (aes_inverse key) inv m n u ru

pub padded_cipher_one : (enciphered : List ℕ → List ℕ) (s : List ℕ) → length s ≡ 16 → padded_cipher enciphered s ≡ enciphered s
unfolding padded_cipher
padded_cipher_one enciphered s e = ap (λ (b : Bool). cond b (enciphered s) (wrapped enciphered s)) (eq-eqb (length s) 16 e)

pub padded_cipher_more : (enciphered : List ℕ → List ℕ) (s : List ℕ) → (length s ≡ 16 → ⊥) → padded_cipher enciphered s ≡ wrapped enciphered s
unfolding padded_cipher
padded_cipher_more enciphered s ne = ap (λ (b : Bool). cond b (enciphered s) (wrapped enciphered s)) (ne_eqb (length s) 16 ne)

pub padded_cipher-long : (enciphered : List ℕ → List ℕ) → ((b : List ℕ) → length (enciphered b) ≡ 16) → (s : List ℕ) → IsPadded s → length (padded_cipher enciphered s) ≡ length s
padded_cipher-long enciphered blocks s h =
    elim (cases_eq (length s) 16) [
      | inl one ↦ ap (length {A = ℕ}) (padded_cipher_one enciphered s one) ∙ blocks s ∙ sym one
      | inr more ↦ ap (length {A = ℕ}) (padded_cipher_more enciphered s more) ∙ wrapped-long enciphered blocks s (omega (arith, h.least, h.whole, more)) h.whole
    ]

pub padded_cipher-injective : (key s u : List ℕ) → IsBytes key → IsBytes s → IsBytes u → length u ≡ length s → IsPadded s
    → padded_cipher (aes key) s ≡ padded_cipher (aes key) u → s ≡ u
padded_cipher-injective key s u hk hs hu same h e =
    elim (cases_eq (length s) 16) [
      | inl one ↦
          let inv : Inverses (aes key) (aes_inverse key) = aes_inverses key hk in
          let ss : IsState s = record { long = one; small = hs } in
          let su : IsState u = record { long = same ∙ one; small = hu } in
          sym (inv.undone s ss)
          ∙ ap (aes_inverse key) (sym (padded_cipher_one (aes key) s one) ∙ e ∙ padded_cipher_one (aes key) u (same ∙ one))
          ∙ inv.undone u su
      | inr more ↦
          wrapped-injective key s u hk hs hu same (omega (arith, h.least, h.whole, more)) h.whole
          (sym (padded_cipher_more (aes key) s more) ∙ e ∙ padded_cipher_more (aes key) u (λ k. more (sym same ∙ k)))
    ]
