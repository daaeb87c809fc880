-- The lengths of wrappings, and that they are bytes, for the crates above.
use Rattle.std.proofs.Common.{◌≡◌, ℕ, ◌+◌, ◌-◌, ◌*◌, ◌/◌, ◌%◌, ◌≤◌, List, length, replicate, sym, ap, ◌∙◌, subst, arith, inl, inr}
use Rattle.std.proofs.lemmas.Bool.{cases_eq}
use Rattle.bits_core.specs.ByteList.{IsBytes}
use Rattle.bits_core.proofs.Bytes.{IsBytes-append}
use Rattle.aes_core.specs.Key.{aes, aes_inverse}
use Rattle.key_wrap.specs.Wrapping.{wrapped, padded, kw, kwp, IsKwpPlain}
use Rattle.key_wrap.specs.InPlace.{padded_cipher, IsPadded}
use Rattle.key_wrap.proofs.Cipher.{aes-long, aes-state, aes_inverses}
use Rattle.key_wrap.proofs.Injective.{wrapped-long, padded_cipher-long, padded_cipher_one, padded_cipher_more}
use Rattle.key_wrap.proofs.Padding.{length-padded, padded-is, bytes-padded, kwp-padded_cipher}
use Rattle.key_wrap.proofs.Checked.{checked, length-checked, bytes-check}
use Rattle.key_wrap.proofs.Undone.{HasRegisters, steps-keep}
use Rattle.key_wrap.proofs.Wraps.{wrapped-steps}

pub length-kw : (key p : List ℕ) → 16 ≤ length p → length p % 8 ≡ 0 → length (kw (aes key) p) ≡ length p + 8
unfolding kw
length-kw key p least whole =
    let long : length (checked p) ≡ length p + 8 = length-checked p in
    wrapped-long (aes key) (aes-long key) (checked p) (omega arith) (omega arith) ∙ long

pub length-kwp : (key p : List ℕ) → 1 ≤ length p → length p ≤ 64 → length (kwp (aes key) p) ≡ 8 * ((length p + 7) / 8) + 8
length-kwp key p least most =
    let long : length (padded p) ≡ 8 * ((length p + 7) / 8) + 8 = length-padded p in
    let whole : IsPadded (padded p) = record { least = omega arith; most = omega arith; whole = omega arith } in
    ap (length {A = ℕ}) (kwp-padded_cipher (aes key) p least) ∙ padded_cipher-long (aes key) (aes-long key) (padded p) whole ∙ long

bytes-wrapped : (key s : List ℕ) → IsBytes key → IsBytes s → 24 ≤ length s → length s % 8 ≡ 0 → IsBytes (wrapped (aes key) s)
bytes-wrapped key s hk hs least whole =
    let m : ℕ = length s / 8 - 1 in
    let h : HasRegisters s m = record { bytes = hs; some = omega arith; within = omega arith } in
    subst IsBytes (sym (wrapped-steps (aes key) (aes-long key) s least whole)) (steps-keep (aes key) (aes_inverse key) (aes_inverses key hk) m (6 * m) s h).bytes

pub bytes-kw : (key p : List ℕ) → IsBytes key → IsBytes p → 16 ≤ length p → length p % 8 ≡ 0 → IsBytes (kw (aes key) p)
unfolding kw
bytes-kw key p hk hp least whole =
    let long : length (checked p) ≡ length p + 8 = length-checked p in
    bytes-wrapped key (checked p) hk (IsBytes-append (replicate 8 0xa6) p bytes-check hp) (omega arith) (omega arith)

bytes-padded_cipher : (key s : List ℕ) → IsBytes key → IsBytes s → IsPadded s → IsBytes (padded_cipher (aes key) s)
bytes-padded_cipher key s hk hs h =
    elim (cases_eq (length s) 16) [
      | inl one ↦ subst IsBytes (sym (padded_cipher_one (aes key) s one)) (aes-state key s hk (record { long = one; small = hs })).small
      | inr more ↦ subst IsBytes (sym (padded_cipher_more (aes key) s more)) (bytes-wrapped key s hk hs (omega (arith, h.least, h.whole, more)) h.whole)
    ]

pub bytes-kwp : (key p : List ℕ) → IsBytes key → IsKwpPlain p → IsBytes (kwp (aes key) p)
bytes-kwp key p hk h =
    subst IsBytes (sym (kwp-padded_cipher (aes key) p h.least)) (bytes-padded_cipher key (padded p) hk (bytes-padded p h.bytes) (padded-is p h))
