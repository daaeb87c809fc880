-- What was unwrapped, and what the check value says of it.
use Rattle.std.proofs.Common.{◌≡◌, ℕ, ◌+◌, ◌-◌, ◌%◌, ◌≤◌, List, ◌++◌, length, take, drop, replicate, sym, ap, ◌∙◌, subst, arith, zero, suc}
use Rattle.std.proofs.lemmas.List.{length-append, length-drop, length-take-le, take-append-drop}
use Rattle.bits_core.specs.ByteList.{IsBytes}
use Rattle.aes_core.specs.Key.{aes}
use Rattle.key_wrap.specs.Wrapping.{wrapped, kw, padded, IsKwPlain, IsKwpPlain, IsKwOf, IsKwpOf}
use Rattle.key_wrap.specs.InPlace.{padded_cipher, IsPaddedFrom}
use Rattle.bits_core.proofs.Bytes.{IsBytes-append, IsBytes-take, IsBytes-drop}
use Rattle.key_wrap.proofs.Cipher.{aes-long}
use Rattle.key_wrap.proofs.Injective.{wrapped-long, wrapped-injective, padded_cipher-long, padded_cipher-injective}
use Rattle.key_wrap.proofs.Padding.{padded-is, bytes-padded, kwp-padded_cipher, padded-injective}

-- ICV1 and a plaintext
abbrev pub checked : List ℕ → List ℕ
checked p = replicate 8 0xa6 ++ p

pub bytes-check : IsBytes (replicate 8 0xa6)
bytes-check zero = omega arith
bytes-check (suc zero) = omega arith
bytes-check (suc (suc zero)) = omega arith
bytes-check (suc (suc (suc zero))) = omega arith
bytes-check (suc (suc (suc (suc zero)))) = omega arith
bytes-check (suc (suc (suc (suc (suc zero))))) = omega arith
bytes-check (suc (suc (suc (suc (suc (suc zero)))))) = omega arith
bytes-check (suc (suc (suc (suc (suc (suc (suc zero))))))) = omega arith
bytes-check (suc (suc (suc (suc (suc (suc (suc (suc k)))))))) = omega arith

pub length-checked : (p : List ℕ) → length (checked p) ≡ length p + 8
length-checked p = length-append (replicate 8 0xa6) p ∙ omega arith

-- a list whose W is a wrapping is the check value and the plaintext
pub kw_checked : (key w mid p : List ℕ) → IsBytes key → IsBytes mid → length mid ≡ length w → w ≡ wrapped (aes key) mid → IsKwOf key w p → mid ≡ checked p
unfolding kw
kw_checked key w mid p hk hm same is h =
    let plain : IsKwPlain p = h.plain in
    let long : length (checked p) ≡ length p + 8 = length-checked p in
    let least : 24 ≤ length (checked p) = omega (arith, long, plain.least) in
    let whole : length (checked p) % 8 ≡ 0 = omega (arith, long, plain.whole) in
    let size : length w ≡ length (checked p) = ap (length {A = ℕ}) h.wrapping ∙ wrapped-long (aes key) (aes-long key) (checked p) least whole in
    sym (wrapped-injective key (checked p) mid hk (IsBytes-append (replicate 8 0xa6) p bytes-check plain.bytes) hm (same ∙ size) least whole (sym h.wrapping ∙ is))

pub kw_unique : (key w p q : List ℕ) → IsBytes key → IsKwOf key w p → IsKwOf key w q → p ≡ q
unfolding kw
kw_unique key w p q hk hp hq =
    let plain : IsKwPlain p = hp.plain in
    let long : length (checked p) ≡ length p + 8 = length-checked p in
    let size : length w ≡ length (checked p) =
    ap (length {A = ℕ}) hp.wrapping ∙ wrapped-long (aes key) (aes-long key) (checked p) (omega (arith, long, plain.least)) (omega (arith, long, plain.whole)) in
    ap (drop 8) (kw_checked key w (checked p) q hk (IsBytes-append (replicate 8 0xa6) p bytes-check plain.bytes) (sym size) hp.wrapping hq)

-- a list with the check value whose W is w shows the plaintext
pub kw_found : (key w mid p : List ℕ) → IsBytes mid → 24 ≤ length mid → length mid ≤ 72 → length mid % 8 ≡ 0 → w ≡ wrapped (aes key) mid
    → take 8 mid ≡ replicate 8 0xa6 → p ≡ drop 8 mid → IsKwOf key w p
unfolding kw
kw_found key w mid p hm least most whole is check shown =
    let long : length p ≡ length mid - 8 = ap (length {A = ℕ}) shown ∙ length-drop 8 mid in
    let parts : mid ≡ checked p = sym (take-append-drop 8 mid) ∙ ap (λ (l : List ℕ). l ++ drop 8 mid) check ∙ ap (λ (l : List ℕ). replicate 8 0xa6 ++ l) (sym shown) in
    record {
      plain = record {
        least = omega arith;
        most = omega arith;
        whole = omega arith;
        bytes = subst IsBytes (sym shown) (IsBytes-drop 8 mid hm);
      };
      wrapping = is ∙ ap (wrapped (aes key)) parts;
    }

-- a list that is enciphered to a wrapping is the padded plaintext
pub kwp_padded : (key w mid p : List ℕ) → IsBytes key → IsBytes mid → length mid ≡ length w → w ≡ padded_cipher (aes key) mid → IsKwpOf key w p → mid ≡ padded p
kwp_padded key w mid p hk hm same is h =
    let plain : IsKwpPlain p = h.plain in
    let e : w ≡ padded_cipher (aes key) (padded p) = h.wrapping ∙ kwp-padded_cipher (aes key) p plain.least in
    let size : length w ≡ length (padded p) = ap (length {A = ℕ}) e ∙ padded_cipher-long (aes key) (aes-long key) (padded p) (padded-is p plain) in
    sym (padded_cipher-injective key (padded p) mid hk (bytes-padded p plain.bytes) hm (same ∙ size) (padded-is p plain) (sym e ∙ is))

pub kwp_unique : (key w p q : List ℕ) → IsBytes key → IsKwpOf key w p → IsKwpOf key w q → p ≡ q
kwp_unique key w p q hk hp hq =
    let plain : IsKwpPlain p = hp.plain in
    let e : w ≡ padded_cipher (aes key) (padded p) = hp.wrapping ∙ kwp-padded_cipher (aes key) p plain.least in
    let size : length w ≡ length (padded p) = ap (length {A = ℕ}) e ∙ padded_cipher-long (aes key) (aes-long key) (padded p) (padded-is p plain) in
    padded-injective p q plain hq.plain (kwp_padded key w (padded p) q hk (bytes-padded p plain.bytes) (sym size) e hq)

-- a padded list that is enciphered to w shows the plaintext
pub kwp_found : (key w mid p : List ℕ) (size : ℕ) → IsBytes mid → length mid ≤ 72 → w ≡ padded_cipher (aes key) mid → IsPaddedFrom mid size
    → p ≡ take size (drop 8 mid) → IsKwpOf key w p
kwp_found key w mid p size hm most is h shown =
    let long : length p ≡ size = ap (length {A = ℕ}) shown ∙ length-take-le size (drop 8 mid) (omega (arith, h.fits, length-drop 8 mid)) in
    let plain : IsKwpPlain p = record {
      least = omega (arith, h.some);
      most = omega (arith, h.fits);
      bytes = subst IsBytes (sym shown) (IsBytes-take size (drop 8 mid) (IsBytes-drop 8 mid hm));
    } in
    record {
      plain = plain;
      wrapping = is ∙ ap (padded_cipher (aes key)) (h.whole ∙ ap padded (sym shown)) ∙ sym (kwp-padded_cipher (aes key) p plain.least);
    }
