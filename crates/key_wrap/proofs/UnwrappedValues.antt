-- The functions of unwrapping have a value exactly where a plaintext has the wrapping.
use Rattle.std.proofs.Common.{◌≡◌, ℕ, ◌+◌, ◌-◌, ◌*◌, ◌/◌, ◌≤◌, ◌⊎◌, Bool, true, false, ◌&&◌, cond, List, [], ◌∷◌, ◌++◌, length, take, drop, replicate, Option, Some, None, refl, sym, ap, ◌∙◌, subst, arith, inl, inr, eq-eqb}
use Rattle.std.specs.Prelude.{nat_le, option_map, unwrap_or, is_some, ◌↔◌}
use Rattle.std.specs.Bool.{Decides}
use Rattle.std.specs.Str.{bytes_eq}
use Rattle.std.specs.Int.{w32, to_be_bytes, from_be_bytes}
use Rattle.std.proofs.lemmas.Bool.{true≢false, false≢true, cases_eq, ne_eqb}
use Rattle.std.proofs.lemmas.Bool.Decides.{leb_tells}
use Rattle.std.proofs.lemmas.Nat.{be_bytes_4, from_be_bytes-to_be_bytes_4}
use Rattle.std.proofs.lemmas.Option.{same_Some}
use Rattle.std.proofs.lemmas.Slice.Eq.{bytes_eq-Decides}
use Rattle.std.proofs.lemmas.List.{length-drop, length-take-le, take-append-drop}
use Rattle.bits_core.specs.ByteList.{IsBytes, zeros, zero_padded}
use Rattle.bits_core.proofs.Bytes.{IsBytes-take, IsBytes-drop}
use Rattle.aes_core.specs.Aes.{IsState}
use Rattle.aes_core.specs.Key.{aes, aes_inverse}
use Rattle.aes_spec.proofs.EncryptionUndoes.{aes-aes_inverse}
use Rattle.key_wrap.specs.Wrapping.{padded, IsKwOf, IsKwpOf}
use Rattle.key_wrap.specs.Unwrapping.{unwrapped, unkw, padded_text, unpadded, unkwp, ShowsValue}
use Rattle.key_wrap.specs.InPlace.{padded_cipher, IsSemiblocks, IsPadded, IsPaddedFrom}
use Rattle.key_wrap.proofs.Injective.{padded_cipher_one, padded_cipher_more}
use Rattle.key_wrap.proofs.InverseStates.{aes_inverse-state}
use Rattle.key_wrap.proofs.Padding.{padding, length-padded, rest_is, is_padded}
use Rattle.key_wrap.proofs.Checked.{kw_checked, kw_found, kw_unique, kwp_padded, kwp_found, kwp_unique}
use Rattle.key_wrap.proofs.Unwrapped.{IsUnwrapped, unwrapped_is}

-- the one list of which P holds
record HasValue (value : Option (List ℕ)) (P : List ℕ → Type 0) : Type 0 where
  pub one : List ℕ
  pub is : value ≡ Some one
  pub holds : P one
  pub only : (other : List ℕ) → P other → one ≡ other

record HasNone (value : Option (List ℕ)) (P : List ℕ → Type 0) : Type 0 where
  pub is : value ≡ None
  pub no_list : (other : List ℕ) → P other → ⊥

no_some : (value : Option (List ℕ)) (one : List ℕ) → value ≡ None → value ≡ Some one → ⊥
no_some value one e f = true≢false (ap (is_some {T = List ℕ}) (sym f ∙ e))

some_iff : (value : Option (List ℕ)) (P : List ℕ → Type 0) → HasValue value P ⊎ HasNone value P → (p : List ℕ) → (value ≡ Some p) ↔ P p
some_iff value P (inl h) p = (
  λ e. subst P (same_Some h.one p (sym h.is ∙ e)) h.holds,
  λ holds. h.is ∙ ap (λ (l : List ℕ). Some l) (h.only p holds),
)
some_iff value P (inr h) p = (λ e. absurd (no_some value p h.is e), λ holds. absurd (h.no_list p holds))

none_iff : (value : Option (List ℕ)) (P : List ℕ → Type 0) → HasValue value P ⊎ HasNone value P → (value ≡ None) ↔ ((p : List ℕ) → ¬ (P p))
none_iff value P (inl h) = (λ e. absurd (no_some value h.one e h.is), λ none. absurd (none h.one h.holds))
none_iff value P (inr h) = (λ e. h.no_list, λ none. h.is)

kw_value : (key c : List ℕ) → IsBytes key → IsBytes c → IsSemiblocks c → HasValue (unkw key c) (IsKwOf key c) ⊎ HasNone (unkw key c) (IsKwOf key c)
unfolding unkw
kw_value key c hk hc h = by_check (bytes_eq (take 8 s) (replicate 8 0xa6)) (bytes_eq-Decides (take 8 s) (replicate 8 0xa6))
  where
    s : List ℕ
    s = unwrapped (aes_inverse key) c

    u : IsUnwrapped key c s
    u = unwrapped_is key c hk hc h.least h.whole

    by_check : (right : Bool) → Decides right (take 8 s ≡ replicate 8 0xa6)
        → HasValue (cond right (Some (drop 8 s)) None) (IsKwOf key c) ⊎ HasNone (cond right (Some (drop 8 s)) None) (IsKwOf key c)
    by_check true d =
        let found : IsKwOf key c (drop 8 s) =
        kw_found key c s (drop 8 s) u.bytes (omega (arith, u.same, h.least)) (omega (arith, u.same, h.most)) (omega (arith, u.same, h.whole)) u.is (d.0 refl) refl in
        inl (record { one = drop 8 s; is = refl; holds = found; only = λ other is. kw_unique key c (drop 8 s) other hk found is })
    by_check false d =
        inr (record {
          is = refl;
          no_list = λ other is. false≢true (d.1 (ap (take 8) (kw_checked key c s other hk u.bytes u.same u.is is)));
        })

-- what KWP's cipher is undone to
record IsOpened (key c s : List ℕ) : Type 0 where
  pub same : length s ≡ length c
  pub bytes : IsBytes s
  pub is : c ≡ padded_cipher (aes key) s

padded_text_one : (deciphered : List ℕ → List ℕ) (c : List ℕ) → length c ≡ 16 → padded_text deciphered c ≡ deciphered c
unfolding padded_text
padded_text_one deciphered c e = ap (λ (b : Bool). cond b (deciphered c) (unwrapped deciphered c)) (eq-eqb (length c) 16 e)

padded_text_more : (deciphered : List ℕ → List ℕ) (c : List ℕ) → (length c ≡ 16 → ⊥) → padded_text deciphered c ≡ unwrapped deciphered c
unfolding padded_text
padded_text_more deciphered c ne = ap (λ (b : Bool). cond b (deciphered c) (unwrapped deciphered c)) (ne_eqb (length c) 16 ne)

opened_is : (key c : List ℕ) → IsBytes key → IsBytes c → IsPadded c → IsOpened key c (padded_text (aes_inverse key) c)
opened_is key c hk hc h =
    elim (cases_eq (length c) 16) [
      | inl one ↦
          let s : List ℕ = aes_inverse key c in
          let state : IsState s = aes_inverse-state key c hk (record { long = one; small = hc }) in
          subst (IsOpened key c) (sym (padded_text_one (aes_inverse key) c one))
          (record {
            same = state.long ∙ sym one;
            bytes = state.small;
            is = sym (aes-aes_inverse key c hk (record { long = one; small = hc })) ∙ sym (padded_cipher_one (aes key) s state.long);
          })
      | inr more ↦
          let u : IsUnwrapped key c (unwrapped (aes_inverse key) c) = unwrapped_is key c hk hc (omega (arith, h.least, h.whole, more)) h.whole in
          subst (IsOpened key c) (sym (padded_text_more (aes_inverse key) c more))
          (record {
            same = u.same;
            bytes = u.bytes;
            is = u.is ∙ sym (padded_cipher_more (aes key) (unwrapped (aes_inverse key) c) (λ e. more (sym u.same ∙ e)));
          })
    ]

decides_leb : (a b : ℕ) → Decides (nat_le a b) (a ≤ b)
decides_leb a b =
    elim (leb_tells a b) [
      | inl is ↦ (λ e. is.1, λ h. is.0)
      | inr not_so ↦ (λ e. absurd (true≢false (sym e ∙ not_so.0)), λ h. absurd (omega (arith, h, not_so.1)))
    ]

-- the four tests of a padded text
record HasTests (s : List ℕ) (size : ℕ) : Type 0 where
  pub check : take 4 s ≡ 0xa6 ∷ 0x59 ∷ 0x59 ∷ 0xa6 ∷ []
  pub fits : size ≤ length s - 8
  pub few : length s - 8 ≤ size + 7
  pub rest : drop (size + 8) s ≡ zeros (length s - 8 - size)

abbrev size_in : List ℕ → ℕ
size_in s = from_be_bytes w32 (take 4 (drop 4 s))

tests_of : (s p : List ℕ) → length p ≤ 64 → s ≡ padded p → HasTests s (size_in s)
tests_of s p most e =
    let same : size_in s ≡ length p = ap size_in e ∙ from_be_bytes-to_be_bytes_4 (length p) (omega arith) in
    let long : length s ≡ 8 * ((length p + 7) / 8) + 8 = ap (length {A = ℕ}) e ∙ length-padded p in
    record {
      check = ap (take 4) e;
      fits = omega (arith, same, long);
      few = omega (arith, same, long);
      rest = rest_is s p (size_in s) e same ∙ ap zeros (let k : padding (size_in s) ≡ length s - 8 - size_in s = omega (arith, same, long) in k);
    }

from_tests : (s : List ℕ) → IsBytes s → IsPadded s → HasTests s (size_in s) → IsPaddedFrom s (size_in s)
from_tests s hs h t =
    let four : List ℕ = take 4 (drop 4 s) in
    let number : to_be_bytes w32 (size_in s) ≡ four =
    be_bytes_4 four (size_in s) (length-take-le 4 (drop 4 s) (omega (arith, h.least, length-drop 4 s))) (IsBytes-take 4 (drop 4 s) (IsBytes-drop 4 s hs)) refl in
    let fits : size_in s + 8 ≤ length s = omega (arith, t.fits, h.least) in
    record {
      some = omega (arith, t.few, h.least);
      fits = fits;
      whole = is_padded s (size_in s) h.least h.whole fits (omega (arith, t.few)) t.check number t.rest;
    }

-- the plaintext, where the tests hold
unpadded_by : (s : List ℕ) (P : List ℕ → Type 0) (shown : List ℕ) (a b c d : Bool) (size : ℕ)
    → Decides a (take 4 s ≡ 0xa6 ∷ 0x59 ∷ 0x59 ∷ 0xa6 ∷ []) → Decides b (size ≤ length s - 8) → Decides c (length s - 8 ≤ size + 7)
    → Decides d (drop (size + 8) s ≡ zeros (length s - 8 - size))
    → (HasTests s size → P shown × ((other : List ℕ) → P other → shown ≡ other)) → ((other : List ℕ) → P other → HasTests s size)
    → HasValue (cond (a && b && c && d) (Some shown) None) P ⊎ HasNone (cond (a && b && c && d) (Some shown) None) P
unpadded_by s P shown true true true true size da db dc dd holds tests =
    let all = holds (record { check = da.0 refl; fits = db.0 refl; few = dc.0 refl; rest = dd.0 refl }) in
    inl (record { one = shown; is = refl; holds = all.0; only = all.1 })
unpadded_by s P shown false b c d size da db dc dd holds tests = inr (record { is = refl; no_list = λ other is. false≢true (da.1 (tests other is).check) })
unpadded_by s P shown true false c d size da db dc dd holds tests = inr (record { is = refl; no_list = λ other is. false≢true (db.1 (tests other is).fits) })
unpadded_by s P shown true true false d size da db dc dd holds tests = inr (record { is = refl; no_list = λ other is. false≢true (dc.1 (tests other is).few) })
unpadded_by s P shown true true true false size da db dc dd holds tests = inr (record { is = refl; no_list = λ other is. false≢true (dd.1 (tests other is).rest) })

kwp_value : (key c : List ℕ) → IsBytes key → IsBytes c → IsPadded c → HasValue (unkwp key c) (IsKwpOf key c) ⊎ HasNone (unkwp key c) (IsKwpOf key c)
unfolding unkwp unpadded
kwp_value key c hk hc h =
    let s : List ℕ = padded_text (aes_inverse key) c in
    let u : IsOpened key c s = opened_is key c hk hc h in
    let size : ℕ = size_in s in
    let room : ℕ = length s - 8 in
    let is_whole : IsPadded s = record { least = omega (arith, u.same, h.least); most = omega (arith, u.same, h.most); whole = omega (arith, u.same, h.whole) } in
    unpadded_by s (IsKwpOf key c) (take size (drop 8 s))
    (bytes_eq (take 4 s) (0xa6 ∷ 0x59 ∷ 0x59 ∷ 0xa6 ∷ [])) (nat_le size room) (nat_le room (size + 7)) (bytes_eq (drop (size + 8) s) (zeros (room - size))) size
    (bytes_eq-Decides (take 4 s) (0xa6 ∷ 0x59 ∷ 0x59 ∷ 0xa6 ∷ [])) (decides_leb size room) (decides_leb room (size + 7)) (bytes_eq-Decides (drop (size + 8) s) (zeros (room - size)))
    (λ t.
    let found : IsKwpOf key c (take size (drop 8 s)) =
    kwp_found key c s (take size (drop 8 s)) size u.bytes is_whole.most u.is (from_tests s u.bytes is_whole t) refl in
    (found, λ other is. kwp_unique key c (take size (drop 8 s)) other hk found is))
    (λ other is. tests_of s other is.plain.most (kwp_padded key c s other hk u.bytes u.same u.is is))

pub unkw_some : (key c p : List ℕ) → IsBytes key → IsBytes c → IsSemiblocks c → (unkw key c ≡ Some p) ↔ IsKwOf key c p
unkw_some key c p hk hc h = some_iff (unkw key c) (IsKwOf key c) (kw_value key c hk hc h) p

pub unkw_none : (key c : List ℕ) → IsBytes key → IsBytes c → IsSemiblocks c → (unkw key c ≡ None) ↔ ((p : List ℕ) → ¬ (IsKwOf key c p))
unkw_none key c hk hc h = none_iff (unkw key c) (IsKwOf key c) (kw_value key c hk hc h)

pub unkwp_some : (key c p : List ℕ) → IsBytes key → IsBytes c → IsPadded c → (unkwp key c ≡ Some p) ↔ IsKwpOf key c p
unkwp_some key c p hk hc h = some_iff (unkwp key c) (IsKwpOf key c) (kwp_value key c hk hc h) p

pub unkwp_none : (key c : List ℕ) → IsBytes key → IsBytes c → IsPadded c → (unkwp key c ≡ None) ↔ ((p : List ℕ) → ¬ (IsKwpOf key c p))
unkwp_none key c hk hc h = none_iff (unkwp key c) (IsKwpOf key c) (kwp_value key c hk hc h)

pub shows_some : (value : Option (List ℕ)) (buf : List ℕ) (size : ℕ) → value ≡ Some (take size buf) → length buf ≡ 80 → size ≤ 80
    → drop size buf ≡ zeros (80 - size) → ShowsValue value (Some size) buf
shows_some value buf size is eighty fits rest =
    let long : length (take size buf) ≡ size = length-take-le size buf (omega arith) in
    record {
      counted = ap (λ (n : ℕ). Some n) (sym long) ∙ ap (option_map (length {A = ℕ})) (sym is);
      shown =
          sym (take-append-drop size buf)
          ∙ ap (λ (l : List ℕ). take size buf ++ l) (rest ∙ ap (λ (n : ℕ). zeros (80 - n)) (sym long))
          ∙ ap (λ (v : Option (List ℕ)). zero_padded 80 (unwrap_or v [])) (sym is);
    }

pub shows_none : (value : Option (List ℕ)) (buf : List ℕ) → value ≡ None → buf ≡ zeros 80 → ShowsValue value None buf
shows_none value buf is zero = record {
  counted = ap (option_map (length {A = ℕ})) (sym is);
  shown = zero ∙ ap (λ (v : Option (List ℕ)). zero_padded 80 (unwrap_or v [])) (sym is);
}
