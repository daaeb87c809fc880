-- What the tests of lengths say.
use Rattle.std.proofs.Common.{◌≡◌, ◌≤◌, ◌&&◌, ◌==◌, ◌%◌, nat_le, ℕ, Bool, true, false, List, length, IsTrue, refl, arith}
use Rattle.std.proofs.lemmas.Bool.{eqb-true}
use Rattle.std.proofs.lemmas.Bool.Decides.{nat_tests}
use Rattle.bits_core.specs.Parameters.{is_aes_length}
use Rattle.engine_core.specs.Inputs.{IsWrappable, IsUnwrappable}
use Rattle.gcm_mode.specs.Gcm.{IsIv, IsSealable, IsTagLength}
use Rattle.vector_suite.specs.Lengths.{is_within, is_wrappable, is_unwrappable, are_sealable, are_derivable}

and_left : (a b : Bool) → IsTrue (a && b) → IsTrue a
and_left true b h = refl
and_left false b h = h

and_right : (a b : Bool) → IsTrue (a && b) → IsTrue b
and_right true b h = h
and_right false b h = absurd (cc h)

pub within : (low high n : ℕ) → IsTrue (is_within low high n) → (low ≤ n) × (n ≤ high)
within low high n h = (grind (arith, nat_tests), grind (arith, nat_tests))

pub below : (n high : ℕ) → IsTrue (nat_le n high) → n ≤ high
below n high h = grind (arith, nat_tests)

-- a key, an IV, additional data, a text and a tag of GCM
pub record Sealable (key iv aad text tag : List ℕ) : Type 0 where
  pub key_fits : IsTrue (is_aes_length (length key))
  pub iv_fits : IsIv iv
  pub aad_fits : IsSealable aad
  pub text_fits : IsSealable text
  pub tag_fits : IsTagLength (length tag)

pub sealable : (key iv aad text tag : List ℕ) → IsTrue (are_sealable (length key) (length iv) (length aad) (length text) (length tag)) → Sealable key iv aad text tag
sealable key iv aad text tag h =
    let four = and_left _ (is_within 12 16 (length tag)) h in
    let three = and_left _ (nat_le (length text) 65664) four in
    let two = and_left _ (nat_le (length aad) 65664) three in
    record {
      key_fits = and_left _ (is_within 1 255 (length iv)) two;
      iv_fits = within 1 255 (length iv) (and_right (is_aes_length (length key)) _ two);
      aad_fits = below (length aad) 65664 (and_right _ (nat_le (length aad) 65664) three);
      text_fits = below (length text) 65664 (and_right _ (nat_le (length text) 65664) four);
      tag_fits = within 12 16 (length tag) (and_right _ (is_within 12 16 (length tag)) h);
    }

pub aes_key : (n : ℕ) (b : Bool) → IsTrue (is_aes_length n && b) → IsTrue (is_aes_length n)
aes_key n b h = and_left (is_aes_length n) b h

pub wrappable : (k : ℕ) (pad : Bool) (n : ℕ) → IsTrue (is_aes_length k && is_wrappable pad n) → IsWrappable pad n
wrappable k pad n h = by_pad pad (and_right (is_aes_length k) (is_wrappable pad n) h)
  where
    by_pad : (pad : Bool) → IsTrue (is_wrappable pad n) → IsWrappable pad n
    by_pad true h = within 1 64 n h
    by_pad false h = let w = within 16 64 n (and_left (is_within 16 64 n) _ h) in (w.0, w.1, eqb-true (n % 8) 0 (and_right (is_within 16 64 n) _ h))

pub unwrappable : (k : ℕ) (pad : Bool) (n : ℕ) → IsTrue (is_aes_length k && is_unwrappable pad n) → IsUnwrappable pad n
unwrappable k pad n h = by_pad pad (and_right (is_aes_length k) (is_unwrappable pad n) h)
  where
    by_pad : (pad : Bool) → IsTrue (is_unwrappable pad n) → IsUnwrappable pad n
    by_pad true h = let w = within 16 72 n (and_left (is_within 16 72 n) _ h) in (w.0, w.1, eqb-true (n % 8) 0 (and_right (is_within 16 72 n) _ h))
    by_pad false h = let w = within 24 72 n (and_left (is_within 24 72 n) _ h) in (w.0, w.1, eqb-true (n % 8) 0 (and_right (is_within 24 72 n) _ h))

pub derivable : (label context out : ℕ) → IsTrue (are_derivable label context out) → (1 ≤ out) × (out ≤ 65536)
derivable label context out h = within 1 65536 out (and_right _ (is_within 1 65536 out) h)
