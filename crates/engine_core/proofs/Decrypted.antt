-- What opening leaves, by its answer.
use Rattle.std.proofs.Common.{◌≡◌, ℕ, Bool, true, false, List, length, take, refl, if◌then◌else◌}
use Rattle.std.specs.Prelude.{◌↔◌, IsTrue, IsFalse, bytes_eq}
use Rattle.std.specs.Bool.{Decides}
use Rattle.std.proofs.lemmas.Bool.{false≢true}
use Rattle.std.proofs.lemmas.Slice.Eq.{bytes_eq-Decides}
use Rattle.bits_core.specs.ByteList.{zeros}
use Rattle.gcm_mode.specs.Gcm.{gcm_tag, gcm_text}
use Rattle.engine_core.specs.Results.{Opened}
use Rattle.engine_core.specs.Standards.{gcm_decrypt}

pub decrypted : (key iv aad old tag new : List ℕ) (answer : Bool) → IsTrue answer ↔ (tag ≡ take (length tag) (gcm_tag key iv aad old))
    → (IsTrue answer → new ≡ gcm_text key iv old) → (IsFalse answer → new ≡ zeros (length old)) → new ≡ (gcm_decrypt key iv aad old tag).text
decrypted key iv aad old tag new answer told right wrong =
    by_answer (bytes_eq tag (take (length tag) (gcm_tag key iv aad old))) answer (bytes_eq-Decides tag (take (length tag) (gcm_tag key iv aad old))) told right wrong
  where
    by_answer : (same answer : Bool) → Decides same (tag ≡ take (length tag) (gcm_tag key iv aad old)) → IsTrue answer ↔ (tag ≡ take (length tag) (gcm_tag key iv aad old))
        → (IsTrue answer → new ≡ gcm_text key iv old) → (IsFalse answer → new ≡ zeros (length old))
        → new ≡ (if same then (let o : Opened = record { authentic = true; text = gcm_text key iv old } in o) else record { authentic = false; text = zeros (length old) }).text
    by_answer true true d told right wrong = right refl
    by_answer true false d told right wrong = absurd (false≢true (told.1 (d.0 refl)))
    by_answer false true d told right wrong = absurd (false≢true (d.1 (told.0 refl)))
    by_answer false false d told right wrong = wrong refl
