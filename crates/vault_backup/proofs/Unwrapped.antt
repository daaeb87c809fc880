-- Parameters that are wrapped.
use Rattle.std.proofs.Common.{◌≡◌, ◌≤◌, ℕ, List, length, take, sym, ◌∙◌, ap, arith, IsTrue}
use Rattle.std.specs.Prelude.{nat_eq}
use Rattle.std.proofs.lemmas.Bool.Decides.{nat_tests}
use Rattle.std.proofs.lemmas.List.{length-take-le}
use Rattle.bits_core.specs.ByteList.{IsBytes}
use Rattle.key_wrap.specs.Wrapping.{IsKwpOf}
use Rattle.key_wrap.proofs.Checked.{kwp_unique}
use Rattle.vault_backup.specs.Restoring.{IsWrappingOf}

same_number : (n size : ℕ) → IsTrue (nat_eq n size) → n ≡ size
same_number n size h = grind (arith, nat_tests)

number_same : (n size : ℕ) → n ≡ size → IsTrue (nat_eq n size)
number_same n size h = grind (arith, nat_tests)

-- what is wrapped has the length that was found, and no other
pub size_found : (key w buf : List ℕ) (n size : ℕ) → IsBytes key → n ≤ length buf → IsKwpOf key w (take n buf) → IsWrappingOf key w size → n ≡ size
size_found key w buf n size small within found h =
    sym (length-take-le n buf within) ∙ ap length (kwp_unique key w (take n buf) h.0 small found h.1) ∙ h.2

pub found_some : (key w buf : List ℕ) (n size : ℕ) → IsBytes key → n ≤ length buf → IsKwpOf key w (take n buf)
    → (IsTrue (nat_eq n size) → IsWrappingOf key w size) × (IsWrappingOf key w size → IsTrue (nat_eq n size))
found_some key w buf n size small within found = (
  λ same. (take n buf, found, length-take-le n buf within ∙ same_number n size same),
  λ h. number_same n size (size_found key w buf n size small within found h),
)
