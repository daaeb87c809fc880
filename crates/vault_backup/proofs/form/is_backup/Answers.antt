use Rattle.std.proofs.Common.{◌≤◌, ◌-◌, ℕ, List, length, take, drop, get_or, refl, subst, arith, IsTrue}
use Rattle.vault_backup.specs.Reading.{HasRecordsFrom}
use Rattle.vault_backup.proofs.Forms.{with_parts, are_counted}
use Rattle.vault_backup.proofs.form.is_backup.Goals as goal

pub returns : goal.returns
returns c =
    let bytes = c.args.bytes.now in
    let count : ℕ = get_or bytes 4 0 in
    let least : 37 ≤ length bytes = omega arith in
    let Tested : List ℕ → Type 0 =
    λ (xs : List ℕ). (IsTrue c.are_records.result → HasRecordsFrom 0 count xs) × (HasRecordsFrom 0 count xs → IsTrue c.are_records.result) in
    let tested : Tested (take (length bytes - 37) (drop 5 bytes)) = subst Tested c.records_in.ensures c.are_records.ensures in (
      λ yes.
          let h = tested.0 yes in
          (h.0, drop (length bytes - 32) bytes, with_parts bytes least (c.if-not-same.ensures.0 refl) h.0 h.1),
      λ h. tested.1 (are_counted bytes h),
    )
