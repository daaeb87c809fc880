use Rattle.std.proofs.Common.{◌≡◌, ℕ, List, refl, sym, ap, ◌∙◌, subst}
use Rattle.std.proofs.lemmas.Bool.{false≢true}
use Rattle.bits_core.specs.declared.algorithm.Alg.TheVariants.{Sha256}
use Rattle.hmac_core.specs.Hmac.{hmac}
use Rattle.vault_backup.specs.BackupForm.{KeptSlot, AreRecords, IsBackupWith, tag_of}
use Rattle.vault_backup.specs.Restoring.{IsSigned}
use Rattle.vault_backup.proofs.Forms.{parts_with, middle_records}
use Rattle.vault_backup.proofs.Restored.{restores_with}
use Rattle.vault_backup.proofs.restoring.restore.Goals as goal

pub returns-then-not-has_tag-clause-restores : goal.returns-then-not-has_tag-clause-restores
returns-then-not-has_tag-clause-restores c =
    let bytes = c.args.bytes.now in
    let mac = c.args.mac.now in (
      c.if-not-is_backup.ensures.0 refl,
      λ records h.
          let parts = parts_with bytes records (tag_of mac records) h in
          false≢true (c.if-not-has_tag.ensures.1 (parts.end ∙ ap (λ (text : List ℕ). hmac Sha256 mac text) (sym parts.signed))),
    )

pub returns-clause-restores : goal.returns-clause-restores
returns-clause-restores c =
    let bytes = c.args.bytes.now in
    let mac = c.args.mac.now in
    let kek = c.args.kek.now in
    let form = c.if-not-is_backup.ensures.0 refl in
    let records : List KeptSlot = form.0 in
    let parts = parts_with bytes records form.1 form.2 in
    let right : form.1 ≡ tag_of mac records =
    sym parts.end ∙ c.if-not-has_tag.ensures.0 refl ∙ ap (λ (text : List ℕ). hmac Sha256 mac text) parts.signed in
    let signed : IsSigned mac bytes records = subst (λ (tag : List ℕ). IsBackupWith bytes records tag) right form.2 in
    let are : AreRecords c.records_in.result.now records =
    subst (λ (xs : List ℕ). AreRecords xs records) (sym c.records_in.ensures) (middle_records bytes records form.1 form.2) in
    restores_with kek mac bytes c.args.vault.now c.restore_records-result.new.vault c.restore_records-result.result records signed
    (c.restore_records-result.ensures.restores kek records c.expand.ensures are)
