use Rattle.std.proofs.Common.{◌≡◌, ◌++◌, ℕ, List, [], ◌∷◌, length, take, ap, ◌∙◌, arith, length-append}
use Rattle.std.specs.List.{flat_map}
use Rattle.bits_core.specs.declared.algorithm.Alg.TheVariants.{Sha256}
use Rattle.bits_core.specs.OutboxContents.{holding}
use Rattle.hmac_core.specs.Hmac.{hmac}
use Rattle.hmac_core.proofs.Lengths.{take-hmac256}
use Rattle.vault_backup.specs.declared.limits.TheConstants.{MAGIC}
use Rattle.vault_backup.specs.BackupForm.{KeptSlot, record_bytes, signed_bytes, tag_of}
use Rattle.vault_backup.specs.Backups.{kept_slots}
use Rattle.vault_backup.specs.Writing.{Signs}
use Rattle.vault_backup.proofs.Kept.{signs_both}
use Rattle.vault_backup.proofs.writing.put_backup.Goals as goal

pub put-requires : goal.put-requires
put-requires c =
    let key = c.requires.expanded in
    let signs = c.put_slots.ensures.signs key.0 key.1 in
    let one = c.put_signed.ensures.signs in
    let two = c.put_signed-2.ensures.signs in
    let none : length c.args.port.now.outbox.now.bytes ≡ 0 = ap length c.requires.empty in
    let four : length c.put_signed.new.port.outbox.now.bytes ≡ 4 =
    omega (arith, ap length one.put, length-append c.args.port.now.outbox.now.bytes MAGIC, none) in
    let five : length c.put_signed-2.new.port.outbox.now.bytes ≡ 5 =
    omega (arith, ap length two.put, length-append c.put_signed.new.port.outbox.now.bytes (c.kept_count-count.result ∷ []), four) in
    let tag : length c.finish_leftmost.result ≡ 32 = omega (arith, c.finish_leftmost.type_inv) in
    omega (arith, signs.room, one.room, two.room, c.put_slots.ensures.few, c.requires.room, four, five, tag)

pub returns-clause-put : goal.returns-clause-put
returns-clause-put c = λ key is.
    let vault = c.args.vault.now in
    let mac = c.args.mac.now in
    let first = c.args.port.now.outbox.now in
    let last = c.put_slots.new.port.outbox.now in
    let records : List KeptSlot = kept_slots key vault in
    let body : List ℕ = flat_map record_bytes records in
    let count : List ℕ = c.kept_count-count.result ∷ [] in
    let front : Signs first c.put_signed-2.new.port.outbox.now c.new-stream.result c.put_signed-2.new.stream (MAGIC ++ count) =
    signs_both first c.put_signed.new.port.outbox.now c.put_signed-2.new.port.outbox.now c.new-stream.result c.put_signed.new.stream c.put_signed-2.new.stream MAGIC count
    c.put_signed.ensures.signs c.put_signed-2.ensures.signs in
    let whole : Signs first last c.new-stream.result c.put_slots.new.stream ((MAGIC ++ count) ++ body) =
    signs_both first c.put_signed-2.new.port.outbox.now last c.new-stream.result c.put_signed-2.new.stream c.put_slots.new.stream (MAGIC ++ count) body
    front (c.put_slots.ensures.signs key is) in
    let same : (MAGIC ++ count) ++ body ≡ signed_bytes records = ap (λ (n : ℕ). MAGIC ++ n ∷ body) (c.kept_count-count.ensures.count key) in
    let bytes : last.bytes ≡ signed_bytes records = whole.put ∙ ap (λ (xs : List ℕ). xs ++ ((MAGIC ++ count) ++ body)) c.requires.empty ∙ same in
    let tag : c.finish_leftmost.result ≡ tag_of mac records =
    c.finish_leftmost.ensures Sha256 mac _ (whole.taken mac [] c.new-stream.ensures)
    ∙ ap (λ (xs : List ℕ). take 32 (hmac Sha256 mac xs)) same ∙ take-hmac256 mac (signed_bytes records) in
    c.put.ensures.put
    ∙ ap (λ (xs : List ℕ). holding (xs ++ c.finish_leftmost.result) last.room) bytes
    ∙ ap (λ (xs : List ℕ). holding (signed_bytes records ++ xs) last.room) tag
    ∙ ap (λ (room : ℕ). holding (signed_bytes records ++ tag_of mac records) room) whole.room
