-- The records of kept slots, and how they are put one behind the other.
use Rattle.std.proofs.Common.{◌≡◌, ◌≤◌, ◌+◌, ◌++◌, ℕ, Bool, true, false, Option, Some, None, List, [], ◌∷◌, length, refl, sym, ◌∙◌, ap, subst, arith, add-one, if◌then◌else◌}
use Rattle.std.specs.Prelude.{nat_le, ◌&&◌}
use Rattle.std.specs.List.{flat_map}
use Rattle.std.specs.Option.{option_map_or}
use Rattle.std.proofs.lemmas.Bool.Decides.{nat_tests}
use Rattle.std.proofs.lemmas.List.{append-nil, append_assoc}
use Rattle.std.proofs.lemmas.List.Concat.{flat_map-append}
use Rattle.bits_core.specs.declared.parameter.Header.{Header}
use Rattle.bits_core.specs.declared.algorithm.Alg.TheVariants.{Sha256}
use Rattle.bits_core.specs.OutboxContents.{OutboxContents}
use Rattle.aes_core.specs.Key.{aes}
use Rattle.hmac_core.specs.declared.mac.MacStream.{MacStream}
use Rattle.hmac_core.specs.Hmac.{HoldsText}
use Rattle.key_wrap.specs.Wrapping.{kwp}
use Rattle.ssp_slots.specs.declared.slot.Slot.{Slot}
use Rattle.ssp_slots.specs.Slots.{Contents, slot_in, parameter}
use Rattle.vault_backup.specs.BackupForm.{KeptSlot, record_bytes}
use Rattle.vault_backup.specs.Backups.{if_kept, kept_slot, kept_at, kept_below}
use Rattle.vault_backup.specs.Writing.{Signs, record_front}

pub kept_none : (key : List ℕ) (vault : Contents) → kept_below key vault 0 ≡ []
unfolding kept_below
kept_none key vault = refl

pub kept_more : (key : List ℕ) (vault : Contents) (n : ℕ) → kept_below key vault (n + 1) ≡ kept_below key vault n ++ kept_at key vault n
unfolding kept_below
kept_more key vault n = ap (λ (k : ℕ). kept_below key vault k) (add-one n)

pub kept_more_bytes : (key : List ℕ) (vault : Contents) (n : ℕ)
    → flat_map record_bytes (kept_below key vault (n + 1)) ≡ flat_map record_bytes (kept_below key vault n) ++ flat_map record_bytes (kept_at key vault n)
kept_more_bytes key vault n =
    ap (λ (records : List KeptSlot). flat_map record_bytes records) (kept_more key vault n) ∙ flat_map-append record_bytes (kept_below key vault n) (kept_at key vault n)

-- nothing was put
pub signs_none : (outbox : OutboxContents) (stream : MacStream) → Signs outbox outbox stream stream []
signs_none outbox stream = record {
  put = sym (append-nil outbox.bytes);
  room = refl;
  taken = λ key text held. subst (λ (xs : List ℕ). HoldsText stream Sha256 key xs) (sym (append-nil text)) held;
}

-- one piece was put, and then another
pub signs_both : (first second third : OutboxContents) (before between after : MacStream) (one other : List ℕ) → Signs first second before between one
    → Signs second third between after other → Signs first third before after (one ++ other)
signs_both first second third before between after one other h k = record {
  put = k.put ∙ ap (λ xs. xs ++ other) h.put ∙ append_assoc first.bytes one other;
  room = k.room ∙ h.room;
  taken = λ key text held.
      subst (λ (xs : List ℕ). HoldsText after Sha256 key xs) (append_assoc text one other) (k.taken key (text ++ one) (h.taken key text held));
}

-- the header of a kept slot is that of the slot, and it may leave and has a use left
pub record IsHeaderOf (slot : Option Header) (header : Header) : Type 0 where
  pub is : slot ≡ Some header
  pub export : header.export ≡ true
  pub some_use : 1 ≤ header.uses

kept_if : (test : Bool) (known header : Header) → (if test then Some known else None) ≡ Some header → (test ≡ true) × (known ≡ header)
kept_if true known header e = (refl, cc)
kept_if false known header e = absurd (let no : None ≡ Some header = e in cc)

pub if_kept-some : (slot : Option Header) (header : Header) → if_kept slot ≡ Some header → IsHeaderOf slot header
if_kept-some None header e = absurd (let no : None ≡ Some header = e in cc)
if_kept-some (Some known) header e =
    let parts = kept_if (known.export && nat_le 1 known.uses) known header e in
    let may : (header.export && nat_le 1 header.uses) ≡ true =
    subst (λ (h : Header). (h.export && nat_le 1 h.uses) ≡ true) parts.1 parts.0 in
    record {
      is = ap (λ (h : Header). Some h) parts.1;
      export = grind (arith, nat_tests);
      some_use = grind (arith, nat_tests);
    }

-- the record of a kept slot is its front and the wrapping of its parameter
pub one_kept : (key : List ℕ) (vault : Contents) (id : ℕ) (header : Header) (text : List ℕ) → if_kept (slot_in vault id).header ≡ Some header
    → text ≡ parameter (slot_in vault id) → length text ≡ (slot_in vault id).length
    → record_front id header (length text) ++ kwp (aes key) text ≡ flat_map record_bytes (kept_at key vault id)
one_kept key vault id header text kept is long =
    let slot : Slot = slot_in vault id in
    ap (λ size. record_front id header size ++ kwp (aes key) text) long
    ∙ ap (λ xs. record_front id header slot.length ++ kwp (aes key) xs) is
    ∙ sym (append-nil (record_bytes (kept_slot key id slot header)))
    ∙ ap (λ known. flat_map record_bytes (option_map_or (λ h. kept_slot key id slot h ∷ []) known [])) (sym kept)
