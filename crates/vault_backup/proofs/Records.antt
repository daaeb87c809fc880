-- What stands at the front of bytes in which a record stands.
use Rattle.std.proofs.Common.{◌≡◌, ◌≤◌, ◌<◌, ◌+◌, ◌++◌, ℕ, zero, suc, lit<, true, List, [], ◌∷◌, Some, length, take, drop, get_or, refl, sym, ◌∙◌, ap, subst, arith, length-drop, IsTrue}
use Rattle.std.specs.Int.{to_be_bytes, w32}
use Rattle.std.proofs.lemmas.Bool.Decides.{nat_tests}
use Rattle.std.proofs.lemmas.List.{take_at, drop_at, take-append-drop, length-take-le, drop-drop}
use Rattle.std.proofs.lemmas.Nat.{from_be_bytes-to_be_bytes_4, be_bytes_4}
use Rattle.bits_core.specs.ByteList.{IsBytes}
use Rattle.bits_core.specs.declared.parameter.Kind.{Kind}
use Rattle.bits_core.specs.declared.parameter.Kind.TheVariants.{Aes, Kek, Mac, Kdf}
use Rattle.bits_core.specs.declared.parameter.Domain.{Domain}
use Rattle.bits_core.specs.declared.parameter.Domain.TheVariants.{Other, Approved}
use Rattle.bits_core.specs.Parameters.{kind_number, kind_of, domain_number, domain_of, length_fits}
use Rattle.vault_backup.specs.declared.record.Record.{Record}
use Rattle.vault_backup.specs.BackupForm.{KeptSlot, IsKeptSlot, record_bytes, wrapped_length, header_of}
use Rattle.vault_backup.specs.Reading.{number_at, record_with, Tells, Reads}

pub kind_of-number : (kind : Kind) → kind_of (kind_number kind) ≡ Some kind
kind_of-number Aes = refl
kind_of-number Kek = refl
kind_of-number Mac = refl
kind_of-number Kdf = refl

pub domain_of-number : (domain : Domain) → domain_of (domain_number domain) ≡ Some domain
domain_of-number Other = refl
domain_of-number Approved = refl

same_kind : (a b : Kind) → kind_number a ≡ kind_number b → a ≡ b
same_kind a b e = cc (sym (kind_of-number a) ∙ ap kind_of e ∙ kind_of-number b)

same_domain : (a b : Domain) → domain_number a ≡ domain_number b → a ≡ b
same_domain a b e = cc (sym (domain_of-number a) ∙ ap domain_of e ∙ domain_of-number b)

-- the record that tells a kept slot
abbrev pub head_of : KeptSlot → Record
head_of kept = record { slot = kept.slot; header = header_of kept; length = kept.size }

record_with-fits : (slot : ℕ) (kind : Kind) (domain : Domain) (uses size : ℕ) → slot < 16 → 1 ≤ uses → IsTrue (length_fits kind domain size)
    → record_with slot (Some kind) (Some domain) uses size
    ≡ Some (record { slot = slot; header = record { kind = kind; domain = domain; export = true; uses = uses }; length = size })
record_with-fits slot kind domain uses size below some fits = grind (arith, nat_tests)

pub record_with-kept : (kept : KeptSlot) → IsKeptSlot kept
    → record_with kept.slot (kind_of (kind_number kept.kind)) (domain_of (domain_number kept.domain)) kept.uses kept.size ≡ Some (head_of kept)
record_with-kept kept h =
    ap (λ kind. record_with kept.slot kind (domain_of (domain_number kept.domain)) kept.uses kept.size) (kind_of-number kept.kind)
    ∙ ap (λ domain. record_with kept.slot (Some kept.kind) domain kept.uses kept.size) (domain_of-number kept.domain)
    ∙ record_with-fits kept.slot kept.kind kept.domain kept.uses kept.size h.below h.some_use h.fits

-- what is read where a record stands
pub read_of-record : (kept : KeptSlot) (after : List ℕ) → IsKeptSlot kept
    → record_with (get_or (record_bytes kept ++ after) 0 0) (kind_of (get_or (record_bytes kept ++ after) 1 0)) (domain_of (get_or (record_bytes kept ++ after) 2 0))
    (number_at (record_bytes kept ++ after) 3) (get_or (record_bytes kept ++ after) 7 0) ≡ Some (head_of kept)
read_of-record kept after h =
    ap (λ uses. record_with kept.slot (kind_of (kind_number kept.kind)) (domain_of (domain_number kept.domain)) uses kept.size)
    (from_be_bytes-to_be_bytes_4 kept.uses h.uses_fit)
    ∙ record_with-kept kept h

pub length-record : (kept : KeptSlot) → IsKeptSlot kept → length (record_bytes kept) ≡ 8 + wrapped_length kept.size
length-record kept h = omega (arith, h.long)

pub kept_same : (slot slot' : ℕ) (kind kind' : Kind) (domain domain' : Domain) (uses uses' size size' : ℕ) (wrapped wrapped' : List ℕ)
    → slot ≡ slot' → kind ≡ kind' → domain ≡ domain' → uses ≡ uses' → size ≡ size' → wrapped ≡ wrapped'
    → Path KeptSlot (record { slot = slot; kind = kind; domain = domain; uses = uses; size = size; wrapped = wrapped })
    (record { slot = slot'; kind = kind'; domain = domain'; uses = uses'; size = size'; wrapped = wrapped' })
kept_same slot slot' kind kind' domain domain' uses uses' size size' wrapped wrapped' a b c d e f = rw (a, b, c, d, e, f) refl

-- no record is the beginning of another
pub one_record : (a b : KeptSlot) (x y : List ℕ) → IsKeptSlot a → IsKeptSlot b → record_bytes a ++ x ≡ record_bytes b ++ y → (a ≡ b) × (x ≡ y)
one_record a b x y ha hb e =
    let slot : a.slot ≡ b.slot = ap (λ xs. get_or xs 0 0) e in
    let kind : a.kind ≡ b.kind = same_kind a.kind b.kind (ap (λ xs. get_or xs 1 0) e) in
    let domain : a.domain ≡ b.domain = same_domain a.domain b.domain (ap (λ xs. get_or xs 2 0) e) in
    let uses : a.uses ≡ b.uses =
    sym (from_be_bytes-to_be_bytes_4 a.uses ha.uses_fit) ∙ ap (λ xs. number_at xs 3) e ∙ from_be_bytes-to_be_bytes_4 b.uses hb.uses_fit in
    let size : a.size ≡ b.size = ap (λ xs. get_or xs 7 0) e in
    let long : length a.wrapped ≡ length b.wrapped = ha.long ∙ ap wrapped_length size ∙ sym hb.long in
    let behind : a.wrapped ++ x ≡ b.wrapped ++ y = ap (λ xs. drop 8 xs) e in
    let wrapped : a.wrapped ≡ b.wrapped =
    sym (take_at a.wrapped x (length a.wrapped) refl) ∙ ap (λ xs. take (length a.wrapped) xs) behind ∙ take_at b.wrapped y (length a.wrapped) (sym long) in
    let after : x ≡ y =
    sym (drop_at a.wrapped x (length a.wrapped) refl) ∙ ap (λ xs. drop (length a.wrapped) xs) behind ∙ drop_at b.wrapped y (length a.wrapped) (sym long) in
    (kept_same a.slot b.slot a.kind b.kind a.domain b.domain a.uses b.uses a.size b.size a.wrapped b.wrapped slot kind domain uses size wrapped, after)

headed : (bytes : List ℕ) → 8 ≤ length bytes
    → bytes ≡ get_or bytes 0 0 ∷ get_or bytes 1 0 ∷ get_or bytes 2 0
    ∷ ((get_or bytes 3 0 ∷ get_or bytes 4 0 ∷ get_or bytes 5 0 ∷ get_or bytes 6 0 ∷ []) ++ get_or bytes 7 0 ∷ drop 8 bytes)
headed [] k = absurd (omega arith)
headed (a ∷ []) k = absurd (omega arith)
headed (a ∷ b ∷ []) k = absurd (omega arith)
headed (a ∷ b ∷ c ∷ []) k = absurd (omega arith)
headed (a ∷ b ∷ c ∷ d ∷ []) k = absurd (omega arith)
headed (a ∷ b ∷ c ∷ d ∷ e ∷ []) k = absurd (omega arith)
headed (a ∷ b ∷ c ∷ d ∷ e ∷ f ∷ []) k = absurd (omega arith)
headed (a ∷ b ∷ c ∷ d ∷ e ∷ f ∷ g ∷ []) k = absurd (omega arith)
headed (a ∷ b ∷ c ∷ d ∷ e ∷ f ∷ g ∷ h ∷ rest) k = refl

four_small : (bytes : List ℕ) → IsBytes bytes → IsBytes (get_or bytes 3 0 ∷ get_or bytes 4 0 ∷ get_or bytes 5 0 ∷ get_or bytes 6 0 ∷ [])
four_small bytes small zero = small 3
four_small bytes small (suc zero) = small 4
four_small bytes small (suc (suc zero)) = small 5
four_small bytes small (suc (suc (suc zero))) = small 6
four_small bytes small (suc (suc (suc (suc n)))) = lit< tt

-- the record that these fields tell stands at the front of the bytes
pub reads : (bytes : List ℕ) (head : Record) → IsBytes bytes → 8 + wrapped_length head.length ≤ length bytes
    → Tells head (get_or bytes 0 0) (get_or bytes 1 0) (get_or bytes 2 0) (number_at bytes 3) (get_or bytes 7 0) → Reads head bytes
reads bytes head small long h =
    let n : ℕ = wrapped_length head.length in
    let four : List ℕ = get_or bytes 3 0 ∷ get_or bytes 4 0 ∷ get_or bytes 5 0 ∷ get_or bytes 6 0 ∷ [] in
    let uses : to_be_bytes w32 head.header.uses ≡ four = be_bytes_4 four head.header.uses refl (four_small bytes small) h.uses_is in
    let rest : List ℕ = drop 8 bytes in
    let behind : rest ≡ take n rest ++ drop (8 + n) bytes = sym (take-append-drop n rest) ∙ ap (λ xs. take n rest ++ xs) (drop-drop n 8 bytes) in
    let after : List ℕ = take n rest ++ drop (8 + n) bytes in
    record {
      encoded =
          headed bytes (omega arith)
          ∙ ap (λ xs. get_or bytes 0 0 ∷ get_or bytes 1 0 ∷ get_or bytes 2 0 ∷ (four ++ get_or bytes 7 0 ∷ xs)) behind
          ∙ ap (λ x. x ∷ get_or bytes 1 0 ∷ get_or bytes 2 0 ∷ (four ++ get_or bytes 7 0 ∷ after)) (sym h.slot_is)
          ∙ ap (λ x. head.slot ∷ x ∷ get_or bytes 2 0 ∷ (four ++ get_or bytes 7 0 ∷ after)) (sym h.kind_is)
          ∙ ap (λ x. head.slot ∷ kind_number head.header.kind ∷ x ∷ (four ++ get_or bytes 7 0 ∷ after)) (sym h.domain_is)
          ∙ ap (λ x. head.slot ∷ kind_number head.header.kind ∷ domain_number head.header.domain ∷ (four ++ x ∷ after)) (sym h.size_is)
          ∙ ap (λ xs. head.slot ∷ kind_number head.header.kind ∷ domain_number head.header.domain ∷ (xs ++ head.length ∷ after)) (sym uses);
      kept = record {
        below = omega (arith, h.slot_is, h.below);
        some_use = omega (arith, h.uses_is, h.some_use);
        uses_fit = omega (arith, h.uses_is, h.uses_fit);
        fits = subst (λ size. IsTrue (length_fits head.header.kind head.header.domain size)) (sym h.size_is) h.fits;
        long = length-take-le n (drop 8 bytes) (omega (arith, length-drop 8 bytes));
      };
      export = h.export_is;
    }
