-- Parameters that are wrapped and unwrapped: their lengths, and the keys.
use Rattle.std.proofs.Common.{◌≡◌, ◌≤◌, ℕ, Bool, true, false, List, length, take, Option, Some, None, IsTrue, sym, ap, subst, ◌∙◌, arith}
use Rattle.std.specs.Prelude.{IfSome}
use Rattle.std.specs.Option.{option_map_or}
use Rattle.std.proofs.lemmas.Bool.{false≢true}
use Rattle.std.proofs.lemmas.List.{length-take-le}
use Rattle.bits_core.specs.declared.parameter.Domain.{Domain}
use Rattle.bits_core.specs.declared.parameter.Domain.TheVariants.{Other, Approved}
use Rattle.bits_core.specs.declared.parameter.Header.{Header}
use Rattle.bits_core.specs.declared.parameter.Kind.{Kind}
use Rattle.bits_core.specs.declared.parameter.Kind.TheVariants.{Aes, Kek, Mac, Kdf}
use Rattle.bits_core.specs.ByteList.{IsBytes}
use Rattle.bits_core.specs.Parameters.{is_aes_length, length_fits}
use Rattle.bits_core.proofs.Bytes.{IsBytes-take}
use Rattle.engine_core.specs.Calls.{Calls, Keeps}
use Rattle.engine_core.specs.Inputs.{IsAesKey, IsWrappable, IsUnwrappable}
use Rattle.engine_core.specs.Results.{IsUnwrappedLength, wrapped_length}
use Rattle.ssp_slots.specs.declared.slot.Slot.{Slot}
use Rattle.ssp_slots.specs.PreparedKeys.{is_prepared_kind, has_prepared_key}
use Rattle.ssp_slots.specs.Slots.{IsWellFormed, parameter}

-- a parameter has from 1 to 64 bytes
length_fits-within : (kind : Kind) (domain : Domain) (n : ℕ) → IsTrue (length_fits kind domain n) → (1 ≤ n) × (n ≤ 64)
length_fits-within Aes domain n fits = (grind arith, grind arith)
length_fits-within Kek domain n fits = (grind arith, grind arith)
length_fits-within Mac Other n fits = (grind arith, grind arith)
length_fits-within Mac Approved n fits = (grind arith, grind arith)
length_fits-within Kdf Other n fits = (grind arith, grind arith)
length_fits-within Kdf Approved n fits = (grind arith, grind arith)

length_of : (header : Option Header) (n : ℕ) (bytes : List ℕ) → (let slot : Slot = record { header = header; length = n; bytes = bytes } in IsWellFormed slot)
    → (length (take n bytes) ≡ n) × (n ≤ 64)
length_of None n bytes empty =
    let none : n ≡ 0 = ap (λ (slot : Slot). slot.length) empty in
    (ap (λ (slot : Slot). length (parameter slot)) empty ∙ sym none, omega (arith, none))
length_of (Some header) n bytes holds =
    let within : (1 ≤ n) × (n ≤ 64) = length_fits-within header.kind header.domain n holds.fits in
    let room : length bytes ≡ 64 = holds.room in
    (length-take-le n bytes (omega (arith, within.1, room)), within.1)

-- a slot's parameter is as long as the slot says
pub parameter_length : (slot : Slot) → IsWellFormed slot → length (parameter slot) ≡ slot.length
parameter_length slot well_formed = (length_of slot.header slot.length slot.bytes well_formed).0

-- and has at most 64 bytes
pub parameter_most : (slot : Slot) → IsWellFormed slot → slot.length ≤ 64
parameter_most slot well_formed = (length_of slot.header slot.length slot.bytes well_formed).1

aes_length : (kind : Kind) (domain : Domain) (n : ℕ) → is_prepared_kind kind ≡ true → IsTrue (length_fits kind domain n) → IsTrue (is_aes_length n)
aes_length Aes domain n prepared fits = fits
aes_length Kek domain n prepared fits = fits
aes_length Mac domain n prepared fits = absurd (false≢true prepared)
aes_length Kdf domain n prepared fits = absurd (false≢true prepared)

aes_key_in : (header : Option Header) (n : ℕ) (bytes : List ℕ) → (let slot : Slot = record { header = header; length = n; bytes = bytes } in IsWellFormed slot)
    → option_map_or (λ (h : Header). is_prepared_kind h.kind) header false ≡ true → IsAesKey (take n bytes)
aes_key_in None n bytes empty prepared = absurd (false≢true prepared)
aes_key_in (Some header) n bytes holds prepared =
    let long : length (take n bytes) ≡ n = (length_of (Some header) n bytes holds).0 in
    let fits : IsTrue (is_aes_length n) = aes_length header.kind header.domain n prepared holds.fits in
    record {
      fits = subst (λ (m : ℕ). IsTrue (is_aes_length m)) (sym long) fits;
      bytes = IsBytes-take n bytes holds.byte_values;
    }

-- a slot with a prepared key holds a key of AES
pub aes_key : (slot : Slot) → IsWellFormed slot → has_prepared_key slot ≡ true → IsAesKey (parameter slot)
aes_key slot well_formed prepared = aes_key_in slot.header slot.length slot.bytes well_formed prepared

wrapped_length-most : (pad : Bool) (n : ℕ) → IsWrappable pad n → wrapped_length pad n ≤ 80
wrapped_length-most true n can = omega (arith, can.0, can.1)
wrapped_length-most false n can = omega (arith, can.0, can.1)

-- a wrapping has at most 80 bytes
pub wrapped_most : {V : Type 0} (calls : Calls V) (keeps : Keeps calls) (engine : V) (pad : Bool) (key text : List ℕ) (n size : ℕ) → IsWrappable pad n → length text ≡ n
    → size ≡ (calls.wrap engine pad key text).size → size ≤ 80
wrapped_most {V} calls keeps engine pad key text n size can long is =
    let whole : IsWrappable pad (length text) = subst (λ (m : ℕ). IsWrappable pad m) (sym long) can in
    let size_is : size ≡ wrapped_length pad (length text) = is ∙ keeps.wrap_size engine pad key text whole in
    subst (λ (m : ℕ). m ≤ 80) (sym size_is) (wrapped_length-most pad (length text) whole)

unwrapped_length-most : (pad : Bool) (n : ℕ) (size : Option ℕ) → IsUnwrappable pad n → IfSome size (IsUnwrappedLength pad n) → IfSome size (λ m. m ≤ 80)
unwrapped_length-most pad n None can told = told
unwrapped_length-most true n (Some size) can told = omega (arith, can.1, told.1)
unwrapped_length-most false n (Some size) can told = omega (arith, can.1, told)

-- and what it unwraps to too
pub unwrapped_most : {V : Type 0} (calls : Calls V) (keeps : Keeps calls) (engine : V) (pad : Bool) (key wrapped text : List ℕ) (size : Option ℕ) → IsAesKey key → IsBytes wrapped
    → IsUnwrappable pad (length wrapped) → text ≡ wrapped → size ≡ (calls.unwrap engine pad key text).size → IfSome size (λ m. m ≤ 80)
unwrapped_most {V} calls keeps engine pad key wrapped text size is_key are_bytes can same is =
    let size_is : size ≡ (calls.unwrap engine pad key wrapped).size = is ∙ ap (λ (t : List ℕ). (calls.unwrap engine pad key t).size) same in
    let most : IfSome (calls.unwrap engine pad key wrapped).size (λ m. m ≤ 80) =
    unwrapped_length-most pad (length wrapped) (calls.unwrap engine pad key wrapped).size can (keeps.unwrap_size engine pad key wrapped is_key are_bytes can) in
    subst (λ (s : Option ℕ). IfSome s (λ m. m ≤ 80)) (sym size_is) most
