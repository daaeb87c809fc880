-- The form of the body that asks for key derivation (SP 800-108 Rev. 1, 4.1).
use Rattle.std.specs.Prelude.{ℕ, ◌&&◌, nat_le, List, length, take, drop, slice_index, Option, Some, None, if◌then◌else◌}
use Rattle.bits_core.specs.declared.parameter.Domain.TheVariants.{Approved}
use Rattle.bits_core.specs.Parameters.{length_fits}
use Rattle.module_frames.specs.declared.shared_parts.Target.{Target}
use Rattle.module_frames.specs.RequestValues.{RequestValue, Cryptographic, Derive}
use Rattle.module_frames.specs.SharedParts.{target_of}

-- the label, of that length, and then the context, each of at most 255 bytes; the length fits an approved parameter
abbrev pub derive_with : Option Target → ℕ → ℕ → List ℕ → Option RequestValue
derive_with (Some target) long label_length remainder =
    if length_fits target.kind Approved long
    && (nat_le label_length 255 && (nat_le label_length (length remainder) && nat_le (length (drop label_length remainder)) 255))
    then Some (Cryptographic (Derive target.source target.slot target.kind target.export target.uses long
    (take label_length remainder) (drop label_length remainder)))
    else None
derive_with None long label_length remainder = None

-- the target with the slot of the derivation key, in eight bytes, the length and the label's length in a byte each, then label and context
abbrev pub derive_of : List ℕ → Option RequestValue
derive_of body =
    if nat_le 10 (length body)
    then derive_with (target_of body) (slice_index body 8) (slice_index body 9) (drop 10 body)
    else None
