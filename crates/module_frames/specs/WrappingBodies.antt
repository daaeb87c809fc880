-- The forms of the bodies that ask for key wrapping (SP 800-38F), where pad says whether with padding.
use Rattle.std.specs.Prelude.{ℕ, ◌-◌, ◌%◌, ◌==◌, ◌&&◌, not, nat_le, nat_lt, Bool, true, false, List, length, drop, slice_index, Option, Some, None, if◌then◌else◌}
use Rattle.bits_core.specs.declared.parameter.Kind.{Kind}
use Rattle.bits_core.specs.declared.parameter.Domain.TheVariants.{Other}
use Rattle.bits_core.specs.Parameters.{length_fits}
use Rattle.module_frames.specs.declared.shared_parts.Target.{Target}
use Rattle.module_frames.specs.RequestValues.{RequestValue, Cryptographic, Wrap, Unwrap}
use Rattle.module_frames.specs.SharedParts.{target_of}

-- the slot of the key-encryption key and that of what it wraps, in a byte each: below 16, and not one slot
abbrev pub wrap_of : Bool → List ℕ → Option RequestValue
wrap_of pad body =
    if length body == 2 && (nat_lt (slice_index body 0) 16 && (nat_lt (slice_index body 1) 16 && not (slice_index body 0 == slice_index body 1)))
    then Some (Cryptographic (Wrap pad (slice_index body 0) (slice_index body 1)))
    else None

-- whole semiblocks, at most nine: at least three, and with padding at least two (SP 800-38F, 5.3.1)
abbrev pub is_wrapped_length : Bool → ℕ → Bool
is_wrapped_length false n = nat_le 24 n && (nat_le n 72 && n % 8 == 0)
is_wrapped_length true n = nat_le 16 n && (nat_le n 72 && n % 8 == 0)

-- Without padding the length tells that of the parameter, 8 bytes less: one that fits. With padding only the unwrapped bytes tell it.
abbrev pub unwrapped_fits : Bool → Kind → ℕ → Bool
unwrapped_fits false kind n = length_fits kind Other (n - 8)
unwrapped_fits true kind n = true

abbrev pub unwrap_with : Bool → Option Target → List ℕ → Option RequestValue
unwrap_with pad (Some target) wrapped =
    if is_wrapped_length pad (length wrapped) && unwrapped_fits pad target.kind (length wrapped)
    then Some (Cryptographic (Unwrap pad target.source target.slot target.kind target.export target.uses wrapped))
    else None
unwrap_with pad None wrapped = None

-- the target with the slot of the key-encryption key, in eight bytes, then the wrapped parameter
abbrev pub unwrap_of : Bool → List ℕ → Option RequestValue
unwrap_of pad body = unwrap_with pad (target_of body) (drop 8 body)
