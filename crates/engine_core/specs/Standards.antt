-- The standards' functions, with zeros where they say nothing.
use Rattle.std.specs.Prelude.{ℕ, Bool, true, false, if◌then◌else◌, List, [], length, take, Option, option_map, unwrap_or, bytes_eq}
use Rattle.bits_core.specs.ByteList.{zeros, zero_padded}
use Rattle.aes_core.specs.Key.{aes}
use Rattle.gcm_mode.specs.Gcm.{gcm_tag, gcm_text}
use Rattle.key_wrap.specs.Wrapping.{kw, kwp}
use Rattle.key_wrap.specs.Unwrapping.{unkw, unkwp}
use Rattle.engine_core.specs.Results.{Opened, Wrapped, Unwrapped, wrapped_length}

-- authenticated decryption (SP 800-38D, 7.2): the plaintext where the tag is the leftmost part of the ciphertext's, else zeros
abbrev pub gcm_decrypt : List ℕ → List ℕ → List ℕ → List ℕ → List ℕ → Opened
gcm_decrypt key iv aad ciphertext tag =
    if bytes_eq tag (take (length tag) (gcm_tag key iv aad ciphertext))
    then record { authentic = true; text = gcm_text key iv ciphertext }
    else record { authentic = false; text = zeros (length ciphertext) }

-- KWP-AE or KW-AE (SP 800-38F, 6.3 and 6.2)
abbrev pub wrapping : Bool → List ℕ → List ℕ → List ℕ
wrapping pad key text = if pad then kwp (aes key) text else kw (aes key) text

-- KWP-AD or KW-AD
abbrev pub unwrapping : Bool → List ℕ → List ℕ → Option (List ℕ)
unwrapping pad key wrapped = if pad then unkwp key wrapped else unkw key wrapped

abbrev pub wrapped_in_buffer : Bool → List ℕ → List ℕ → Wrapped
wrapped_in_buffer pad key text = record { size = wrapped_length pad (length text); buf = zero_padded 80 (wrapping pad key text) }

-- a refusal leaves zeros
abbrev pub unwrapped_in_buffer : Bool → List ℕ → List ℕ → Unwrapped
unwrapped_in_buffer pad key wrapped =
    let text = unwrapping pad key wrapped in
    record { size = option_map length text; buf = zero_padded 80 (unwrap_or text []) }
