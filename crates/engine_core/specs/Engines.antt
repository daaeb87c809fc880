-- The two engines.
use Rattle.std.specs.Prelude.{ℕ, ◌-◌, ◌==◌, ◌&&◌, Bool, false, List, length, None, if◌then◌else◌}
use Rattle.bits_core.specs.ByteList.{zeros, zero_padded}
use Rattle.drbg_core.specs.declared.generator.Drbg.{Drbg}
use Rattle.drbg_core.specs.Generator.{Generated, instantiate, reseed, generate}
use Rattle.gcm_mode.specs.Gcm.{Sealed, gcm_encrypt}
use Rattle.hmac_core.specs.Hash.{hash}
use Rattle.hmac_core.specs.Hmac.{hmac}
use Rattle.kbkdf_core.specs.CounterMode.{kbkdf_counter}
use Rattle.engine_core.specs.Calls.{Calls}
use Rattle.engine_core.specs.Faults.{turned}
use Rattle.engine_core.specs.Results.{Opened, Wrapped, Unwrapped}
use Rattle.engine_core.specs.Standards.{gcm_decrypt, wrapped_in_buffer, unwrapped_in_buffer}
use Rattle.engine_core.specs.declared.shipped.Shipped.{Shipped}
use Rattle.engine_core.specs.declared.faulty.Faulty.{Faulty}

abbrev pub shipped_calls : Calls Shipped
shipped_calls = record {
  hash = λ v alg text. zero_padded 64 (hash alg text);
  hash_after = λ v alg text. v;
  mac = λ v alg key text. zero_padded 64 (hmac alg key text);
  mac_after = λ v alg key text. v;
  seal = λ v key iv aad text. gcm_encrypt key iv aad text;
  seal_after = λ v key iv aad text. v;
  «open» = λ v key iv aad text tag. gcm_decrypt key iv aad text tag;
  open_after = λ v key iv aad text tag. v;
  wrap = λ v pad key text. wrapped_in_buffer pad key text;
  wrap_after = λ v pad key text. v;
  unwrap = λ v pad key wrapped. unwrapped_in_buffer pad key wrapped;
  unwrap_after = λ v pad key wrapped. v;
  derive = λ v key label context n. kbkdf_counter key label context n;
  derive_after = λ v key label context n. v;
  instantiate = λ v entropy nonce personal. instantiate entropy nonce personal;
  instantiate_after = λ v entropy nonce personal. v;
  reseed = λ v g entropy additional. reseed g entropy additional;
  reseed_after = λ v g entropy additional. v;
  generate = λ v g additional n. generate g additional n;
  generate_after = λ v g additional n. v;
}

-- a call of this number is wrong
abbrev pub fails : ℕ → Faulty → Bool
fails call v = v.call == call && v.left == 0

-- the engine after a call of this number
abbrev pub counted : ℕ → Faulty → Faulty
counted call v = if v.call == call then record v { left = v.left - 1 } else v

-- what is answered where this is right
abbrev pub answered : ℕ → Faulty → List ℕ → List ℕ
answered call v right = if fails call v then turned v.bit right else right

-- a wrong tag
abbrev pub sealed_by : Faulty → Sealed → Sealed
sealed_by v right = record { ciphertext = right.ciphertext; tag = answered 2 v right.tag }

-- a refusal of a text of n bytes
abbrev pub opened_by : Faulty → ℕ → Opened → Opened
opened_by v n right = if fails 3 v then record { authentic = false; text = zeros n } else right

abbrev pub wrapped_by : Faulty → Wrapped → Wrapped
wrapped_by v right = record { size = right.size; buf = answered 4 v right.buf }

-- a refusal
abbrev pub unwrapped_by : Faulty → Unwrapped → Unwrapped
unwrapped_by v right = if fails 5 v then record { size = None; buf = zeros 80 } else right

-- a wrong key of a generator
abbrev pub seeded_by : ℕ → Faulty → Drbg → Drbg
seeded_by call v right = record { k = answered call v right.k; v = right.v; counter = right.counter }

abbrev pub generated_by : Faulty → Generated → Generated
generated_by v right = record { bytes = answered 9 v right.bytes; after = right.after }

abbrev pub faulty_calls : Calls Faulty
faulty_calls = record {
  hash = λ v alg text. answered 0 v (zero_padded 64 (hash alg text));
  hash_after = λ v alg text. counted 0 v;
  mac = λ v alg key text. answered 1 v (zero_padded 64 (hmac alg key text));
  mac_after = λ v alg key text. counted 1 v;
  seal = λ v key iv aad text. sealed_by v (gcm_encrypt key iv aad text);
  seal_after = λ v key iv aad text. counted 2 v;
  «open» = λ v key iv aad text tag. opened_by v (length text) (gcm_decrypt key iv aad text tag);
  open_after = λ v key iv aad text tag. counted 3 v;
  wrap = λ v pad key text. wrapped_by v (wrapped_in_buffer pad key text);
  wrap_after = λ v pad key text. counted 4 v;
  unwrap = λ v pad key wrapped. unwrapped_by v (unwrapped_in_buffer pad key wrapped);
  unwrap_after = λ v pad key wrapped. counted 5 v;
  derive = λ v key label context n. answered 6 v (kbkdf_counter key label context n);
  derive_after = λ v key label context n. counted 6 v;
  instantiate = λ v entropy nonce personal. seeded_by 7 v (instantiate entropy nonce personal);
  instantiate_after = λ v entropy nonce personal. counted 7 v;
  reseed = λ v g entropy additional. seeded_by 8 v (reseed g entropy additional);
  reseed_after = λ v g entropy additional. counted 8 v;
  generate = λ v g additional n. generated_by v (generate g additional n);
  generate_after = λ v g additional n. counted 9 v;
}
