-- AES as the cipher of the steps.
use Rattle.std.proofs.Common.{◌≡◌, ℕ, ◌+◌, ◌-◌, List, length, refl}
use Rattle.bits_core.specs.ByteList.{IsBytes}
use Rattle.aes_core.specs.Aes.{IsState, sub_bytes, shift_rows, mixed_rounds, cipher}
use Rattle.aes_core.specs.Key.{key_words, round_key, aes, aes_inverse}
use Rattle.aes_spec.proofs.States.{sub_state, shift_state, add_state}
use Rattle.aes_spec.proofs.DecryptionUndoes.{mixed_state}
use Rattle.aes_spec.proofs.RoundKeys.{round_key_state, aes_inverse-aes}
use Rattle.key_wrap.proofs.Undone.{Inverses}

-- a block is made whatever it is made of
pub aes-long : (key b : List ℕ) → length (aes key b) ≡ 16
unfolding cipher
aes-long key b = refl

pub aes-state : (key b : List ℕ) → IsBytes key → IsState b → IsState (aes key b)
unfolding cipher
aes-state key b hk hb =
    let w : ℕ → List ℕ = round_key key in
    let hw : (r : ℕ) → IsState (w r) = round_key_state key hk in
    let n : ℕ = key_words key + 6 in
    let a : List ℕ = mixed_rounds w (n - 1) b in
    add_state (w n) (shift_rows (sub_bytes a)) (hw n) (shift_state (sub_bytes a) (sub_state a (mixed_state w hw (n - 1) b hb)))

pub aes_inverses : (key : List ℕ) → IsBytes key → Inverses (aes key) (aes_inverse key)
aes_inverses key hk = record {
  states = λ b hb. aes-state key b hk hb;
  undone = λ b hb. aes_inverse-aes key b hk hb;
}
