-- Decryption undoes encryption.
use Rattle.std.proofs.Common.{◌≡◌, ℕ, zero, suc, ◌+◌, ◌-◌, List, ap, ◌∙◌}
use Rattle.aes_spec.specs.Aes.{sub_bytes, inv_sub_bytes, shift_rows, inv_shift_rows, mix_columns, inv_mix_columns, IsState, mixed_rounds, cipher, unmixed_rounds, inverse_cipher}
use Rattle.aes_spec.proofs.InverseSteps.{unshift, unsubbed, unmixed, unadded}
use Rattle.aes_spec.proofs.States.{sub_state, shift_state, mix_state, add_state}

pub mixed_state : (w : ℕ → List ℕ) → ((r : ℕ) → IsState (w r)) → (n : ℕ) (s : List ℕ) → IsState s → IsState (mixed_rounds w n s)
unfolding mixed_rounds
mixed_state w hw zero s h = add_state (w 0) s (hw 0) h
mixed_state w hw (suc n) s h =
    let a = mixed_rounds w n s in
    let b = sub_bytes a in
    let c = shift_rows b in
    add_state (w (n + 1)) (mix_columns c) (hw (n + 1)) (mix_state c (shift_state b (sub_state a (mixed_state w hw n s h))))

pub unmixed_rounds_law : (w : ℕ → List ℕ) → ((r : ℕ) → IsState (w r)) → (n : ℕ) (s : List ℕ) → IsState s → unmixed_rounds w n (mixed_rounds w n s) ≡ s
unfolding mixed_rounds unmixed_rounds
unmixed_rounds_law w hw zero s h = unadded (w 0) s h
unmixed_rounds_law w hw (suc n) s h =
    let a = mixed_rounds w n s in
    let ta = mixed_state w hw n s h in
    let b = sub_bytes a in
    let tb = sub_state a ta in
    let c = shift_rows b in
    let tc = shift_state b tb in
    let d = mix_columns c in
    let td = mix_state c tc in
    ap (λ (x : List ℕ). unmixed_rounds w n (inv_sub_bytes (inv_shift_rows (inv_mix_columns x)))) (unadded (w (n + 1)) d td)
    ∙ ap (λ (x : List ℕ). unmixed_rounds w n (inv_sub_bytes (inv_shift_rows x))) (unmixed c tc)
    ∙ ap (λ (x : List ℕ). unmixed_rounds w n (inv_sub_bytes x)) (unshift b tb)
    ∙ ap (λ (x : List ℕ). unmixed_rounds w n x) (unsubbed a ta)
    ∙ unmixed_rounds_law w hw n s h

pub undone : (w : ℕ → List ℕ) → ((r : ℕ) → IsState (w r)) → (n : ℕ) (s : List ℕ) → IsState s → inverse_cipher w n (cipher w n s) ≡ s
unfolding cipher inverse_cipher
undone w hw n s h =
    let a = mixed_rounds w (n - 1) s in
    let ta = mixed_state w hw (n - 1) s h in
    let b = sub_bytes a in
    let tb = sub_state a ta in
    let c = shift_rows b in
    ap (λ (x : List ℕ). unmixed_rounds w (n - 1) (inv_sub_bytes (inv_shift_rows x))) (unadded (w n) c (shift_state b tb))
    ∙ ap (λ (x : List ℕ). unmixed_rounds w (n - 1) (inv_sub_bytes x)) (unshift b tb)
    ∙ ap (λ (x : List ℕ). unmixed_rounds w (n - 1) x) (unsubbed a ta)
    ∙ unmixed_rounds_law w hw (n - 1) s h
