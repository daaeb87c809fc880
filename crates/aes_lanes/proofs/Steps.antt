-- The rounds, one after the other.
use Rattle.std.proofs.Common.{◌≡◌, ◌≤◌, ◌+◌, ◌-◌, ℕ, zero, suc, List, ap, sym, ◌∙◌, arith}
use Rattle.aes_spec.specs.Aes.{IsState, add_round_key, sub_bytes, shift_rows, mix_columns, mixed_rounds}
use Rattle.aes_spec.proofs.States.{sub_state, shift_state, mix_state, add_state}

pub rounds_state : (w : ℕ → List ℕ) (n : ℕ) (s : List ℕ) → ((r : ℕ) → r ≤ n → IsState (w r)) → IsState s → IsState (mixed_rounds w n s)
unfolding mixed_rounds
rounds_state w zero s hw hs = add_state (w 0) s (hw 0 (omega arith)) hs
rounds_state w (suc n) s hw hs =
    let t = mixed_rounds w n s in
    add_state (w (n + 1)) (mix_columns (shift_rows (sub_bytes t))) (hw (n + 1) (omega arith)) (mix_state (shift_rows (sub_bytes t)) (shift_state (sub_bytes t) (sub_state t (rounds_state w n s (λ r h. hw r (omega arith)) hs))))

pub next_round : (w : ℕ → List ℕ) (n : ℕ) (s : List ℕ) → 1 ≤ n
    → add_round_key (w n) (mix_columns (shift_rows (sub_bytes (mixed_rounds w (n - 1) s)))) ≡ mixed_rounds w (n + 1 - 1) s
unfolding mixed_rounds
next_round w n s h =
    let p : n + 1 - 1 ≡ suc (n - 1) = omega arith in
    let q : n ≡ n - 1 + 1 = omega arith in
    ap (λ (m : ℕ). add_round_key (w m) (mix_columns (shift_rows (sub_bytes (mixed_rounds w (n - 1) s))))) q
    ∙ ap (λ (m : ℕ). mixed_rounds w m s) (sym p)
