use Rattle.std.proofs.Common.{◌≡◌, ◌≤◌, ◌<◌, ◌+◌, ◌-◌, ℕ, List, suc, ap, sym, ◌∙◌, arith}
use Rattle.aes_spec.specs.Aes.{add_round_key, inv_sub_bytes, inv_shift_rows, inv_mix_columns, unmixed_rounds, inverse_cipher}
use Rattle.aes_spec.specs.Key.{words_state}
use Rattle.aes_lanes.proofs.inverse.deciphered.Goals as goal

-- one round back, where `left` rounds with mixing are still to undo
one_back : (w : ℕ → List ℕ) (rounds done : ℕ) (st : List ℕ) → done < rounds
    → unmixed_rounds w (rounds - (done + 1)) (inv_sub_bytes (inv_shift_rows (inv_mix_columns (add_round_key (w (rounds - done)) st)))) ≡ unmixed_rounds w (rounds - done) st
unfolding unmixed_rounds
one_back w rounds done st h =
    let n = rounds - (done + 1) in
    let p : rounds - done ≡ suc n = omega arith in
    let q : rounds - done ≡ n + 1 = omega arith in
    ap (λ (m : ℕ). unmixed_rounds w n (inv_sub_bytes (inv_shift_rows (inv_mix_columns (add_round_key (w m) st))))) q
    ∙ ap (λ (m : ℕ). unmixed_rounds w m st) (sym p)

pub loop-done-init : goal.loop-done-init
unfolding inverse_cipher
loop-done-init c =
    let w = words_state c.args.words.now in
    ap (unmixed_rounds w (c.args.rounds - 1))
    (c.unsubstituted-state.ensures
    ∙ ap (λ (t : List ℕ). inv_sub_bytes (inv_shift_rows t)) (c.add_key.ensures ∙ ap (λ (k : List ℕ). add_round_key k c.args.block) c.round_key.ensures))

pub loop-done-preserved : goal.loop-done-preserved
loop-done-preserved c =
    let w = words_state c.args.words.now in
    let done = c.loop-done.done in
    ap (unmixed_rounds w (c.args.rounds - (done + 1)))
    (c.unsubstituted-state-in-loop-done.ensures
    ∙ ap (λ (t : List ℕ). inv_sub_bytes (inv_shift_rows t))
    (c.unmixed.ensures ∙ ap inv_mix_columns (c.add_key-unkeyed.ensures ∙ ap (λ (k : List ℕ). add_round_key k c.loop-done.state) c.round_key-in-loop-done.ensures)))
    ∙ one_back w c.args.rounds done c.loop-done.state c.loop-done-test.true
    ∙ c.loop-done.invariant

-- with no round left only the first round key is to add
none_left : (w : ℕ → List ℕ) (rounds done : ℕ) (st : List ℕ) → rounds ≤ done → add_round_key (w 0) st ≡ unmixed_rounds w (rounds - done) st
unfolding unmixed_rounds
none_left w rounds done st h = let e : 0 ≡ rounds - done = omega arith in ap (λ (m : ℕ). unmixed_rounds w m st) e

pub returns : goal.returns
returns c =
    let w = words_state c.args.words.now in
    c.add_key-2.ensures
    ∙ ap (λ (k : List ℕ). add_round_key k c.loop-done.state) c.round_key-2.ensures
    ∙ none_left w c.args.rounds c.loop-done.done c.loop-done.state c.loop-done-test.false
    ∙ c.loop-done.invariant
