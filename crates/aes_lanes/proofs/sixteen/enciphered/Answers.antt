use Rattle.std.proofs.Common.{◌≡◌, ◌-◌, ℕ, List, ap, ◌∙◌, arith, slice_index}
use Rattle.aes_spec.specs.Aes.{add_round_key, sub_bytes, shift_rows, mixed_rounds, cipher}
use Rattle.aes_lanes.proofs.Steps.{rounds_state, next_round}
use Rattle.aes_lanes.specs.Nibbles.{to_tower}
use Rattle.aes_lanes.proofs.sixteen.enciphered.Goals as goal

pub loop-round-init : goal.loop-round-init
unfolding mixed_rounds
loop-round-init c j w b h tb keys start r hr = start r hr

pub loop-round-preserved : goal.loop-round-preserved
loop-round-preserved c j w b h tb keys start r hr =
    let n = c.loop-round.round in
    let s = mixed_rounds w (n - 1) b in
    c.mixed_round-mixed.ensures j s (w n) h (rounds_state w (n - 1) b (λ r h. keys.states r (omega arith)) tb) (keys.states n (omega arith)) (c.loop-round.invariant j w b h tb keys start) (keys.mixed n (omega arith) (omega arith)) r hr
    ∙ ap (λ (t : List ℕ). to_tower (slice_index t r)) (next_round w n b (omega arith))

pub returns : goal.returns
unfolding cipher
returns c j w b h tb keys start r hr =
    let n = c.args.rounds in
    let e : c.loop-round.round ≡ n = omega arith in
    c.last_round.ensures j (mixed_rounds w (c.loop-round.round - 1) b) (w n) h (rounds_state w (c.loop-round.round - 1) b (λ r h. keys.states r (omega arith)) tb) (c.loop-round.invariant j w b h tb keys start) keys.last r hr
    ∙ ap (λ (m : ℕ). slice_index (add_round_key (w n) (shift_rows (sub_bytes (mixed_rounds w (m - 1) b)))) r) e
