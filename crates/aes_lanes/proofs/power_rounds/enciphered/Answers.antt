use Rattle.std.proofs.Common.{◌≡◌, ◌-◌, ℕ, List, ap, ◌∙◌, arith, slice_index}
use Rattle.aes_spec.specs.Aes.{add_round_key, sub_bytes, shift_rows, mix_columns, mixed_rounds, cipher}
use Rattle.aes_spec.specs.Key.{words_state}
use Rattle.aes_lanes.proofs.Steps.{next_round}
use Rattle.aes_lanes.proofs.power_rounds.enciphered.Goals as goal

pub loop-round-init : goal.loop-round-init
unfolding mixed_rounds
loop-round-init c j b h es = c.keyed-state.ensures j b (words_state c.args.words.now 0) h es (c.spread_key.ensures j h)

pub loop-round-preserved : goal.loop-round-preserved
loop-round-preserved c j b h es r hr =
    let w = words_state c.args.words.now in
    let n = c.loop-round.round in
    let s = mixed_rounds w (n - 1) b in
    let t = shift_rows (sub_bytes s) in
    c.keyed-state-in-loop-round.ensures j (mix_columns t) (w n) h
    (c.mixed-unkeyed.ensures j t h (c.shifted_sub.ensures j s h (c.loop-round.invariant j b h es)))
    (c.spread_key-in-loop-round.ensures j h) r hr
    ∙ ap (λ (t : List ℕ). slice_index t r) (next_round w n b (omega arith))

pub returns : goal.returns
unfolding cipher
returns c j b h es r hr =
    let w = words_state c.args.words.now in
    let n = c.args.rounds in
    let s = mixed_rounds w (c.loop-round.round - 1) b in
    let e : c.loop-round.round ≡ n = omega arith in
    c.keyed.ensures j (shift_rows (sub_bytes s)) (w n) h (c.shifted_sub-2.ensures j s h (c.loop-round.invariant j b h es)) (c.spread_key-2.ensures j h) r hr
    ∙ ap (λ (m : ℕ). slice_index (add_round_key (w n) (shift_rows (sub_bytes (mixed_rounds w (m - 1) b)))) r) e
