use Rattle.std.proofs.Common.{subst, ◌≡◌, ◌-◌, ◌<◌, ℕ, List, refl, ap, ap₂, sym, ◌∙◌, arith, bit_xor, slice_index}
use Rattle.std.proofs.lemmas.Grind.{same_number_lists}
use Rattle.aes_spec.specs.Aes.{IsState, add_round_key, sub_bytes, shift_rows, mix_columns, mixed_rounds, cipher}
use Rattle.aes_spec.specs.Key.{words_state}
use Rattle.aes_spec.proofs.States.{sub_state, shift_state, mix_state, add_state}
use Rattle.aes_lanes.specs.Nibbles.{to_tower}
use Rattle.aes_lanes.proofs.Steps.{next_round}
use Rattle.aes_lanes.proofs.Tower.{below_16, tower_sum}
use Rattle.aes_lanes.proofs.single.enciphered.Goals as goal

pub loop-round-init : goal.loop-round-init
unfolding mixed_rounds
loop-round-init c =
    let b = c.args.block in
    let w0 = words_state c.args.words.now 0 in
    let e = c.round_key.ensures in
    let tb = c.first_lanes.ensures.state in
    let tk : IsState w0 = subst IsState e c.first_lanes-2.ensures.state in
    record {
      states = add_state w0 b tk tb;
      lanes = λ r hr.
          c.sum-state.ensures r hr
          ∙ ap₂ bit_xor (c.first_lanes.ensures.lanes r hr) (c.first_lanes-2.ensures.lanes r hr ∙ ap (λ (k : List ℕ). to_tower (slice_index k r)) e)
          ∙ sym (tower_sum (slice_index b r) (slice_index w0 r) (tb.small r) (tk.small r))
          ∙ below_16 (λ (r : ℕ). to_tower (bit_xor (slice_index b r) (slice_index w0 r)) ≡ to_tower (slice_index (add_round_key w0 b) r)) refl refl refl refl refl refl refl refl refl refl refl refl refl refl refl refl r hr;
    }

pub loop-round-preserved : goal.loop-round-preserved
loop-round-preserved c =
    let w = words_state c.args.words.now in
    let n = c.loop-round.round in
    let b = c.args.block in
    let s = mixed_rounds w (n - 1) b in
    let inv = c.loop-round.invariant in
    let e = c.round_key-in-loop-round.ensures in
    let tk : IsState (w n) = subst IsState e c.mixed_lanes.ensures.state in
    let next = next_round w n b (omega arith) in
    record {
      states = subst IsState next (add_state (w n) (mix_columns (shift_rows (sub_bytes s))) tk (mix_state (shift_rows (sub_bytes s)) (shift_state (sub_bytes s) (sub_state s inv.states))));
      lanes = λ r hr.
          c.single_round-mixed.ensures s (w n) inv.states tk inv.lanes
          (λ r hr. c.mixed_lanes.ensures.lanes r hr ∙ ap (λ (k : List ℕ). to_tower (bit_xor (slice_index k r) 99)) e) r hr
          ∙ ap (λ (t : List ℕ). to_tower (slice_index t r)) next;
    }

pub returns : goal.returns
unfolding cipher
returns c =
    let w = words_state c.args.words.now in
    let n = c.args.rounds in
    let b = c.args.block in
    let inv = c.loop-round.invariant in
    let e : c.loop-round.round ≡ n = omega arith in
    let key = c.round_key-2.ensures in
    same_number_lists c.last_single.result (cipher w n b) (omega (arith, c.last_single.type_inv))
    (λ r h.
    let hr : r < 16 = omega (arith, c.last_single.type_inv) in
    c.last_single.ensures (mixed_rounds w (c.loop-round.round - 1) b) (w n) inv.states inv.lanes
    (λ r hr. c.last_lanes.ensures.lanes r hr ∙ ap (λ (k : List ℕ). bit_xor (slice_index k r) 99) key) r hr
    ∙ ap (λ (m : ℕ). slice_index (add_round_key (w n) (shift_rows (sub_bytes (mixed_rounds w (m - 1) b)))) r) e)
