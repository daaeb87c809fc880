use Rattle.std.proofs.Common.{subst, ◌≡◌, ◌*◌, ◌/◌, ℕ, length, arith}
use Rattle.aes_spec.specs.Aes.{cipher}
use Rattle.aes_spec.specs.Key.{words_state}
use Rattle.aes_lanes.specs.Streams.{Adds}
use Rattle.aes_lanes.proofs.Parts.{adds_all}
use Rattle.aes_lanes.proofs.power_stream.add_stream_by_powers.Goals as goal

pub returns : goal.returns
returns c =
    let f = cipher (words_state c.args.words.now) c.args.rounds in
    let s = c.args.start.now in
    let x = c.args.text.now in
    let y = c.add_groups.new.text in
    let b : ℕ = 16 * (16 * (length y / 256)) in
    let e : 256 * (length x / 256) ≡ b = omega arith in
    adds_all f s x y c.add_singles.new.text b (subst (λ (n : ℕ). Adds f s x y 0 n) e c.add_groups.ensures) c.add_singles.ensures
