use Rattle.std.proofs.Common.{subst, ◌≡◌, ◌*◌, ℕ, List, sym}
use Rattle.aes_spec.specs.Aes.{cipher}
use Rattle.aes_spec.specs.Key.{words_state}
use Rattle.aes_lanes.specs.Streams.{Adds}
use Rattle.aes_lanes.proofs.Parts.{adds_none, adds_all}
use Rattle.aes_lanes.proofs.stream.add_stream.Goals as goal
use Rattle.aes_lanes.proofs.stream.add_stream.Goals.{then-text-ge-HALF_GROUP, else-text-ge-HALF_GROUP}

pub returns : goal.returns
returns c =
    let f = cipher (words_state c.args.words.now) c.args.rounds in
    let s = c.args.start.now in
    let x = c.args.text.now in
    let y = c.if-text-ge-HALF_GROUP.text in
    let b = c.if-text-ge-HALF_GROUP.done in
    let first : Adds f s x y 0 (16 * b) = elim c.if-text-ge-HALF_GROUP.branch [
      | then-text-ge-HALF_GROUP w ↦
          let ey : w.add_by_groups-done.new.text ≡ y = sym w.text-is in
          let eb : w.add_by_groups-done.result ≡ b = sym w.done-is in
          subst (λ (t : List ℕ). Adds f s x t 0 (16 * b)) ey (subst (λ (n : ℕ). Adds f s x w.add_by_groups-done.new.text 0 (16 * n)) eb w.add_by_groups-done.ensures)
      | else-text-ge-HALF_GROUP w ↦
          let ey : x ≡ y = sym w.text-is in
          let eb : 0 ≡ b = sym w.done-is in
          subst (λ (t : List ℕ). Adds f s x t 0 (16 * b)) ey (subst (λ (n : ℕ). Adds f s x x 0 (16 * n)) eb (adds_none f s x 0))
    ] in
    adds_all f s x y c.add_singles.new.text (16 * b) first c.add_singles.ensures
