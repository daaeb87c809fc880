use Rattle.std.proofs.Common.{List, ℕ, ◌<◌, ◌/◌, ap, arith, slice_index}
use Rattle.std.proofs.lemmas.Grind.{common_steps, rows}
use Rattle.aes_core.proofs.Words.{added_at_multiple, round_constant_is}
use Rattle.aes_core.proofs.expansion.added.Goals as goal

pub returns-then-i-nk-eq0 : goal.returns-then-i-nk-eq0
returns-then-i-nk-eq0 c =
    let within : c.args.i / c.args.nk < 15 = grind (arith, common_steps, rows) in
    let e = c.sub_word.ensures in
    added_at_multiple c.args.nk c.args.i c.args.last _ _ _ _ _ c.if-i-nk-eq0.true
    (ap (λ (w : List ℕ). slice_index w 1) e) (ap (λ (w : List ℕ). slice_index w 2) e) (ap (λ (w : List ℕ). slice_index w 3) e) (ap (λ (w : List ℕ). slice_index w 0) e)
    (round_constant_is (c.args.i / c.args.nk) within)
