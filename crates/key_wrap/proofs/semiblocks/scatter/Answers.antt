use Rattle.std.proofs.Common.{◌≡◌, ◌+◌, ◌-◌, ◌*◌, ◌≤◌, ℕ, List, length, drop, ap₂, ◌∙◌, arith}
use Rattle.std.proofs.lemmas.List.{length-take-le, length-drop, take_all}
use Rattle.key_wrap.specs.InPlace.{laid}
use Rattle.key_wrap.proofs.Scattered.{put_mid-laid}
use Rattle.key_wrap.proofs.semiblocks.scatter.Goals as goal

pub returns : goal.returns
returns c =
    let text = c.args.text.now in
    let i = c.args.i in
    let within : 8 ≤ length text = omega (arith, c.requires) in
    let block = c.args.block.now in
    let sixteen = c.told-block in
    let half : length (drop 8 block) ≤ 8 = omega (arith, length-drop 8 block) in
    let long : length c.copy_from_slice.new.self ≡ 8 = c.copy_from_slice.ensures.len ∙ length-take-le 8 text within in
    put_mid-laid c.copy_from_slice.new.self c.copy_from_slice-2.new.self text i (8 * i + 16 - (8 * i + 8)) long (omega arith)
    ∙ ap₂ (λ (u v : List ℕ). laid u i v text) c.copy_from_slice.ensures.after (c.copy_from_slice-2.ensures.after ∙ take_all 8 (drop 8 block) half)
