use Rattle.std.proofs.Common.{◌≡◌, ◌≤◌, ◌+◌, take, drop, length, refl, arith, length-drop}
use Rattle.std.proofs.lemmas.List.{take_rest}
use Rattle.outside.proofs.Pieces.{piece_left}
use Rattle.outside.proofs.memory_source.MemSourceSource.read.Goals as goal

pub returns-clause-taken : goal.returns-clause-taken
returns-clause-taken c =
    let at = c.self.inside.taken in
    let all = c.self.inside.bytes.items in
    let count = c.min-count.result in
    let rest = take_rest c.deref.result.now at in
    let copied : c.copy_from_slice.new.self ≡ take count (drop at all) = rw (rest, c.deref.ensures.value) at c.copy_from_slice.ensures.after in
    let least : count ≡ _ = rw (rest, c.deref.ensures.value) at c.min-count.ensures in
    let fits : at + count ≤ length all = omega (arith, least, length-drop at all, c.self.invariant.0) in
    (drop (at + count) all, rw (← c.self.view_is) (piece_left all _ c.copy_from_slice.new.self at count fits copied), refl)
