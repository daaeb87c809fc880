use Rattle.std.proofs.Common.{◌≡◌, ◌+◌, ◌*◌, ℕ, List, [], ◌∷◌, ◌++◌, take, drop, ap, rules, arith, slice_index}
use borrow.Rule.Slice.PartMut.{put_mid}
use Rattle.bits_core.specs.ByteList.{IsBytes}
use Rattle.key_wrap.specs.InPlace.{block_at}
use Rattle.bits_core.proofs.Bytes.{small_along, IsBytes-append, IsBytes-take, IsBytes-drop}
use Rattle.key_wrap.proofs.semiblocks.gather.Goals as goal

pub returns-clause-bytes : goal.returns-clause-bytes
returns-clause-bytes c = λ n.
    let text = c.args.text.now in
    let i = c.args.i in
    let zero : List ℕ = 0 ∷ 0 ∷ 0 ∷ 0 ∷ 0 ∷ 0 ∷ 0 ∷ 0 ∷ [] in
    let made : List ℕ = put_mid 8 8 (c.copy_from_slice.new.self ++ zero) c.copy_from_slice-2.new.self in
    let is : made ≡ block_at i text = search rules in
    let small : IsBytes text = λ k. omega (arith, c.type_inv.text k) in
    let block : IsBytes (block_at i text) = IsBytes-append (take 8 text) (take 8 (drop (8 * i + 8) text)) (IsBytes-take 8 text small) (IsBytes-take 8 (drop (8 * i + 8) text) (IsBytes-drop (8 * i + 8) text small)) in
    small_along (slice_index made n) (slice_index (block_at i text) n) (ap (λ (l : List ℕ). slice_index l n) is) (block n)
