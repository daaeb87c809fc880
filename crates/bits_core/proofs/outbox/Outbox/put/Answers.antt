use Rattle.std.proofs.Common.{◌≡◌, ◌≤◌, ◌+◌, ◌++◌, ℕ, ◌-◌, List, length, take, drop, arith, ap, sym, ◌∙◌}
use Rattle.std.proofs.lemmas.List.{length-take}
use Rattle.bits_core.specs.OutboxContents.{OutboxContents, holding}
use Rattle.bits_core.specs.ByteList.{zeros}
use Rattle.bits_core.proofs.Appended.{whole, still_zeros, shows}
use Rattle.bits_core.proofs.outbox.Outbox.put.Goals as goal

-- the buffer's whole list was written, and its unused part is still zero
written : (size used : ℕ) (new slice old piece : List ℕ) → slice ≡ old → length slice ≡ size → length new ≡ length slice
    → drop (used + length piece) new ≡ drop (used + length piece) slice → drop used old ≡ zeros (length old - used)
    → let items : List ℕ = take size (new ++ drop (length new) old) in
    (items ≡ new) × (drop (used + length piece) items ≡ zeros (length items - (used + length piece)))
written size used new slice old piece same long kept rest zero =
    let all : take size (new ++ drop (length new) old) ≡ new = whole size new old (sym (ap length same) ∙ long) (kept ∙ long) in
    (all, still_zeros (take size (new ++ drop (length new) old)) new old used (length piece) all (rest ∙ ap (drop (used + length piece)) same) (kept ∙ ap length same) zero)

-- the requirement speaks of what contracts see, and the fields are behind it
fits : (old : List ℕ) (used more : ℕ) (seen : OutboxContents) → record { bytes = take used old; room = length old; unused = drop used old } ≡ seen → used ≤ length old
    → length seen.bytes + more ≤ seen.room → used + more ≤ length old
fits old used more seen is within room =
    let bytes_are : length (take used old) ≡ length seen.bytes = ap (λ (s : OutboxContents). length s.bytes) is in
    let room_is : length old ≡ seen.room = ap (λ (s : OutboxContents). s.room) is in
    omega (arith, length-take used old)

pub invariant_of-self : goal.invariant_of-self
invariant_of-self c =
    let box = c.self.inside in
    let w = c.write_at.ensures in
    let d = c.deref_mut.ensures in
    let room = fits box.buffer.items box.used (length c.args.piece.now) c.args.self.now c.self.view_is c.self.invariant.0 c.requires in
    let new = written box.buffer.len box.used c.write_at.new.buffer c.deref_mut.result.now box.buffer.items c.args.piece.now d.value d.len w.same_length w.rest c.self.invariant.1 in
    (omega (arith, ap length new.0, room, ap length d.value), new.1, c.self.invariant.2)

pub returns : goal.returns
returns c =
    let box = c.self.inside in
    let w = c.write_at.ensures in
    let d = c.deref_mut.ensures in
    let room = fits box.buffer.items box.used (length c.args.piece.now) c.args.self.now c.self.view_is c.self.invariant.0 c.requires in
    let new = written box.buffer.len box.used c.write_at.new.buffer c.deref_mut.result.now box.buffer.items c.args.piece.now d.value d.len w.same_length w.rest c.self.invariant.1 in
    shows _ c.write_at.new.buffer box.buffer.items c.args.piece.now box.used new.0 (w.written ∙ ap (λ (xs : List ℕ). take box.used xs ++ c.args.piece.now) d.value) (w.same_length ∙ ap length d.value) new.1 room
    ∙ ap (λ (s : OutboxContents). holding (s.bytes ++ c.args.piece.now) s.room) c.self.view_is
