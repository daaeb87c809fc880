use Rattle.std.proofs.Common.{◌≤◌, ℕ, take, arith}
use Rattle.std.proofs.lemmas.List.{length-take-le}
use Rattle.ssp_slots.proofs.WellFormedSlots.{length_fits-le}
use Rattle.vault_backup.proofs.restoring.fill_slot.Goals as goal

pub returns-clause-filled : goal.returns-clause-filled
returns-clause-filled c = λ key is.
    let n : ℕ = c.args.head.now.length in
    let most : n ≤ 64 = length_fits-le c.args.head.now.header.kind c.args.head.now.header.domain n c.requires.fits in
    let buf = c.unwrap_into.new.buf in
    (take n buf, c.unwrap_into.ensures key is, length-take-le n buf (omega (arith, c.unwrap_into.array_long, most)), c.put_parameter.ensures.filled)
