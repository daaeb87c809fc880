use Rattle.std.proofs.Common.{ℕ, length, drop, ap, ◌∙◌}
use Rattle.std.proofs.lemmas.List.{drop_at, drop-replicate}
use Rattle.bits_core.specs.ByteList.{zeros}
use Rattle.engine_core.proofs.tests.keyed.in_buffer.Goals as goal

pub returns : goal.returns
returns c =
    let n = length c.args.bytes.now in
    drop_at c.copy_from_slice.new.self (drop n (zeros 80)) n (ap (length {A = ℕ}) c.copy_from_slice.ensures.after) ∙ drop-replicate n 80 0
