use Rattle.std.proofs.Common.{◌≡◌, ◌<◌, ◌++◌, [], IfSome, option_map, take, length, arith}
use Rattle.outside.proofs.Loading.{all_of_fewer}
use Rattle.outside.proofs.disk_files.read_within.Goals as goal

pub returns-in-Ok-2-clause-whole : goal.returns-in-Ok-2-clause-whole
returns-in-Ok-2-clause-whole g c =
    let got = c.read_to_end.new.buf.items in
    let most = c.saturating_add-most.result in
    let fewer : length got < most = omega (arith, c.in-Ok-2.ensures.ok, c.in-Ok-2.count-is, c.if-count-most.true, c.new-bytes.ensures.len) in
    let bytes : IfSome (option_map (take most) (g.T.Read.remaining c.args.reader)) (λ xs. got ≡ [] ++ xs) = rw (c.take.ensures.inner, c.take.ensures.limit, c.new-bytes.ensures.items) at c.in-Ok-2.ensures.bytes in
    all_of_fewer (g.T.Read.remaining c.args.reader) most got bytes fewer
