use Rattle.std.proofs.Common.{refl}
use Rattle.vector_suite.proofs.Buffers.{filled}
use Rattle.vector_suite.proofs.answers.buffer_of.Goals as goal

pub returns : goal.returns
returns c = filled c.args.bytes.now c.copy_from_slice.new.self _ c.copy_from_slice.ensures.after refl
