use Rattle.std.proofs.Common.{refl}
use Rattle.gcm_mode.specs.Gcm.{bit_lengths}
use Rattle.gcm_mode.proofs.blocks.lengths.Goals as goal

pub returns : goal.returns
unfolding bit_lengths
returns c = rw (c.to_be_bytes.ensures, c.to_be_bytes-2.ensures) refl
