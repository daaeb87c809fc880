use Rattle.std.proofs.Common.{◌≡◌, ℕ, List, ◌%◌, slice_index_or}
use Rattle.bits_core.specs.ByteList.{zeros}
use Rattle.bits_core.proofs.ZeroPadding.{get_or-zeros}
use Rattle.command_serving.specs.declared.dead_stack.TheConstants.{DEAD_STACK}
use Rattle.command_serving.proofs.dead_stack.wipe_dead_stack.Goals as goal

-- each byte of wiped bytes is zero
read_zero : (bytes : List ℕ) (n place : ℕ) → bytes ≡ zeros n → slice_index_or bytes place 0 ≡ 0
read_zero bytes n place wiped = rw wiped (get_or-zeros n place)

pub returns : goal.returns
returns c = read_zero _ DEAD_STACK (c.args.place % DEAD_STACK) c.wipe.ensures
