-- The part of the module's state that everyone may see, and the status blocks that tell it. The states and blocks are this
-- project's own.
use Rattle.std.specs.Prelude.{ℕ, List, ◌∷◌, ◌++◌, replicate, codes, if◌then◌else◌}
use Rattle.std.specs.Int.{to_be_bytes, w16, w32}
use Rattle.bits_core.specs.declared.parameter.Header.{Header}
use Rattle.bits_core.specs.Parameters.{kind_number, domain_number}
use Rattle.service_table.specs.declared.state.State.TheVariants as state
use Rattle.service_table.specs.Numbers.{state_number}
use Rattle.module_frames.specs.declared.public_state.PublicState.{PublicState}

-- without power: a command is expected to have the sequence number 1, and all else is zero
abbrev pub unpowered : PublicState
unpowered = record { state = state.Off; return_state = state.Off; tests_done = 0; period = 0; uses_since_tests = 0; error_code = 0; next_sequence = 1 }

-- a status block that tells nothing
abbrev pub no_block : List ℕ
no_block = replicate 12 0

-- The status block that tells the public state: the state to return to and the number of self-tests done in a byte each, the tests
-- that passed in two bytes, the period and the uses since the last tests in four.
abbrev pub status_block : PublicState → ℕ → List ℕ
status_block public tests_passed =
    state_number public.return_state ∷ public.tests_done
    ∷ (to_be_bytes w16 tests_passed ++ (to_be_bytes w32 public.period ++ to_be_bytes w32 public.uses_since_tests))

-- the status block that tells the sequence number that is expected: four bytes, and eight zeros
abbrev pub sequence_block : PublicState → List ℕ
sequence_block public = to_be_bytes w32 public.next_sequence ++ replicate 8 0

-- the status block that tells name and version
abbrev pub version_block : List ℕ
version_block = codes "SYMMOD 01.00"

-- The status block that tells what a full slot holds, but for its bytes: that it is full, kind, domain, export flag and length in a byte
-- each, three zeros, and the uses left in four bytes.
abbrev pub header_block : ℕ → Header → List ℕ
header_block long header =
    1 ∷ kind_number header.kind ∷ domain_number header.domain ∷ (if header.export then 1 else 0) ∷ long ∷ 0 ∷ 0 ∷ 0 ∷ to_be_bytes w32 header.uses
