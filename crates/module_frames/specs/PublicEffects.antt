-- What the services make of the public state. These rules are this project's own. The sequence number that is expected changes where a
-- numbered command is taken, and nowhere else.
use Rattle.std.specs.Prelude.{ℕ, ◌+◌, ◌%◌, ◌^◌, ◌==◌, ◌&&◌, not, nat_lt, Bool, if◌then◌else◌}
use Rattle.service_table.specs.declared.failure.Failure.{Failure}
use Rattle.service_table.specs.Failures.{failure_code}
use Rattle.service_table.specs.declared.state.State.{State}
use Rattle.service_table.specs.declared.state.State.TheVariants as state
use Rattle.service_table.specs.Numbers.{state_number}
use Rattle.module_frames.specs.declared.public_state.PublicState.{PublicState}

-- A numbered command that comes in its order: the number after it is expected now, and 0 after the last one of 32 bits.
abbrev pub sequence_taken : PublicState → PublicState
sequence_taken public = record public { next_sequence = (public.next_sequence + 1) % 2 ^ 32 }

-- PowerOn: Off to Init, and sets the period, of which no use is counted yet
abbrev pub powered_on : ℕ → PublicState → PublicState
powered_on period public = record public { state = state.Init; period = period; uses_since_tests = 0 }

-- where self-tests return that were asked for in this state: where it was, and from Init to Approved
abbrev pub return_from : State → State
return_from state.Off = state.Off
return_from state.Init = state.Approved
return_from state.SelfTest = state.SelfTest
return_from state.Approved = state.Approved
return_from state.Officer = state.Officer
return_from state.User = state.User
return_from state.Entry = state.Entry
return_from state.Error = state.Error

-- RequestTests: the tests are due from the first one on, and a period begins
abbrev pub tests_requested : PublicState → PublicState
tests_requested public = record public { state = state.SelfTest; return_state = return_from public.state; tests_done = 0; uses_since_tests = 0 }

-- TestStep: the next of three tests is done, and after the last one it is back where tests return
abbrev pub test_done : PublicState → PublicState
test_done public =
    if nat_lt public.tests_done 2
    then record public { tests_done = public.tests_done + 1 }
    else record public { state = public.return_state; return_state = state.Off; tests_done = 0 }

-- a failure: the state is Error, with the code of what failed, and no test is due any more
abbrev pub has_failed : Failure → PublicState → PublicState
has_failed reason public = record public { state = state.Error; return_state = state.Off; tests_done = 0; error_code = failure_code reason }

-- the state of a role: none, the crypto officer's, the user's
abbrev pub role_state : ℕ → State
role_state role = if role == 0 then state.Approved else if role == 1 then state.Officer else state.User

-- SelectRole: the state of the role
abbrev pub role_selected : ℕ → PublicState → PublicState
role_selected role public = record public { state = role_state role }

-- Reset: to Init; the period and the expected sequence number stay
abbrev pub was_reset : PublicState → PublicState
was_reset public = record public { state = state.Init; return_state = state.Off; tests_done = 0; uses_since_tests = 0; error_code = 0 }

-- EntryBegin: a parameter is being entered
abbrev pub entry_begun : PublicState → PublicState
entry_begun public = record public { state = state.Entry }

-- EntryCommit, whatever it answers, and EntryAbort: the officer goes on
abbrev pub entry_ended : PublicState → PublicState
entry_ended public = record public { state = state.Officer }

-- A cryptographic service counts as a use before it is done; with a period of 0 none is counted.
abbrev pub use_counted : PublicState → PublicState
use_counted public = record public { uses_since_tests = if public.period == 0 then public.uses_since_tests else public.uses_since_tests + 1 }

-- the uses of a period are all made, and nothing failed
abbrev pub is_period_over : PublicState → Bool
is_period_over public = nat_lt 0 public.period && (public.uses_since_tests == public.period && not (state_number public.state == state_number state.Error))

-- the end of a period: tests are due, and lead back to where it is
abbrev pub sent_to_tests : PublicState → PublicState
sent_to_tests public = record public { state = state.SelfTest; return_state = public.state; tests_done = 0; uses_since_tests = 0 }
