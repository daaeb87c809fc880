-- A session: a list of commands that a seed and a count make (a generator of this project's own).
use Rattle.std.specs.Prelude.{ℕ, zero, suc, ◌≡◌, ◌+◌, ◌*◌, ◌/◌, ◌%◌, ◌^◌, ◌==◌, Bool, true, false, List, [], ◌∷◌, ◌++◌, None, if◌then◌else◌, map}
use Rattle.std.specs.List.{range_with_len}
use Rattle.std.specs.Int.{to_be_bytes, w32}
use Rattle.bits_core.specs.ByteList.{zeros}
use Rattle.module_frames.specs.CommandFrames.{CommandFrame}
use Rattle.service_table.specs.declared.service.Service.{Service}
use Rattle.service_table.specs.declared.service.Service.TheVariants as service
use Rattle.service_table.specs.Numbers.{service_number}

-- a command of version 1
abbrev pub command_of : Service → List ℕ → CommandFrame
command_of requested body = record { service = service_number requested; sequence = None; body = body }

-- a key of 32 bytes and of this kind is generated into the slot: approved, for export, with 1,000,000 uses
abbrev pub generated_key : ℕ → ℕ → CommandFrame
generated_key slot kind = command_of service.Generate (slot ∷ kind ∷ 1 ∷ 1 ∷ (to_be_bytes w32 1000000 ++ 32 ∷ []))

-- The commands with which each session begins: power with period 0, the tests, the officer's role, an approved key of each kind in the slots
-- 0 to 3, and the user's role.
abbrev pub first_commands : List CommandFrame
first_commands =
    command_of service.PowerOn (0 ∷ 0 ∷ 0 ∷ 0 ∷ [])
    ∷ command_of service.RequestTests []
    ∷ command_of service.TestStep []
    ∷ command_of service.TestStep []
    ∷ command_of service.TestStep []
    ∷ command_of service.SelectRole (1 ∷ [])
    ∷ generated_key 0 1
    ∷ generated_key 1 2
    ∷ generated_key 2 3
    ∷ generated_key 3 4
    ∷ command_of service.SelectRole (2 ∷ [])
    ∷ []

-- the number after x, by a linear congruence modulo 2^64
abbrev pub next_number : ℕ → ℕ
next_number x = (6364136223846793005 * x + 1442695040888963407) % 2 ^ 64

-- the upper 32 bits of a number, which decide a command
abbrev pub upper_half : ℕ → ℕ
upper_half x = x / 2 ^ 32

-- how long a text is, and the number of a slot
abbrev pub size_of : ℕ → ℕ
size_of r = r / 256 % 4096

-- the text of a command
unfoldable pub text_of : ℕ → List ℕ
text_of r = map (λ i. (i + r) % 256) (range_with_len 0 (size_of r))

-- the command that the number r decides, by its remainder modulo 8
abbrev pub drawn_command : ℕ → CommandFrame
drawn_command r =
    if r % 8 == 0 then command_of service.Hash (1 ∷ text_of r)
    else if r % 8 == 1 then command_of service.Mac (2 ∷ 1 ∷ 32 ∷ text_of r)
    else if r % 8 == 2 then command_of service.Seal (0 ∷ 16 ∷ (zeros 4 ++ text_of r))
    else if r % 8 == 3 then command_of service.Random (to_be_bytes w32 (size_of r + 1))
    else if r % 8 == 4 then command_of service.Hash (3 ∷ text_of r)
    else if r % 8 == 5 then command_of service.Open (0 ∷ 16 ∷ 12 ∷ (zeros 16 ++ (text_of r ++ zeros 16)))
    else if r % 8 == 6 then command_of service.ShowStatus []
    else command_of service.ShowSlot (size_of r % 16 ∷ [])

-- so many commands, decided by the numbers after x
unfoldable pub drawn_commands : ℕ → ℕ → List CommandFrame
drawn_commands x zero = []
drawn_commands x (suc count) = drawn_command (upper_half (next_number x)) ∷ drawn_commands (next_number x) count

-- the commands of a session
abbrev pub session_commands : ℕ → ℕ → List CommandFrame
session_commands seed count = first_commands ++ drawn_commands seed count

abbrev pub cleared_command : CommandFrame
cleared_command = record { service = 0; sequence = None; body = [] }

-- from the commands that are left the first one is given, or there is none
abbrev pub GivesNext : List CommandFrame → Bool → CommandFrame → List CommandFrame → Type 0
GivesNext [] given command left = (given ≡ false) × (command ≡ cleared_command) × (left ≡ [])
GivesNext (first ∷ more) given command left = (given ≡ true) × (command ≡ first) × (left ≡ more)
