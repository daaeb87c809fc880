-- What a session holds.
use Rattle.std.specs.Prelude.{◌≤◌, ◌++◌, List, drop}
use Rattle.module_frames.specs.CommandFrames.{CommandFrame}
use Rattle.session_commands.specs.declared.sessions.Session.TheInside.{Inside}
use Rattle.session_commands.specs.SessionCommands.{first_commands, drawn_commands}

-- the commands that are left: those of the beginning that weren't given, and those that are still to be drawn
unfoldable pub left_of : Inside → List CommandFrame
left_of s = drop s.begun first_commands ++ drawn_commands s.number s.left

-- no more than the beginning was given of it
abbrev pub IsSession : Inside → Type 0
IsSession s = s.begun ≤ 11
