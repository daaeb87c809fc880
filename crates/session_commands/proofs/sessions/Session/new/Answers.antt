use Rattle.std.proofs.Common.{refl}
use Rattle.session_commands.specs.Sessions.{left_of}
use Rattle.session_commands.proofs.sessions.Session.new.Goals as goal

pub returns : goal.returns
unfolding left_of
returns c = refl
