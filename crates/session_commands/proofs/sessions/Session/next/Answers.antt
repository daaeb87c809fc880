use Rattle.std.proofs.Common.{◌≡◌, ◌+◌, ◌-◌, ◌<◌, ◌++◌, List, [], true, false, drop, refl, sym, ◌∙◌, subst, arith}
use Rattle.module_frames.specs.CommandFrames.{CommandFrame}
use Rattle.session_commands.specs.SessionCommands.{first_commands, drawn_commands, GivesNext}
use Rattle.session_commands.specs.Sessions.{left_of}
use Rattle.session_commands.proofs.Left.{begins, draws, ends}
use Rattle.session_commands.proofs.sessions.Session.next.Goals as goal

pub returns-then-self-lt-FIRST_COMMANDS : goal.returns-then-self-lt-FIRST_COMMANDS
unfolding left_of
returns-then-self-lt-FIRST_COMMANDS c =
    let s = c.self.inside in
    subst (λ (l : List CommandFrame). GivesNext l true c.begin.new.into (drop (s.begun + 1) first_commands ++ drawn_commands s.number s.left)) c.self.view_is
    (begins s.begun s.number s.left c.begin.new.into c.begin.ensures)

pub returns-then-self-eq0 : goal.returns-then-self-eq0
unfolding left_of
returns-then-self-eq0 c =
    let s = c.self.inside in
    let none : [] ≡ c.args.self.now = sym (ends s.begun s.number s.left c.if-self-lt-FIRST_COMMANDS.false c.self.invariant c.if-self-eq0.true) ∙ c.self.view_is in
    subst (λ (l : List CommandFrame). GivesNext l false c.clear.new.self l) none (refl, c.clear.ensures, refl)

pub returns : goal.returns
unfolding left_of
returns c =
    let s = c.self.inside in
    let next = c.next_number-self-inside.result in
    subst (λ (l : List CommandFrame). GivesNext l true c.draw.new.into (drop s.begun first_commands ++ drawn_commands next (s.left - 1))) c.self.view_is
    (draws s.begun s.number next s.left c.draw.new.into c.if-self-lt-FIRST_COMMANDS.false c.self.invariant (omega arith) c.next_number-self-inside.ensures c.draw.ensures)
