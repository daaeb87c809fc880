use Rattle.std.proofs.Common.{sym, ◌∙◌}
use Rattle.outside.specs.Memory.{entry_of}
use Rattle.outside.proofs.EntriesByName.{first_at, none_named, without_at}
use Rattle.outside.proofs.memory_files.place_in_call.Goals as goal
use Rattle.outside.proofs.memory_files.place_in_call.Goals.{then-not-next_fails+in_default, else-not-next_fails}

pub returns-in-Some-clause-first : goal.returns-in-Some-clause-first
returns-in-Some-clause-first g c d = first_at entry_of c.args.name.now c.args.entries.now c.in-Some.place d (sym c.place_of.ensures ∙ c.in-Some.is)

pub returns-in-Some-clause-others : goal.returns-in-Some-clause-others
returns-in-Some-clause-others g c = without_at entry_of c.args.name.now c.args.entries.now c.in-Some.place (sym c.place_of.ensures ∙ c.in-Some.is)

pub returns-clause-missing : goal.returns-clause-missing
returns-clause-missing g c unlisted = elim c.if-not-next_fails.branch [
  | then-not-next_fails+in_default w ↦ none_named entry_of c.args.name.now c.args.entries.now (sym w.place_of.ensures ∙ w.in_default.is)
  | else-not-next_fails w ↦ let failed = w.if-not-next_fails.false in let listed = c.next_fails.ensures.listed in cc
]
