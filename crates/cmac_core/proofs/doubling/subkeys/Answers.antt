use Rattle.std.proofs.Common.{ap, ◌∙◌}
use Rattle.cmac_core.specs.Cmac.{doubled, first_subkey, second_subkey}
use Rattle.cmac_core.proofs.doubling.subkeys.Goals as goal

pub returns-clause-first : goal.returns-clause-first
unfolding first_subkey
returns-clause-first c key is = c.double.ensures ∙ ap doubled (c.encrypt.ensures key is)

pub returns-clause-second : goal.returns-clause-second
unfolding first_subkey second_subkey
returns-clause-second c key is = c.double-2.ensures ∙ ap doubled (c.double.ensures ∙ ap doubled (c.encrypt.ensures key is))
