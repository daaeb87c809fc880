-- How a module's fields are seen, and what holds of them.
use Rattle.state_model.specs.declared.module.Module.TheInside.{Inside}
use Rattle.state_model.specs.ModuleView.{ModuleView}
use Rattle.state_model.specs.Represents.{IsRepresented}

abbrev pub view_of : {V : Type 0} → Inside V → ModuleView V
view_of m = record {
  public = m.public;
  tests_passed = m.tests_passed;
  engine = m.parts.engine;
  health = m.parts.health;
  generator = m.parts.drbg;
  image = m.image.items;
  digest = m.digest;
  vault = m.parts.vault;
  entry = m.entry;
}

-- the rules of the machine hold, with some samples that the counters count
abbrev pub IsModuleInvariant : {V : Type 0} → Inside V → Type 0
IsModuleInvariant m = IsRepresented (view_of m)
