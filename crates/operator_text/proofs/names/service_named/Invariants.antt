use Rattle.std.proofs.Common.{◌≡◌, ◌<◌}
use Rattle.service_table.specs.declared.service.Service.{Service}
use Rattle.service_table.specs.Numbers.{service_number}
use Rattle.operator_text.specs.LineForms.{line_name}
use Rattle.operator_text.proofs.names.service_named.Given as goal

abbrev pub invariant-loop-number : goal.invariant-loop-number
invariant-loop-number l = (service : Service) → service_number service < l.number → line_name service ≡ l.word → ⊥
