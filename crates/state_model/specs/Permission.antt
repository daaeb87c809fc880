-- When a request may be done.
use Rattle.std.specs.Prelude.{◌≡◌, true}
use Rattle.service_table.specs.declared.state.State.{State}
use Rattle.service_table.specs.Services.{is_permitted}
use Rattle.module_frames.specs.Requests.{RequestValue, service_for}

-- its service is permitted in this state
abbrev pub IsPermittedIn : RequestValue → State → Type 0
IsPermittedIn what found = is_permitted (service_for what) found ≡ true
