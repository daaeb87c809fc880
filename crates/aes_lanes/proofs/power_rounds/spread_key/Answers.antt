use Rattle.std.proofs.Common.{List, ℕ, ap, ◌∙◌, slice_index}
use Rattle.aes_lanes.proofs.power_rounds.spread_key.Goals as goal

pub returns : goal.returns
returns c j h r hr = c.spread.ensures r j hr h ∙ ap (λ (k : List ℕ). slice_index k r) c.round_key.ensures
