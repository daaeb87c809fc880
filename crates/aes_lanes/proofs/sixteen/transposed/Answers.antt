use Rattle.std.proofs.Common.{sym, ap₂, ◌∙◌, arith}
use Rattle.aes_lanes.specs.Rounds.{byte}
use Rattle.aes_lanes.proofs.Turns.{next_vector, next_lane, vector_2, lane_2, vector_3, lane_3, vector_4, lane_4}
use Rattle.aes_lanes.proofs.sixteen.transposed.Goals as goal

pub returns : goal.returns
returns c r j hr hj =
    sym (ap₂ (byte c.turned-4.result) (lane_4 j r hj hr) (vector_4 j r hj hr))
    ∙ c.turned-4.ensures (vector_3 j r) (lane_3 j r) (omega arith) (omega arith)
    ∙ c.turned-3.ensures (vector_2 j r) (lane_2 j r) (omega arith) (omega arith)
    ∙ c.turned-2.ensures (next_vector j r) (next_lane j r) (omega arith) (omega arith)
    ∙ c.turned.ensures j r hj hr
