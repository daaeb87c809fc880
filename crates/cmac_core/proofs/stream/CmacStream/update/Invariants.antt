use Rattle.std.proofs.Common.{ℕ, List, ◌++◌, take}
use Rattle.aes_core.specs.Schedules.{IsExpanded}
use Rattle.cmac_core.specs.Streams.{HoldsText}
use Rattle.cmac_core.proofs.stream.CmacStream.update.Given as goal

abbrev pub invariant-loop-byte : goal.invariant-loop-byte
invariant-loop-byte l = (key text : List ℕ) → IsExpanded l.schedule key → HoldsText l.fn.self key text → HoldsText l.self key (text ++ take l.byte-index l.piece)
