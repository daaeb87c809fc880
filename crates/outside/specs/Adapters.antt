use Rattle.std.specs.Prelude.{ℕ, List, [], ◌∷◌, Option}
use Rattle.std.specs.Io.KnownBytes.{Consumes as ReaderConsumes, IsAtEnd as ReaderIsAtEnd, Keeps}
use Rattle.outside.specs.declared.traits.Sample.{Sample}
use Rattle.outside.specs.declared.traits.Sample.TheVariants as sample

-- a reader or a writer of the standard library, and how many calls on it failed
pub record Adapter (Inner : Type 0) : Type 0 where
  pub inner : Inner
  pub faults : ℕ

-- files of a runtime: how many calls on them failed
pub record DiskState : Type 0 where
  pub faults : ℕ

-- where a reader tells its bytes, this answer is the first of them, or that there is none
abbrev pub HandsSample : Option (List ℕ) → Option (List ℕ) → Sample → Type 0
HandsSample before now (sample.Byte byte) = ReaderConsumes before now (byte ∷ [])
HandsSample before now sample.Ended = ReaderConsumes before now [] × ReaderIsAtEnd now
HandsSample before now sample.Failed = Keeps before now
