-- A part of two things that are written one behind the other.
use Rattle.std.proofs.Common.{◌≡◌, ◌++◌, ◌+◌, ℕ, List, length, take, refl, ◌∙◌, length-append, arith, Option}
use Rattle.std.proofs.lemmas.List.{take_at, drop_at, take-append-le}
use Rattle.std.proofs.Math.Seq.{take-add}
use Rattle.outside.specs.Contents.{Appends}
use Rattle.outside.proofs.ConsecutiveCalls.{appends_both}
use Rattle.stream_calls.specs.PartialWrites.{AppendsPart}

-- the first failed
pub part_in_front : (before now : Option (List ℕ)) (front back : List ℕ) → AppendsPart before front now → AppendsPart before (front ++ back) now
part_in_front before now front back (k, less, gained) =
    (k, omega (arith, less, length-append front back), rw (take-append-le k front back (omega (arith, less))) gained)

take_behind : (k : ℕ) (front back : List ℕ) → take (length front + k) (front ++ back) ≡ front ++ take k back
take_behind k front back = take-add (length front) k (front ++ back) ∙ rw (take_at front back (length front) refl, drop_at front back (length front) refl) refl

-- the first was written, and the second failed
pub part_behind : (before mid now : Option (List ℕ)) (front back : List ℕ) → Appends before front mid → AppendsPart mid back now → AppendsPart before (front ++ back) now
part_behind before mid now front back first (k, less, gained) =
    (length front + k, omega (arith, less, length-append front back), rw (take_behind k front back) (appends_both before mid now front (take k back) first gained))
