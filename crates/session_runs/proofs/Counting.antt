-- Each reply is counted once, by the number of its status.
use Rattle.std.proofs.Common.{◌≡◌, ◌+◌, ◌==◌, ℕ, List, [], ◌∷◌, length, map, cond, refl, arith}
use Rattle.std.proofs.lemmas.List.Sums.{sum_by-cons}
use Rattle.std.specs.List.{sum, range_with_len}
use Rattle.service_table.specs.Numbers.{status_number}
use Rattle.service_table.specs.declared.status.Status.{Status}
use Rattle.service_table.specs.declared.status.Status.TheVariants as status
use Rattle.module_frames.specs.ReplyFrames.{ReplyFrame}
use Rattle.session_runs.specs.Summaries.{status_count}

-- what one reply of this status adds to the count of a number
abbrev pub adds : Status → ℕ → ℕ
adds s number = cond (status_number s == number) 1 0

pub count_cons : (reply : ReplyFrame) (replies : List ReplyFrame) (number : ℕ) → status_count (reply ∷ replies) number ≡ adds reply.status number + status_count replies number
count_cons reply replies number = sum_by-cons (λ r. adds r.status number) reply replies

-- the first counts of one reply more
counts_cons : (reply : ReplyFrame) (replies : List ReplyFrame) (numbers : List ℕ)
    → sum (map (status_count (reply ∷ replies)) numbers) ≡ sum (map (adds reply.status) numbers) + sum (map (status_count replies) numbers)
counts_cons reply replies [] = refl
counts_cons reply replies (n ∷ numbers) =
    omega (
      arith,
      sum_by-cons (λ x. x) (status_count (reply ∷ replies) n) (map (status_count (reply ∷ replies)) numbers),
      sum_by-cons (λ x. x) (adds reply.status n) (map (adds reply.status) numbers),
      sum_by-cons (λ x. x) (status_count replies n) (map (status_count replies) numbers),
      count_cons reply replies n,
      counts_cons reply replies numbers,
    )

-- one of the seventeen numbers is the status's
adds_one : (s : Status) → sum (map (adds s) (range_with_len 0 17)) ≡ 1
adds_one status.Ok = refl
adds_one status.UnknownService = refl
adds_one status.NotInState = refl
adds_one status.BadBody = refl
adds_one status.TestFailed = refl
adds_one status.NoiseFault = refl
adds_one status.EmptySlot = refl
adds_one status.WrongKind = refl
adds_one status.WrongDomain = refl
adds_one status.Spent = refl
adds_one status.OccupiedSlot = refl
adds_one status.NotExportable = refl
adds_one status.BadLength = refl
adds_one status.CheckFailed = refl
adds_one status.AuthFailed = refl
adds_one status.UnwrapFailed = refl
adds_one status.OutOfOrder = refl

pub counted_once : (replies : List ReplyFrame) → sum (map (status_count replies) (range_with_len 0 17)) ≡ length replies
counted_once [] = refl
counted_once (reply ∷ replies) = omega (arith, counts_cons reply replies (range_with_len 0 17), adds_one reply.status, counted_once replies)
