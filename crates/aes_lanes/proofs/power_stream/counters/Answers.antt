use Rattle.std.proofs.Common.{◌≡◌, ℕ, ◌+◌, ◌/◌, ◌%◌, [], ◌∷◌, ◌∙◌, arith, slice_index}
use Rattle.aes_lanes.specs.Rounds.{byte}
use Rattle.aes_lanes.specs.Streams.{with_count}
use Rattle.aes_lanes.proofs.Tower.{below_16}
use Rattle.aes_lanes.proofs.power_stream.counters.Goals as goal

pub returns : goal.returns
returns c j h r hr =
    let n : ℕ = c.args.count + j in
    let e3 : n / 16777216 % 256 ≡ n % 4294967296 / 16777216 % 256 = omega arith in
    let e2 : n / 65536 % 256 ≡ n % 4294967296 / 65536 % 256 = omega arith in
    let e1 : n / 256 % 256 ≡ n % 4294967296 / 256 % 256 = omega arith in
    let e0 : n % 256 ≡ n % 4294967296 % 256 = omega arith in
    below_16 (λ (r : ℕ). byte (c.splat.result ∷ c.splat-2.result ∷ c.splat-3.result ∷ c.splat-4.result ∷ c.splat-5.result ∷ c.splat-6.result ∷ c.splat-7.result ∷ c.splat-8.result ∷ c.splat-9.result ∷ c.splat-10.result ∷ c.splat-11.result ∷ c.splat-12.result ∷ c.counts.result.0 ∷ c.counts.result.1 ∷ c.counts.result.2 ∷ c.counts.result.3 ∷ []) j r ≡ slice_index (with_count c.args.start.now n) r)
    (c.splat.ensures j h) (c.splat-2.ensures j h) (c.splat-3.ensures j h) (c.splat-4.ensures j h) (c.splat-5.ensures j h) (c.splat-6.ensures j h) (c.splat-7.ensures j h) (c.splat-8.ensures j h) (c.splat-9.ensures j h) (c.splat-10.ensures j h) (c.splat-11.ensures j h) (c.splat-12.ensures j h)
    (c.counts.ensures.fourth j h ∙ e3) (c.counts.ensures.third j h ∙ e2) (c.counts.ensures.second j h ∙ e1) (c.counts.ensures.first j h ∙ e0)
    r hr
