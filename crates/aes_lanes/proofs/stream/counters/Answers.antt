use Rattle.std.proofs.Common.{◌≡◌, ℕ, ◌+◌, ◌/◌, ◌%◌, [], ◌∷◌, ap, ap₂, sym, ◌∙◌, arith, bit_xor, slice_index}
use Rattle.aes_spec.specs.Aes.{add_round_key}
use Rattle.aes_lanes.specs.Nibbles.{to_tower}
use Rattle.aes_lanes.specs.Rounds.{byte}
use Rattle.aes_lanes.specs.Streams.{with_count}
use Rattle.aes_lanes.proofs.Tower.{below_16, tower_sum}
use Rattle.aes_lanes.proofs.stream.counters.Goals as goal

pub returns : goal.returns
returns c j key h tk ek r hr =
    let n : ℕ = c.args.count + j in
    let e3 : n / 16777216 % 256 ≡ n % 4294967296 / 16777216 % 256 = omega arith in
    let e2 : n / 65536 % 256 ≡ n % 4294967296 / 65536 % 256 = omega arith in
    let e1 : n / 256 % 256 ≡ n % 4294967296 / 256 % 256 = omega arith in
    let e0 : n % 256 ≡ n % 4294967296 % 256 = omega arith in
    below_16 (λ (r : ℕ). byte (c.sum.result ∷ c.sum-2.result ∷ c.sum-3.result ∷ c.sum-4.result ∷ c.sum-5.result ∷ c.sum-6.result ∷ c.sum-7.result ∷ c.sum-8.result ∷ c.sum-9.result ∷ c.sum-10.result ∷ c.sum-11.result ∷ c.sum-12.result ∷ c.sum-13.result ∷ c.sum-14.result ∷ c.sum-15.result ∷ c.sum-16.result ∷ []) j r ≡ to_tower (slice_index (add_round_key key (with_count c.args.start.now (c.args.count + j))) r))
    (c.sum.ensures j h ∙ ap₂ bit_xor (c.to_tower.ensures j h ∙ ap to_tower (c.splat.ensures j h)) (ek 0 (omega arith)) ∙ sym (tower_sum (slice_index c.args.start.now 0) (slice_index key 0) (c.fits-start 0) (tk.small 0)))
    (c.sum-2.ensures j h ∙ ap₂ bit_xor (c.to_tower-2.ensures j h ∙ ap to_tower (c.splat-2.ensures j h)) (ek 1 (omega arith)) ∙ sym (tower_sum (slice_index c.args.start.now 1) (slice_index key 1) (c.fits-start 1) (tk.small 1)))
    (c.sum-3.ensures j h ∙ ap₂ bit_xor (c.to_tower-3.ensures j h ∙ ap to_tower (c.splat-3.ensures j h)) (ek 2 (omega arith)) ∙ sym (tower_sum (slice_index c.args.start.now 2) (slice_index key 2) (c.fits-start 2) (tk.small 2)))
    (c.sum-4.ensures j h ∙ ap₂ bit_xor (c.to_tower-4.ensures j h ∙ ap to_tower (c.splat-4.ensures j h)) (ek 3 (omega arith)) ∙ sym (tower_sum (slice_index c.args.start.now 3) (slice_index key 3) (c.fits-start 3) (tk.small 3)))
    (c.sum-5.ensures j h ∙ ap₂ bit_xor (c.to_tower-5.ensures j h ∙ ap to_tower (c.splat-5.ensures j h)) (ek 4 (omega arith)) ∙ sym (tower_sum (slice_index c.args.start.now 4) (slice_index key 4) (c.fits-start 4) (tk.small 4)))
    (c.sum-6.ensures j h ∙ ap₂ bit_xor (c.to_tower-6.ensures j h ∙ ap to_tower (c.splat-6.ensures j h)) (ek 5 (omega arith)) ∙ sym (tower_sum (slice_index c.args.start.now 5) (slice_index key 5) (c.fits-start 5) (tk.small 5)))
    (c.sum-7.ensures j h ∙ ap₂ bit_xor (c.to_tower-7.ensures j h ∙ ap to_tower (c.splat-7.ensures j h)) (ek 6 (omega arith)) ∙ sym (tower_sum (slice_index c.args.start.now 6) (slice_index key 6) (c.fits-start 6) (tk.small 6)))
    (c.sum-8.ensures j h ∙ ap₂ bit_xor (c.to_tower-8.ensures j h ∙ ap to_tower (c.splat-8.ensures j h)) (ek 7 (omega arith)) ∙ sym (tower_sum (slice_index c.args.start.now 7) (slice_index key 7) (c.fits-start 7) (tk.small 7)))
    (c.sum-9.ensures j h ∙ ap₂ bit_xor (c.to_tower-9.ensures j h ∙ ap to_tower (c.splat-9.ensures j h)) (ek 8 (omega arith)) ∙ sym (tower_sum (slice_index c.args.start.now 8) (slice_index key 8) (c.fits-start 8) (tk.small 8)))
    (c.sum-10.ensures j h ∙ ap₂ bit_xor (c.to_tower-10.ensures j h ∙ ap to_tower (c.splat-10.ensures j h)) (ek 9 (omega arith)) ∙ sym (tower_sum (slice_index c.args.start.now 9) (slice_index key 9) (c.fits-start 9) (tk.small 9)))
    (c.sum-11.ensures j h ∙ ap₂ bit_xor (c.to_tower-11.ensures j h ∙ ap to_tower (c.splat-11.ensures j h)) (ek 10 (omega arith)) ∙ sym (tower_sum (slice_index c.args.start.now 10) (slice_index key 10) (c.fits-start 10) (tk.small 10)))
    (c.sum-12.ensures j h ∙ ap₂ bit_xor (c.to_tower-12.ensures j h ∙ ap to_tower (c.splat-12.ensures j h)) (ek 11 (omega arith)) ∙ sym (tower_sum (slice_index c.args.start.now 11) (slice_index key 11) (c.fits-start 11) (tk.small 11)))
    (c.sum-13.ensures j h ∙ ap₂ bit_xor (c.to_tower-13.ensures j h ∙ ap to_tower (c.counts.ensures.fourth j h ∙ e3)) (ek 12 (omega arith)) ∙ sym (tower_sum (n % 4294967296 / 16777216 % 256) (slice_index key 12) (omega arith) (tk.small 12)))
    (c.sum-14.ensures j h ∙ ap₂ bit_xor (c.to_tower-14.ensures j h ∙ ap to_tower (c.counts.ensures.third j h ∙ e2)) (ek 13 (omega arith)) ∙ sym (tower_sum (n % 4294967296 / 65536 % 256) (slice_index key 13) (omega arith) (tk.small 13)))
    (c.sum-15.ensures j h ∙ ap₂ bit_xor (c.to_tower-15.ensures j h ∙ ap to_tower (c.counts.ensures.second j h ∙ e1)) (ek 14 (omega arith)) ∙ sym (tower_sum (n % 4294967296 / 256 % 256) (slice_index key 14) (omega arith) (tk.small 14)))
    (c.sum-16.ensures j h ∙ ap₂ bit_xor (c.to_tower-16.ensures j h ∙ ap to_tower (c.counts.ensures.first j h ∙ e0)) (ek 15 (omega arith)) ∙ sym (tower_sum (n % 4294967296 % 256) (slice_index key 15) (omega arith) (tk.small 15)))
    r hr
