use Rattle.std.proofs.Common.{◌≡◌, ℕ, ◌+◌, ◌-◌, ◌<◌, ◌≤◌, List, length, get_or, ap, ◌∙◌, arith, bit_xor}
use lib.Lanes.{zip2, chunk, put_chunk}
use Rattle.std.proofs.lemmas.Simd.{get_or-zip2, length-zip2, length-chunk, get_or-chunk, get_or-put_chunk_below, get_or-put_chunk_at, get_or-put_chunk_above}
use Rattle.aes_lanes.proofs.stream.add_block.Goals as goal

long : (at : ℕ) (xs ys : List ℕ) → at + 16 ≤ length xs → length ys ≡ 16 → length (zip2 bit_xor (chunk at 16 xs) ys) ≡ 16
long at xs ys h l =
    let e : length (chunk at 16 xs) ≡ 16 = length-chunk at 16 xs h in
    length-zip2 bit_xor (chunk at 16 xs) ys (omega (arith, e, l)) ∙ e

at_place : (at : ℕ) (xs ys : List ℕ) (p : ℕ) → at + 16 ≤ length xs → length ys ≡ 16 → at ≤ p → p < at + 16
    → get_or (put_chunk at xs (zip2 bit_xor (chunk at 16 xs) ys)) p 0 ≡ bit_xor (get_or xs p 0) (get_or ys (p - at) 0)
at_place at xs ys p h l low high =
    let zs : List ℕ = zip2 bit_xor (chunk at 16 xs) ys in
    let e : p ≡ at + (p - at) = omega arith in
    let back : at + (p - at) ≡ p = omega arith in
    ap (λ (n : ℕ). get_or (put_chunk at xs zs) n 0) e
    ∙ get_or-put_chunk_at at xs zs (p - at) 0 (omega (arith, long at xs ys h l)) (omega (arith, long at xs ys h l))
    ∙ get_or-zip2 bit_xor (chunk at 16 xs) ys (p - at) 0 0 0 (omega (arith, length-chunk at 16 xs h)) (omega (arith, l))
    ∙ ap (λ (x : ℕ). bit_xor x (get_or ys (p - at) 0)) (get_or-chunk at 16 xs (p - at) 0 (omega arith) ∙ ap (λ (n : ℕ). get_or xs n 0) back)

pub returns-clause-before : goal.returns-clause-before
returns-clause-before c p h = get_or-put_chunk_below c.args.at c.args.text.now (zip2 bit_xor (chunk c.args.at 16 c.args.text.now) c.args.stream) p 0 h

pub returns-clause-within : goal.returns-clause-within
returns-clause-within c p low high = at_place c.args.at c.args.text.now c.args.stream p c.requires c.fits-stream.0 low high

pub returns-clause-after : goal.returns-clause-after
returns-clause-after c p h =
    let e : length (zip2 bit_xor (chunk c.args.at 16 c.args.text.now) c.args.stream) ≡ 16 = long c.args.at c.args.text.now c.args.stream c.requires c.fits-stream.0 in
    get_or-put_chunk_above c.args.at c.args.text.now (zip2 bit_xor (chunk c.args.at 16 c.args.text.now) c.args.stream) p 0 (omega (arith, e))
