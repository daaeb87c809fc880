-- What two writes of semiblocks leave.
use Rattle.std.proofs.Common.{◌≡◌, ℕ, ◌+◌, ◌*◌, List, ◌++◌, length, take, drop, ap, ap₂, ◌∙◌, arith}
use Rattle.std.proofs.Math.Seq.{take-append-add, drop-append-add}
use Rattle.std.proofs.lemmas.List.{drop-drop}
use borrow.Rule.Slice.PartMut.{put_mid}
use Rattle.key_wrap.specs.InPlace.{laid}

-- a write to the front, and then to register i
pub put_mid-laid : (front register x : List ℕ) (i k : ℕ) → length front ≡ 8 → k ≡ 8
    → put_mid (8 * i + 8) k (front ++ drop 8 x) register ≡ laid front i register x
put_mid-laid front register x i k long width =
    let at : 8 * i + 8 ≡ length front + 8 * i = omega arith in
    let fore : take (8 * i + 8) (front ++ drop 8 x) ≡ front ++ take (8 * i) (drop 8 x) =
    ap (λ (n : ℕ). take n (front ++ drop 8 x)) at ∙ take-append-add front (drop 8 x) (8 * i) in
    let aft : drop k (drop (8 * i + 8) (front ++ drop 8 x)) ≡ drop (8 * i + 16) x =
    drop-drop k (8 * i + 8) (front ++ drop 8 x)
    ∙ ap (λ (n : ℕ). drop n (front ++ drop 8 x)) (let e : (8 * i + 8) + k ≡ length front + (8 * i + 8) = omega arith in e)
    ∙ drop-append-add front (drop 8 x) (8 * i + 8)
    ∙ drop-drop (8 * i + 8) 8 x
    ∙ ap (λ (n : ℕ). drop n x) (let e : 8 + (8 * i + 8) ≡ 8 * i + 16 = omega arith in e) in
    ap₂ (λ (u v : List ℕ). u ++ (register ++ v)) fore aft
