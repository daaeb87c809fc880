-- What stands in the buffer of eighty bytes.
use Rattle.std.proofs.Common.{◌≡◌, ℕ, ◌+◌, ◌-◌, ◌≤◌, List, [], ◌++◌, length, take, drop, sym, ap, ap₂, ◌∙◌, arith}
use Rattle.std.proofs.Math.Seq.{take-append-add}
use Rattle.std.proofs.lemmas.List.{length-append, length-take-le, length-drop, take_at, drop_at, take-append-le, drop-append-le, drop_all, take-take, append-nil}
use borrow.Rule.Slice.PartMut.{put_mid, mid_of}
use Rattle.bits_core.specs.ByteList.{zeros, zero_padded}

-- after the bytes were moved up by eight, the header written and the rest wiped
pub headed : (header front turned wiped buf : List ℕ) (count k : ℕ) → length buf ≡ 80 → length header ≡ 8 → count ≤ 64 → k ≡ 80 - (count + 8)
    → front ≡ header → turned ≡ drop (length buf - 8) buf ++ take (length buf - 8) buf
    → wiped ≡ zeros (length (mid_of (count + 8) k (front ++ drop 8 turned)))
    → put_mid (count + 8) k (front ++ drop 8 turned) wiped ≡ zero_padded 80 (header ++ take count buf)
headed header front turned wiped buf count k eighty eight few width is turn zero =
    let rest : List ℕ = take (length buf - 8) buf in
    let rest_long : length rest ≡ 72 = length-take-le (length buf - 8) buf (omega arith) ∙ omega arith in
    let moved : drop 8 turned ≡ rest = ap (drop 8) turn ∙ drop_at (drop (length buf - 8) buf) rest 8 (omega (arith, length-drop (length buf - 8) buf)) in
    let x : List ℕ = header ++ rest in
    let whole : front ++ drop 8 turned ≡ x = ap₂ (λ (u v : List ℕ). u ++ v) is moved in
    let x_long : length x ≡ 80 = omega (arith, length-append header rest) in
    let fore : take (count + 8) x ≡ header ++ take count buf =
    ap (λ (n : ℕ). take n x) (let e : count + 8 ≡ length header + count = omega arith in e)
    ∙ take-append-add header rest count
    ∙ ap (λ (l : List ℕ). header ++ l) (take-take count (length buf - 8) buf (omega arith)) in
    let aft : drop k (drop (count + 8) x) ≡ [] = drop_all k (drop (count + 8) x) (omega (arith, length-drop (count + 8) x)) in
    let mid : length (mid_of (count + 8) k x) ≡ k = length-take-le k (drop (count + 8) x) (omega (arith, length-drop (count + 8) x)) in
    let kept_long : length (header ++ take count buf) ≡ count + 8 =
    length-append header (take count buf) ∙ omega (arith, length-take-le count buf (omega arith)) in
    let filled : wiped ≡ zeros (80 - length (header ++ take count buf)) =
    zero ∙ ap (λ (l : List ℕ). zeros (length (mid_of (count + 8) k l))) whole ∙ ap zeros (mid ∙ omega (arith, kept_long)) in
    ap (λ (l : List ℕ). put_mid (count + 8) k l wiped) whole
    ∙ ap₂ (λ (u v : List ℕ). u ++ (wiped ++ v)) fore aft
    ∙ ap (λ (l : List ℕ). (header ++ take count buf) ++ l) (append-nil wiped ∙ filled)

-- after what stands at the front was enciphered
pub front_enciphered : (f : List ℕ → List ℕ) (buf s new : List ℕ) (n : ℕ) → buf ≡ zero_padded 80 s → length s ≡ n → length (f s) ≡ n
    → new ≡ f (take n buf) → new ++ drop n buf ≡ zero_padded 80 (f s)
front_enciphered f buf s new n is long same made =
    let rest : List ℕ = zeros (80 - length s) in
    ap₂ (λ (u v : List ℕ). u ++ v)
    (made ∙ ap f (ap (take n) is ∙ take_at s rest n long))
    (ap (drop n) is ∙ drop_at s rest n long ∙ ap (λ (k : ℕ). zeros (80 - k)) (long ∙ sym same))

kept_front : (mid rest : List ℕ) (k : ℕ) → k + 8 ≤ length mid → take k (drop 8 (mid ++ rest)) ≡ take k (drop 8 mid)
kept_front mid rest k fits =
    ap (take k) (drop-append-le 8 mid rest (omega arith)) ∙ take-append-le k (drop 8 mid) rest (omega (arith, length-drop 8 mid))

kept_long : (mid rest : List ℕ) (k : ℕ) → k + 8 ≤ length mid → length (take k (drop 8 (mid ++ rest))) ≡ k
kept_long mid rest k fits = ap (length {A = ℕ}) (kept_front mid rest k fits) ∙ length-take-le k (drop 8 mid) (omega (arith, length-drop 8 mid))

-- after the header was taken away
pub opened_front : (mid rest new : List ℕ) (k : ℕ) → k + 8 ≤ length mid → new ≡ zero_padded 80 (take k (drop 8 (mid ++ rest))) → take k new ≡ take k (drop 8 mid)
opened_front mid rest new k fits is =
    let x : List ℕ = take k (drop 8 (mid ++ rest)) in
    ap (take k) is ∙ take_at x (zeros (80 - length x)) k (kept_long mid rest k fits) ∙ kept_front mid rest k fits

pub opened_rest : (mid rest new : List ℕ) (k : ℕ) → k + 8 ≤ length mid → new ≡ zero_padded 80 (take k (drop 8 (mid ++ rest))) → drop k new ≡ zeros (80 - k)
opened_rest mid rest new k fits is =
    let x : List ℕ = take k (drop 8 (mid ++ rest)) in
    ap (drop k) is ∙ drop_at x (zeros (80 - length x)) k (kept_long mid rest k fits) ∙ ap (λ (n : ℕ). zeros (80 - n)) (kept_long mid rest k fits)
