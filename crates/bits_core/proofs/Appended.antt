-- A buffer whose used part has grown.
use Rattle.bits_core.specs.ByteList.{zeros}
use Rattle.bits_core.specs.OutboxContents.{OutboxContents, holding}
use Rattle.std.proofs.Common.{◌≡◌, ℕ, ◌+◌, ◌-◌, ◌≤◌, List, ◌++◌, length, take, drop, sym, ap, ◌∙◌, arith}
use Rattle.std.proofs.lemmas.List.{length-append, length-take, take_all, drop_all, append-nil, drop-drop, drop-replicate}

-- the whole of a vector's list, as long as the old one, was written
pub whole : (n : ℕ) (new old : List ℕ) → length old ≡ n → length new ≡ n → take n (new ++ drop (length new) old) ≡ new
whole n new old a b =
    ap (λ (rest : List ℕ). take n (new ++ rest)) (drop_all (length new) old (omega arith))
    ∙ ap (take n) (append-nil new)
    ∙ take_all n new (omega arith)

-- the unused part stays zero
pub still_zeros : (items new old : List ℕ) (used more : ℕ) → items ≡ new → drop (used + more) new ≡ drop (used + more) old
    → length new ≡ length old → drop used old ≡ zeros (length old - used)
    → drop (used + more) items ≡ zeros (length items - (used + more))
still_zeros items new old used more is rest long zero =
    ap (drop (used + more)) is ∙ rest ∙ sym (drop-drop more used old)
    ∙ ap (drop more) zero
    ∙ drop-replicate more (length old - used) 0
    ∙ ap zeros (let e : (length old - used) - more ≡ length items - (used + more) = omega (arith, ap length is) in e)

-- what contracts see afterwards
pub shows : (items new old piece : List ℕ) (used : ℕ) → items ≡ new → take (used + length piece) new ≡ take used old ++ piece
    → length new ≡ length old → drop (used + length piece) items ≡ zeros (length items - (used + length piece)) → used + length piece ≤ length old
    → (let after : OutboxContents = record { bytes = take (used + length piece) items; room = length items; unused = drop (used + length piece) items } in after) ≡ holding (take used old ++ piece) (length old)
shows items new old piece used is written long zero fits =
    let end : ℕ = used + length piece in
    let size : length items ≡ length old = ap length is ∙ long in
    let bytes_is : take end items ≡ take used old ++ piece = ap (take end) is ∙ written in
    let count : length (take used old ++ piece) ≡ end = length-append (take used old) piece ∙ omega (arith, length-take used old) in
    let unused_is : drop end items ≡ zeros (length old - length (take used old ++ piece)) = zero ∙ ap zeros (let e : length items - end ≡ length old - length (take used old ++ piece) = omega arith in e) in
    let with_bytes : List ℕ → OutboxContents = λ b. record { bytes = b; room = length items; unused = drop end items } in
    let with_room : ℕ → OutboxContents = λ r. record { bytes = take used old ++ piece; room = r; unused = drop end items } in
    let with_unused : List ℕ → OutboxContents = λ u. record { bytes = take used old ++ piece; room = length old; unused = u } in
    ap with_bytes bytes_is ∙ ap with_room size ∙ ap with_unused unused_is
