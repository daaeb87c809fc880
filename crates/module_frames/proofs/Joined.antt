-- Parts that are written one behind the other.
use Rattle.std.proofs.Common.{◌≡◌, ◌++◌, ℕ, List, [], length, drop, refl, sym, ◌∙◌, ap, arith}
use Rattle.std.proofs.lemmas.List.{take_at, drop_at, drop-drop, drop_all, append_assoc, append-nil, length-append}
use borrow.Rule.Slice.PartMut.{put_mid}

-- a part written behind a front
pub put_behind : (n k : ℕ) (front remainder part : List ℕ) → length front ≡ n → put_mid n k (front ++ remainder) part ≡ (front ++ part) ++ drop k remainder
put_behind n k front remainder part h = rw (take_at front remainder n h, drop_at front remainder n h) (sym (append_assoc front part (drop k remainder)))

-- the five parts of a header
pub five_parts : (into a b c d e : List ℕ) → length into ≡ 28 → length a ≡ 6 → length b ≡ 2 → length c ≡ 12 → length d ≡ 4
    → put_mid 24 4 (put_mid 20 4 (put_mid 8 12 (put_mid 6 2 (a ++ drop 6 into) b) c) d) e ≡ a ++ (b ++ (c ++ (d ++ e)))
five_parts into a b c d e h ha hb hc hd =
    let ab : length (a ++ b) ≡ 8 = length-append a b ∙ rw (ha, hb) refl in
    let abc : length ((a ++ b) ++ c) ≡ 20 = length-append (a ++ b) c ∙ rw (ab, hc) refl in
    let abcd : length (((a ++ b) ++ c) ++ d) ≡ 24 = length-append ((a ++ b) ++ c) d ∙ rw (abc, hd) refl in
    let none : drop 4 (drop 4 (drop 12 (drop 2 (drop 6 into)))) ≡ [] =
    rw (drop-drop 2 6 into, drop-drop 12 8 into, drop-drop 4 20 into, drop-drop 4 24 into) (drop_all 28 into (omega arith)) in
    ap (λ xs. put_mid 24 4 (put_mid 20 4 (put_mid 8 12 xs c) d) e) (put_behind 6 2 a (drop 6 into) b ha)
    ∙ ap (λ xs. put_mid 24 4 (put_mid 20 4 xs d) e) (put_behind 8 12 (a ++ b) (drop 2 (drop 6 into)) c ab)
    ∙ ap (λ xs. put_mid 24 4 xs e) (put_behind 20 4 ((a ++ b) ++ c) (drop 12 (drop 2 (drop 6 into))) d abc)
    ∙ put_behind 24 4 (((a ++ b) ++ c) ++ d) (drop 4 (drop 12 (drop 2 (drop 6 into)))) e abcd
    ∙ ap (λ xs. ((((a ++ b) ++ c) ++ d) ++ e) ++ xs) none
    ∙ append-nil _
    ∙ append_assoc ((a ++ b) ++ c) d e
    ∙ append_assoc (a ++ b) c (d ++ e)
    ∙ append_assoc a b (c ++ (d ++ e))
