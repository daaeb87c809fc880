-- Pieces that are put behind a body, one behind the other, as long as there is room.
use Rattle.std.proofs.Common.{◌≡◌, ◌+◌, ◌<◌, ◌≤◌, ◌++◌, ℕ, Bool, true, false, List, [], ◌∷◌, length, refl, sym, ap, ◌∙◌, arith, append_assoc, append-nil, length-append, take, get_or}
use Rattle.std.proofs.lemmas.List.{take_more}
use Rattle.bits_core.specs.declared.limits.TheConstants.{LARGEST_BODY}
use Rattle.module_frames.specs.CommandFrames.{CommandFrame}
use Rattle.operator_text.specs.Spelling.{AppendsWithin}

-- no byte is put
pub appends_nothing : (old : CommandFrame) → length old.body ≤ LARGEST_BODY → AppendsWithin old [] true old
appends_nothing old h = (omega arith, sym (ap (λ (b : List ℕ). let c : CommandFrame = record old { body = b } in c) (append-nil old.body)))

-- one piece, and then another
pub appends_both : (old mid new : CommandFrame) (first more : List ℕ) → AppendsWithin old first true mid → AppendsWithin mid more true new → AppendsWithin old (first ++ more) true new
appends_both old mid new first more one other =
    let body : mid.body ≡ old.body ++ first = ap (λ (c : CommandFrame). c.body) one.1 in
    let long = length-append first more in
    let front = ap (length {A = ℕ}) body ∙ length-append old.body first in (
      omega (arith, other.0, long, front),
      other.1
          ∙ ap (λ (c : CommandFrame). let d : CommandFrame = record c { body = c.body ++ more } in d) one.1
          ∙ ap (λ (b : List ℕ). let c : CommandFrame = record old { body = b } in c) (append_assoc old.body first more),
    )

-- the first piece has no room, so both have none
pub no_room_first : (old new : CommandFrame) (first more : List ℕ) → AppendsWithin old first false new → AppendsWithin old (first ++ more) false new
no_room_first old new first more h = omega (arith, h, length-append first more)

pub no_room_second : (old mid new : CommandFrame) (first more : List ℕ) → AppendsWithin old first true mid → AppendsWithin mid more false new
    → AppendsWithin old (first ++ more) false new
no_room_second old mid new first more one other =
    let body : mid.body ≡ old.body ++ first = ap (λ (c : CommandFrame). c.body) one.1 in
    omega (arith, other, length-append first more, ap (length {A = ℕ}) body, length-append old.body first)

-- one byte more of some
pub push_more : (old mid new : CommandFrame) (bytes : List ℕ) (place byte : ℕ)
    → (let c : CommandFrame = record old { body = old.body ++ take place bytes } in mid ≡ c)
    → (let c : CommandFrame = record mid { body = mid.body ++ byte ∷ [] } in new ≡ c)
    → place < length bytes → byte ≡ get_or bytes place 0
    → (let c : CommandFrame = record old { body = old.body ++ take (place + 1) bytes } in new ≡ c)
push_more old mid new bytes place byte e q h b =
    q
    ∙ ap (λ (c : CommandFrame). let d : CommandFrame = record c { body = c.body ++ byte ∷ [] } in d) e
    ∙ ap (λ (xs : List ℕ). let d : CommandFrame = record old { body = xs } in d)
    (append_assoc old.body (take place bytes) (byte ∷ []) ∙ ap (λ (xs : List ℕ). old.body ++ xs) (ap (λ (n : ℕ). take place bytes ++ n ∷ []) b ∙ sym (take_more bytes place 0 h)))

pub no_elements : {X : Type 0} (xs : List X) → length xs < 1 → xs ≡ []
no_elements [] h = refl
no_elements (x ∷ xs) h = absurd (omega arith)
