-- Texts of commands, byte by byte.
use Rattle.std.proofs.Common.{◌≡◌, ◌+◌, ◌<◌, ◌≤◌, ◌%◌, ◌++◌, ℕ, List, [], ◌∷◌, length, take, get_or, sym, ap, ◌∙◌, append_assoc, arith}
use Rattle.std.proofs.lemmas.List.{take_more, take_all}
use Rattle.std.proofs.lemmas.List.FromFn.{get_or-map-range_with_len, length-map-range_with_len}
use Rattle.module_frames.specs.CommandFrames.{CommandFrame}
use Rattle.session_commands.specs.SessionCommands.{size_of, text_of}

pub text_length : (r : ℕ) → length (text_of r) ≡ size_of r
unfolding text_of
text_length r = length-map-range_with_len (λ i. (i + r) % 256) 0 (size_of r)

text_at : (r place : ℕ) → place < size_of r → get_or (text_of r) place 0 ≡ (place + r) % 256
unfolding text_of
text_at r place h = get_or-map-range_with_len (λ i. (i + r) % 256) 0 (size_of r) place place 0 h (omega arith)

pub text_more : (r place : ℕ) → place < size_of r → take (place + 1) (text_of r) ≡ take place (text_of r) ++ (place + r) % 256 ∷ []
text_more r place h =
    take_more (text_of r) place 0 (omega (arith, text_length r)) ∙ ap (λ b. take place (text_of r) ++ b ∷ []) (text_at r place h)

pub text_whole : (r place : ℕ) → size_of r ≤ place → take place (text_of r) ≡ text_of r
text_whole r place h = take_all place (text_of r) (omega (arith, text_length r))

-- one byte more of the text
pub text_push : (old mid new : CommandFrame) (r place byte : ℕ)
    → (let c : CommandFrame = record old { body = old.body ++ take place (text_of r) } in mid ≡ c)
    → (let c : CommandFrame = record mid { body = mid.body ++ byte ∷ [] } in new ≡ c)
    → place < size_of r → byte ≡ (place + r) % 256
    → (let c : CommandFrame = record old { body = old.body ++ take (place + 1) (text_of r) } in new ≡ c)
text_push old mid new r place byte e q h b =
    q
    ∙ ap (λ (c : CommandFrame). let d : CommandFrame = record c { body = c.body ++ byte ∷ [] } in d) e
    ∙ ap (λ (xs : List ℕ). let d : CommandFrame = record old { body = xs } in d)
    (append_assoc old.body (take place (text_of r)) (byte ∷ [])
    ∙ ap (λ (xs : List ℕ). old.body ++ xs) (ap (λ (n : ℕ). take place (text_of r) ++ n ∷ []) b ∙ sym (text_more r place h)))
