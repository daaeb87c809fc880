use Rattle.std.proofs.Common.{◌≡◌, ◌+◌, ℕ, suc, List, [], ◌∷◌, Some, None, Bool, true, false, not, cond, map, take, drop, length, bytes_eq, position, remove, option_map, slice_index_or, slice_get, refl, sym, ◌∙◌, ap, rules, add-one}
use Rattle.std.specs.List.{position_or_len}
use Rattle.std.proofs.lemmas.Bool.{ltb-false}
use Rattle.std.proofs.lemmas.List.{take-map, drop-map, map-append}
use Rattle.std.proofs.lemmas.List.Folds.{find_at}
use Rattle.std.proofs.lemmas.List.Quantifiers.{position-Some}
use Rattle.std.proofs.lemmas.Option.{slice_get-map, slice_get-get_or, slice_get_past}
use Rattle.outside.specs.FilesContent.{has_name, first_named, without_first}

-- Entries of a list that contracts see by a name and a content.

place_found : (within : Bool) (at place : ℕ) → cond within (Some at) None ≡ Some place → at ≡ place
place_found true at place found = search rules
place_found false at place found = cc

place_missing : (within : Bool) (at : ℕ) → cond within (Some at) None ≡ None → within ≡ false
place_missing true at missing = cc
place_missing false at missing = refl

module _ {B A : Type 0} (f : B → List ℕ × A) (name : List ℕ) where
  abbrev is_named : B → Bool
  is_named x = bytes_eq (f x).0 name

  place_mapped : (xs : List B) → position_or_len (has_name name) (map f xs) ≡ position_or_len is_named xs
  place_mapped [] = refl
  place_mapped (x ∷ xs) = ap (λ n. cond (not (is_named x)) (1 + n) 0) (place_mapped xs)

  -- the entry at the first place of a name is what stands first under it
  pub first_at : (xs : List B) (place : ℕ) (d : B) → position is_named xs ≡ Some place → first_named name (map f xs) ≡ Some (f (slice_index_or xs place d)).1
  first_at xs place d found =
      let within = (position-Some is_named xs place d found).0 in
      let at = place_found _ (position_or_len is_named xs) place found in
      ap (option_map (λ e. e.1)) (find_at (has_name name) (map f xs) ∙ ap (slice_get (map f xs)) (place_mapped xs ∙ at)
      ∙ slice_get-map f xs place ∙ ap (option_map f) (slice_get-get_or xs place d within))

  pub none_named : (xs : List B) → position is_named xs ≡ None → first_named name (map f xs) ≡ None
  none_named xs missing =
      let past = ltb-false (position_or_len is_named xs) (length xs) (place_missing _ _ missing) in
      ap (option_map (λ e. e.1)) (find_at (has_name name) (map f xs) ∙ ap (slice_get (map f xs)) (place_mapped xs)
      ∙ slice_get-map f xs _ ∙ ap (option_map f) (slice_get_past xs _ past))

  pub without_at : (xs : List B) (place : ℕ) → position is_named xs ≡ Some place → without_first name (map f xs) ≡ map f (remove xs place)
  without_at xs place found =
      let at : position_or_len (has_name name) (map f xs) ≡ place = place_mapped xs ∙ place_found _ _ place found in
      rw (at, take-map f place xs, drop-map f (place + 1) xs, add-one place) (sym (map-append f (take place xs) (drop (suc place) xs)))
