-- Lists of names, in each of which no name stands twice.
use Rattle.std.proofs.Common.{◌≡◌, ◌+◌, ◌<◌, ◌≤◌, ◌&&◌, not, ℕ, zero, suc, Bool, true, false, List, [], ◌∷◌, length, Option, Some, None, bytes_eq, slice_get, refl, sym, ap, ◌∙◌, arith, lit≤, lit<}
use Rattle.std.specs.List.{find}
use Rattle.std.proofs.lemmas.Slice.Eq.{bytes_eq-Decides}
use Rattle.service_table.specs.declared.service.Service.{Service}
use Rattle.service_table.specs.declared.service.Service.TheVariants as service
use Rattle.service_table.specs.Numbers.{all_services, service_number}
use Rattle.operator_text.specs.declared.forms.WordType.{WordType}
use Rattle.operator_text.specs.declared.forms.WordType.TheVariants as word
use Rattle.operator_text.specs.Names.{names, first_number, IsNameOf}
use Rattle.operator_text.specs.LineForms.{line_name}
use Rattle.operator_text.specs.Spelling.{begins_comment}

abbrev is_absent : List ℕ → List (List ℕ) → Bool
is_absent name [] = true
is_absent name (first ∷ more) = not (bytes_eq first name) && is_absent name more

abbrev are_distinct : List (List ℕ) → Bool
are_distinct [] = true
are_distinct (first ∷ more) = is_absent first more && are_distinct more

first_part : (a b : Bool) → (a && b) ≡ true → a ≡ true
first_part true b e = refl
first_part false b e = cc e

second_part : (a b : Bool) → (a && b) ≡ true → b ≡ true
second_part true b e = e
second_part false b e = cc e

equal_test : (a b : List ℕ) → a ≡ b → bytes_eq a b ≡ true
equal_test a b e = (bytes_eq-Decides a b).1 e

absent_nowhere : (name : List ℕ) (all : List (List ℕ)) (place : ℕ) → is_absent name all ≡ true → slice_get all place ≡ Some name → ⊥
absent_nowhere name [] place h e = cc e
absent_nowhere name (first ∷ more) zero h e =
    let same : first ≡ name = cc e in
    let test = equal_test first name same in
    let other = first_part (not (bytes_eq first name)) (is_absent name more) h in
    let turned : not true ≡ true = rw test at other in cc turned
absent_nowhere name (first ∷ more) (suc place) h e = absent_nowhere name more place (second_part (not (bytes_eq first name)) (is_absent name more) h) e

pub one_place : (all : List (List ℕ)) (p q : ℕ) (name : List ℕ) → are_distinct all ≡ true → slice_get all p ≡ Some name → slice_get all q ≡ Some name → p ≡ q
one_place [] p q name h a b = cc a
one_place (first ∷ more) zero zero name h a b = refl
one_place (first ∷ more) zero (suc q) name h a b =
    let same : first ≡ name = cc a in
    absurd (absent_nowhere first more q (first_part (is_absent first more) (are_distinct more) h) (b ∙ ap Some (sym same)))
one_place (first ∷ more) (suc p) zero name h a b =
    let same : first ≡ name = cc b in
    absurd (absent_nowhere first more p (first_part (is_absent first more) (are_distinct more) h) (a ∙ ap Some (sym same)))
one_place (first ∷ more) (suc p) (suc q) name h a b = ap suc (one_place more p q name (second_part (is_absent first more) (are_distinct more) h) a b)

names_distinct : (type : WordType) → are_distinct (names type) ≡ true
names_distinct word.Byte = refl
names_distinct word.Quad = refl
names_distinct word.Role = refl
names_distinct word.Kind = refl
names_distinct word.Domain = refl
names_distinct word.Export = refl
names_distinct word.Alg = refl
names_distinct word.Bytes = refl
names_distinct word.ShortBytes = refl

-- a name is that of one number
pub one_number : (type : WordType) (text : List ℕ) (a b : ℕ) → IsNameOf type text a → IsNameOf type text b → a ≡ b
one_number type text a b one other =
    let same = one_place (names type) one.place other.place text (names_distinct type) one.named other.named in
    one.numbered ∙ ap (λ n. first_number type + n) same ∙ sym other.numbered

-- no type has more than four names
pub few_names : (type : WordType) → length (names type) ≤ 4
few_names word.Byte = lit≤ tt
few_names word.Quad = lit≤ tt
few_names word.Role = lit≤ tt
few_names word.Kind = lit≤ tt
few_names word.Domain = lit≤ tt
few_names word.Export = lit≤ tt
few_names word.Alg = lit≤ tt
few_names word.Bytes = lit≤ tt
few_names word.ShortBytes = lit≤ tt

-- the service that is found by its name
abbrev found_by : List ℕ → Option Service
found_by name = find (λ s. bytes_eq (line_name s) name) all_services

is_found : (s : Service) → found_by (line_name s) ≡ Some s
is_found service.PowerOn = refl
is_found service.TestStep = refl
is_found service.RequestTests = refl
is_found service.ShowStatus = refl
is_found service.ShowVersion = refl
is_found service.SelectRole = refl
is_found service.Reset = refl
is_found service.EntryBegin = refl
is_found service.EntryBytes = refl
is_found service.EntryCommit = refl
is_found service.EntryAbort = refl
is_found service.Zeroise = refl
is_found service.ZeroiseAll = refl
is_found service.ShowSlot = refl
is_found service.ZeroiseTree = refl
is_found service.Hash = refl
is_found service.Mac = refl
is_found service.MacVerify = refl
is_found service.Seal = refl
is_found service.SealIv = refl
is_found service.Open = refl
is_found service.Wrap = refl
is_found service.Unwrap = refl
is_found service.WrapPad = refl
is_found service.UnwrapPad = refl
is_found service.Derive = refl
is_found service.Random = refl
is_found service.Generate = refl
is_found service.Reseed = refl

-- a name is that of one service
pub one_service : (a b : Service) → line_name a ≡ line_name b → a ≡ b
one_service a b e = let both = sym (is_found a) ∙ ap found_by e ∙ is_found b in cc both

-- the services are numbered from 1 to 29
pub service_below : (s : Service) → service_number s < 30
service_below service.PowerOn = lit< tt
service_below service.TestStep = lit< tt
service_below service.RequestTests = lit< tt
service_below service.ShowStatus = lit< tt
service_below service.ShowVersion = lit< tt
service_below service.SelectRole = lit< tt
service_below service.Reset = lit< tt
service_below service.EntryBegin = lit< tt
service_below service.EntryBytes = lit< tt
service_below service.EntryCommit = lit< tt
service_below service.EntryAbort = lit< tt
service_below service.Zeroise = lit< tt
service_below service.ZeroiseAll = lit< tt
service_below service.ShowSlot = lit< tt
service_below service.ZeroiseTree = lit< tt
service_below service.Hash = lit< tt
service_below service.Mac = lit< tt
service_below service.MacVerify = lit< tt
service_below service.Seal = lit< tt
service_below service.SealIv = lit< tt
service_below service.Open = lit< tt
service_below service.Wrap = lit< tt
service_below service.Unwrap = lit< tt
service_below service.WrapPad = lit< tt
service_below service.UnwrapPad = lit< tt
service_below service.Derive = lit< tt
service_below service.Random = lit< tt
service_below service.Generate = lit< tt
service_below service.Reseed = lit< tt

-- a service's name is not empty, and begins with no sign of a comment
pub no_comment_name : (s : Service) → begins_comment (line_name s) ≡ false
no_comment_name service.PowerOn = refl
no_comment_name service.TestStep = refl
no_comment_name service.RequestTests = refl
no_comment_name service.ShowStatus = refl
no_comment_name service.ShowVersion = refl
no_comment_name service.SelectRole = refl
no_comment_name service.Reset = refl
no_comment_name service.EntryBegin = refl
no_comment_name service.EntryBytes = refl
no_comment_name service.EntryCommit = refl
no_comment_name service.EntryAbort = refl
no_comment_name service.Zeroise = refl
no_comment_name service.ZeroiseAll = refl
no_comment_name service.ShowSlot = refl
no_comment_name service.ZeroiseTree = refl
no_comment_name service.Hash = refl
no_comment_name service.Mac = refl
no_comment_name service.MacVerify = refl
no_comment_name service.Seal = refl
no_comment_name service.SealIv = refl
no_comment_name service.Open = refl
no_comment_name service.Wrap = refl
no_comment_name service.Unwrap = refl
no_comment_name service.WrapPad = refl
no_comment_name service.UnwrapPad = refl
no_comment_name service.Derive = refl
no_comment_name service.Random = refl
no_comment_name service.Generate = refl
no_comment_name service.Reseed = refl
