-- Choices that can be made: whether texts are equal, whether a number up to a bound has a property, and whether a service has one.
use Rattle.std.proofs.Common.{◌≡◌, ◌≤◌, ◌<◌, ◌==◌, ◌⊎◌, inl, inr, ℕ, zero, suc, Bool, true, false, List, [], ◌∷◌, Some, find, if◌then◌else◌, bytes_eq, slice_get, le_refl, refl, sym, ◌∙◌, ap, subst, arith}
use Rattle.std.proofs.lemmas.Bool.{cases_lt}
use Rattle.std.proofs.lemmas.Slice.Eq.{bytes_eq-Decides}
use Rattle.service_table.specs.declared.service.Service.{Service}
use Rattle.service_table.specs.Numbers.{service_number, all_services}
use Rattle.service_table.proofs.Table.{services_keep}

-- it is so, or it isn't
abbrev pub Choice : Type 0 → Type 0
Choice P = P ⊎ (P → ⊥)

-- one follows from the other, and the other way round
pub choice_of : {P Q : Type 0} → (P → Q) → (Q → P) → Choice P → Choice Q
choice_of there back (inl is) = inl (there is)
choice_of there back (inr not) = inr (λ q. not (back q))

pub both_or_not : {P Q : Type 0} → Choice P → Choice Q → Choice (P × Q)
both_or_not (inl p) (inl q) = inl (p, q)
both_or_not (inl p) (inr not) = inr (λ both. not both.1)
both_or_not (inr not) q = inr (λ both. not both.0)

pub within_or_not : (a b : ℕ) → Choice (a ≤ b)
within_or_not a b = by_order (cases_lt b a)
  where
    by_order : (b < a) ⊎ (a ≤ b) → Choice (a ≤ b)
    by_order (inl less) = inr (λ within. absurd (omega arith))
    by_order (inr within) = inl within

pub same_text_or_not : (a b : List ℕ) → Choice (a ≡ b)
same_text_or_not a b = by_test (bytes_eq a b) refl
  where
    by_test : (test : Bool) → bytes_eq a b ≡ test → Choice (a ≡ b)
    by_test true e = inl ((bytes_eq-Decides a b).0 e)
    by_test false e = inr (λ same. let wrong : true ≡ false = sym ((bytes_eq-Decides a b).1 same) ∙ e in cc wrong)

-- where a text stands in a list, if it does
pub place_or_not : (all : List (List ℕ)) (text : List ℕ) → Choice ((place : ℕ) × (slice_get all place ≡ Some text))
place_or_not [] text = inr (λ found. cc (found.1))
place_or_not (first ∷ more) text = by_first (same_text_or_not first text) (place_or_not more text)
  where
    nowhere : (first ≡ text → ⊥) → (((place : ℕ) × (slice_get more place ≡ Some text)) → ⊥) → (place : ℕ) → slice_get (first ∷ more) place ≡ Some text → ⊥
    nowhere other none zero e = other (cc e)
    nowhere other none (suc place) e = none (place, e)

    by_first : Choice (first ≡ text) → Choice ((place : ℕ) × (slice_get more place ≡ Some text)) → Choice ((place : ℕ) × (slice_get (first ∷ more) place ≡ Some text))
    by_first (inl same) later = inl (0, ap (λ (t : List ℕ). Some t) same)
    by_first (inr other) (inl later) = inl (suc later.0, later.1)
    by_first (inr other) (inr none) = inr (λ found. nowhere other none found.0 found.1)

-- a number up to the bound has the property, or none has
pub number_or_not : (P : ℕ → Type 0) → ((n : ℕ) → Choice (P n)) → (most : ℕ) → Choice ((n : ℕ) × (n ≤ most) × P n)
number_or_not P each zero = by_last (each zero)
  where
    by_last : Choice (P zero) → Choice ((n : ℕ) × (n ≤ zero) × P n)
    by_last (inl is) = inl (zero, le_refl zero, is)
    by_last (inr not) = inr (λ found. let same : found.0 ≡ zero = omega (arith, found.1) in not (subst P same found.2))
number_or_not P each (suc most) = by_last (each (suc most)) (number_or_not P each most)
  where
    earlier : (n : ℕ) → n ≤ suc most → (n ≡ suc most → ⊥) → n ≤ most
    earlier n within other = omega arith

    by_last : Choice (P (suc most)) → Choice ((n : ℕ) × (n ≤ most) × P n) → Choice ((n : ℕ) × (n ≤ suc most) × P n)
    by_last (inl is) below = inl (suc most, le_refl (suc most), is)
    by_last (inr not) (inl below) = inl (below.0, omega (arith, below.1), below.2)
    by_last (inr not) (inr none) = inr (λ found. none (found.0, earlier found.0 found.1 (λ same. not (subst P same found.2)), found.2))

-- no service that is found in the list has the property
abbrev NoneIn : (Service → Type 0) → List Service → Type 0
NoneIn P all = (test : Service → Bool) (s : Service) → find test all ≡ Some s → P s → ⊥

among : (P : Service → Type 0) → ((s : Service) → Choice (P s)) → (all : List Service) → ((s : Service) × P s) ⊎ NoneIn P all
among P each [] = inr (λ test s e is. cc e)
among P each (first ∷ more) = by_first (each first) (among P each more)
  where
    nowhere : (P first → ⊥) → NoneIn P more → NoneIn P (first ∷ more)
    nowhere not none test s e is = by_test (test first) e
      where
        by_test : (found : Bool) → (if found then Some first else find test more) ≡ Some s → ⊥
        by_test true q = let same : s ≡ first = cc q in not (subst P same is)
        by_test false q = none test s q is

    by_first : Choice (P first) → ((s : Service) × P s) ⊎ NoneIn P more → ((s : Service) × P s) ⊎ NoneIn P (first ∷ more)
    by_first (inl is) later = inl (first, is)
    by_first (inr not) (inl later) = inl later
    by_first (inr not) (inr none) = inr (nowhere not none)

-- a service has the property, or none has
pub service_or_not : (P : Service → Type 0) → ((s : Service) → Choice (P s)) → Choice ((s : Service) × P s)
service_or_not P each = by_all (among P each all_services)
  where
    by_all : ((s : Service) × P s) ⊎ NoneIn P all_services → Choice ((s : Service) × P s)
    by_all (inl found) = inl found
    by_all (inr none) = inr (λ found. none (λ s. service_number s == service_number found.0) found.0 (services_keep found.0) found.1)
