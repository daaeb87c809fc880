-- Words that spell bytes, so many and no more.
use Rattle.std.specs.Prelude.{ℕ, if◌then◌else◌, List, [], ◌∷◌, length, Option, Some, None, bytes_eq, codes}
use Rattle.std.specs.Option.{option_map}
use Rattle.line_words.specs.Bytes.{bytes_of}
use Rattle.vector_suite.specs.declared.vector.Expected.{Expected}
use Rattle.vector_suite.specs.declared.vector.Expected.TheVariants.{Refusal, Bytes}

-- what the first of some words says, and the words behind it
pub record First (V : Type 0) : Type 0 where
  pub value : V
  pub rest : List (List ℕ)

-- the first word spells bytes
abbrev pub first_bytes : List (List ℕ) → Option (First (List ℕ))
first_bytes [] = None
first_bytes (word ∷ words) = option_map (λ bytes. record { value = bytes; rest = words }) (bytes_of word)

-- the word of an answer that is expected: `fail` for a refusal, else bytes
abbrev pub answer_of : List ℕ → Option Expected
answer_of word = if bytes_eq word (codes "fail") then Some Refusal else option_map Bytes (bytes_of word)

-- the first word is one of an answer
abbrev pub first_answer : List (List ℕ) → Option (First Expected)
first_answer [] = None
first_answer (word ∷ words) = option_map (λ answer. record { value = answer; rest = words }) (answer_of word)

-- the second step, where the first gives a value
infixl 10 ◌>>=◌
abbrev pub ◌>>=◌ : {A B : Type 0} → Option A → (A → Option B) → Option B
Some x >>= f = f x
None >>= f = None

-- a value, where no word is left
abbrev pub alone : {V : Type 0} → List (List ℕ) → V → Option V
alone [] value = Some value
alone (word ∷ words) value = None

-- the bytes of an answer
abbrev pub answer_length : Expected → ℕ
answer_length Refusal = 0
answer_length (Bytes bytes) = length bytes
