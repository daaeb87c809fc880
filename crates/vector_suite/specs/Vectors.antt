-- Vector lines (a form of this project's own): a test vector of a function, as words.
use Rattle.std.specs.Prelude.{ℕ, ◌+◌, Bool, if◌then◌else◌, List, [], ◌∷◌, length, Option, Some, None}
use Rattle.bits_core.specs.declared.algorithm.Alg.{Alg}
use Rattle.cmac_core.specs.declared.derivation.Mode.{Mode}
use Rattle.line_words.specs.Words.{words_of}
use Rattle.vector_suite.specs.Kinds.{kind_of}
use Rattle.vector_suite.specs.Lengths.{has_allowed_lengths}
use Rattle.vector_suite.specs.declared.kind.Kind.{Kind}
use Rattle.vector_suite.specs.declared.kind.Kind.TheVariants as kind
use Rattle.vector_suite.specs.Shapes.{first_bytes, first_answer, answer_length, alone, ◌>>=◌}
use Rattle.vector_suite.specs.declared.vector.Vector.{Vector}
use Rattle.vector_suite.specs.declared.vector.Vector.TheVariants as vector

-- TEXT OUT
abbrev pub hash_of : Alg → List (List ℕ) → Option Vector
hash_of alg words = do
  text ← first_bytes words
  out ← first_bytes text.rest
  alone out.rest (vector.Hash alg text.value out.value)

-- KEY TEXT OUT
abbrev pub mac_of : Alg → List (List ℕ) → Option Vector
mac_of alg words = do
  key ← first_bytes words
  text ← first_bytes key.rest
  out ← first_bytes text.rest
  alone out.rest (vector.Mac alg key.value text.value out.value)

-- KEY IV AAD TEXT OUT TAG
abbrev pub seal_of : List (List ℕ) → Option Vector
seal_of words = do
  key ← first_bytes words
  iv ← first_bytes key.rest
  aad ← first_bytes iv.rest
  text ← first_bytes aad.rest
  out ← first_bytes text.rest
  tag ← first_bytes out.rest
  alone tag.rest (vector.Seal key.value iv.value aad.value text.value out.value tag.value)

-- KEY IV AAD TEXT TAG OUT
abbrev pub open_of : List (List ℕ) → Option Vector
open_of words = do
  key ← first_bytes words
  iv ← first_bytes key.rest
  aad ← first_bytes iv.rest
  text ← first_bytes aad.rest
  tag ← first_bytes text.rest
  out ← first_answer tag.rest
  alone out.rest (vector.Open key.value iv.value aad.value text.value tag.value out.value)

-- KEY TEXT OUT
abbrev pub wrap_of : Bool → List (List ℕ) → Option Vector
wrap_of pad words = do
  key ← first_bytes words
  text ← first_bytes key.rest
  out ← first_bytes text.rest
  alone out.rest (vector.Wrap pad key.value text.value out.value)

-- KEY TEXT OUT
abbrev pub unwrap_of : Bool → List (List ℕ) → Option Vector
unwrap_of pad words = do
  key ← first_bytes words
  text ← first_bytes key.rest
  out ← first_answer text.rest
  alone out.rest (vector.Unwrap pad key.value text.value out.value)

-- KEY LABEL CONTEXT OUT
abbrev pub derive_of : List (List ℕ) → Option Vector
derive_of words = do
  key ← first_bytes words
  label ← first_bytes key.rest
  context ← first_bytes label.rest
  out ← first_bytes context.rest
  alone out.rest (vector.Derive key.value label.value context.value out.value)

-- ENTROPY NONCE PERSONAL OUT
abbrev pub drbg_of : List (List ℕ) → Option Vector
drbg_of words = do
  entropy ← first_bytes words
  nonce ← first_bytes entropy.rest
  personal ← first_bytes nonce.rest
  out ← first_bytes personal.rest
  alone out.rest (vector.Drbg entropy.value nonce.value personal.value out.value)

-- KEY TEXT OUT
abbrev pub cmac_of : List (List ℕ) → Option Vector
cmac_of words = do
  key ← first_bytes words
  text ← first_bytes key.rest
  out ← first_bytes text.rest
  alone out.rest (vector.Cmac key.value text.value out.value)

-- KEY LABEL CONTEXT OUT
abbrev pub cmac_kdf_of : Mode → List (List ℕ) → Option Vector
cmac_kdf_of mode words = do
  key ← first_bytes words
  label ← first_bytes key.rest
  context ← first_bytes label.rest
  out ← first_bytes context.rest
  alone out.rest (vector.CmacKdf mode key.value label.value context.value out.value)

-- the bytes of all parts
abbrev pub bytes_in : Vector → ℕ
bytes_in (vector.Hash alg text out) = length text + length out
bytes_in (vector.Mac alg key text out) = length key + length text + length out
bytes_in (vector.Seal key iv aad text out tag) = length key + length iv + length aad + length text + length out + length tag
bytes_in (vector.Open key iv aad text tag out) = length key + length iv + length aad + length text + length tag + answer_length out
bytes_in (vector.Wrap pad key text out) = length key + length text + length out
bytes_in (vector.Unwrap pad key text out) = length key + length text + answer_length out
bytes_in (vector.Derive key label context out) = length key + length label + length context + length out
bytes_in (vector.Drbg entropy nonce personal out) = length entropy + length nonce + length personal + length out
bytes_in (vector.Cmac key text out) = length key + length text + length out
bytes_in (vector.CmacKdf mode key label context out) = length key + length label + length context + length out

-- what the words behind a kind's name say
abbrev pub shape_of : Kind → List (List ℕ) → Option Vector
shape_of (kind.Hash alg) words = hash_of alg words
shape_of (kind.Mac alg) words = mac_of alg words
shape_of kind.Seal words = seal_of words
shape_of kind.Open words = open_of words
shape_of (kind.Wrap pad) words = wrap_of pad words
shape_of (kind.Unwrap pad) words = unwrap_of pad words
shape_of kind.Derive words = derive_of words
shape_of kind.Drbg words = drbg_of words
shape_of kind.Cmac words = cmac_of words
shape_of (kind.CmacKdf mode) words = cmac_kdf_of mode words

-- a vector whose parts have lengths that they may have
abbrev pub allowed : Vector → Option Vector
allowed vector = if has_allowed_lengths vector then Some vector else None

-- the vector of some words, the first of which is the kind's name
abbrev pub vector_of_words : List (List ℕ) → Option Vector
vector_of_words [] = None
vector_of_words (name ∷ words) = do
  kind ← kind_of name
  vector ← shape_of kind words
  allowed vector

-- the vector of a line, if it is one of a vector
unfoldable pub vector_of : List ℕ → Option Vector
vector_of line = vector_of_words (words_of line)
