-- The kinds of vectors and their names (a table of this project's own).
use Rattle.std.specs.Prelude.{ℕ, true, false, if◌then◌else◌, List, [], ◌∷◌, Option, Some, None, bytes_eq, codes}
use Rattle.bits_core.specs.declared.algorithm.Alg.TheVariants as alg
use Rattle.cmac_core.specs.declared.derivation.Mode.TheVariants as mode
use Rattle.vector_suite.specs.declared.kind.Kind.{Kind}
use Rattle.vector_suite.specs.declared.kind.Kind.TheVariants as kind
use Rattle.vector_suite.specs.declared.kind.TheConstants.{KINDS}

-- the first word of a kind's lines
abbrev pub name_of : Kind → List ℕ
name_of (kind.Hash alg.Sha256) = codes "sha256"
name_of (kind.Hash alg.Sha384) = codes "sha384"
name_of (kind.Hash alg.Sha512) = codes "sha512"
name_of (kind.Mac alg.Sha256) = codes "hmac256"
name_of (kind.Mac alg.Sha384) = codes "hmac384"
name_of (kind.Mac alg.Sha512) = codes "hmac512"
name_of kind.Seal = codes "seal"
name_of kind.Open = codes "open"
name_of (kind.Wrap false) = codes "wrap"
name_of (kind.Wrap true) = codes "wrappad"
name_of (kind.Unwrap false) = codes "unwrap"
name_of (kind.Unwrap true) = codes "unwrappad"
name_of kind.Derive = codes "derive"
name_of kind.Drbg = codes "drbg"
name_of kind.Cmac = codes "cmac"
name_of (kind.CmacKdf mode.Counter) = codes "kbcounter"
name_of (kind.CmacKdf mode.Feedback) = codes "kbfeedback"
name_of (kind.CmacKdf mode.Pipeline) = codes "kbpipeline"

-- the first of some kinds that has a name
abbrev pub first_named : List ℕ → List Kind → Option Kind
first_named name [] = None
first_named name (kind ∷ kinds) = if bytes_eq name (name_of kind) then Some kind else first_named name kinds

-- the kind with a name, if one has it
unfoldable pub kind_of : List ℕ → Option Kind
kind_of name = first_named name KINDS
