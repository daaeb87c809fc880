-- What a command asks for, as contracts see it.
use Rattle.std.specs.Prelude.{ℕ, Bool, List}
use Rattle.bits_core.specs.declared.parameter.Header.{Header}
use Rattle.bits_core.specs.declared.parameter.Kind.{Kind}
use Rattle.bits_core.specs.declared.algorithm.Alg.{Alg}

-- what a command asks of a cryptographic service; Wrap and Unwrap are with padding where pad is true
pub data CryptographicRequest : Type 0 where
  Hash : (alg : Alg) (text : List ℕ) → CryptographicRequest
  Mac : (slot : ℕ) (alg : Alg) (mac_length : ℕ) (text : List ℕ) → CryptographicRequest
  MacVerify : (slot : ℕ) (alg : Alg) (tag text : List ℕ) → CryptographicRequest
  Seal : (slot tag_length : ℕ) (aad text : List ℕ) → CryptographicRequest
  SealIv : (slot tag_length : ℕ) (iv aad text : List ℕ) → CryptographicRequest
  Open : (slot : ℕ) (iv aad text tag : List ℕ) → CryptographicRequest
  Wrap : (pad : Bool) (kek second : ℕ) → CryptographicRequest
  Unwrap : (pad : Bool) (kek target : ℕ) (kind : Kind) (export : Bool) (uses : ℕ) (wrapped : List ℕ) → CryptographicRequest
  Derive : (source target : ℕ) (kind : Kind) (export : Bool) (uses long : ℕ) (label context : List ℕ) → CryptographicRequest
  Random : (long : ℕ) (additional : List ℕ) → CryptographicRequest
  Generate : (target : ℕ) (header : Header) (long : ℕ) → CryptographicRequest
  Reseed : (additional : List ℕ) → CryptographicRequest

-- what a command asks for
pub data RequestValue : Type 0 where
  PowerOn : (period : ℕ) → RequestValue
  TestStep : RequestValue
  RequestTests : RequestValue
  ShowStatus : RequestValue
  ShowVersion : RequestValue
  SelectRole : (role : ℕ) → RequestValue
  Reset : RequestValue
  EntryBegin : (slot : ℕ) (header : Header) (long : ℕ) → RequestValue
  EntryBytes : (piece : List ℕ) → RequestValue
  EntryCommit : (check : List ℕ) → RequestValue
  EntryAbort : RequestValue
  Zeroise : (slot : ℕ) → RequestValue
  ZeroiseAll : RequestValue
  ShowSlot : (slot : ℕ) → RequestValue
  ZeroiseTree : (slot : ℕ) → RequestValue
  Cryptographic : (what : CryptographicRequest) → RequestValue
