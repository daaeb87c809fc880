-- The numbers of the known-answer tests that the services need (ISO/IEC 19790:2012, 7.10, asks for such tests; numbers and table are this
-- project's own). The table has a row for each service and no default.
use Rattle.std.specs.Prelude.{ℕ, Option, Some, None}
use Rattle.std.specs.Option.{option_map}
use Rattle.bits_core.specs.declared.algorithm.Alg.{Alg}
use Rattle.bits_core.specs.declared.algorithm.Alg.TheVariants.{Sha256, Sha384, Sha512}
use Rattle.service_table.specs.declared.service.Service.{Service}
use Rattle.service_table.specs.declared.service.Service.TheVariants as service

-- the test of a hash function's digests
abbrev pub digest_test : Alg → ℕ
digest_test Sha256 = 1
digest_test Sha384 = 2
digest_test Sha512 = 3

-- the test of a hash function's MACs
abbrev pub mac_test : Alg → ℕ
mac_test Sha256 = 4
mac_test Sha384 = 5
mac_test Sha512 = 6

-- the test of the generator of random bits (SP 800-90A)
abbrev pub generator_test : ℕ
generator_test = 14

-- the test that a service needs, with the hash function that the command names where it names one
abbrev pub test_of : Service → Option Alg → Option ℕ
test_of service.PowerOn alg = None
test_of service.TestStep alg = None
test_of service.RequestTests alg = None
test_of service.ShowStatus alg = None
test_of service.ShowVersion alg = None
test_of service.SelectRole alg = None
test_of service.Reset alg = None
test_of service.EntryBegin alg = None
test_of service.EntryBytes alg = None
test_of service.EntryCommit alg = None
test_of service.EntryAbort alg = None
test_of service.Zeroise alg = None
test_of service.ZeroiseAll alg = None
test_of service.ShowSlot alg = None
test_of service.ZeroiseTree alg = None
test_of service.Hash alg = option_map digest_test alg
test_of service.Mac alg = option_map mac_test alg
test_of service.MacVerify alg = option_map mac_test alg
test_of service.Seal alg = Some 7
test_of service.SealIv alg = Some 7
test_of service.Open alg = Some 8
test_of service.Wrap alg = Some 9
test_of service.Unwrap alg = Some 10
test_of service.WrapPad alg = Some 11
test_of service.UnwrapPad alg = Some 12
test_of service.Derive alg = Some 13
test_of service.Random alg = Some generator_test
test_of service.Generate alg = Some generator_test
test_of service.Reseed alg = Some generator_test
