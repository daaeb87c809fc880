-- The lines that an operator types (a form of this project's own): for each service its name, the words behind the name, and how their
-- values make the command's body.
use Rattle.std.specs.Prelude.{ℕ, List, [], ◌∷◌, codes}
use Rattle.service_table.specs.declared.service.Service.{Service}
use Rattle.service_table.specs.declared.service.Service.TheVariants as service
use Rattle.operator_text.specs.declared.forms.WordType.{WordType}
use Rattle.operator_text.specs.declared.forms.WordType.TheVariants as word
use Rattle.operator_text.specs.declared.forms.Field.{Field}
use Rattle.operator_text.specs.declared.forms.Field.TheVariants as field

-- the word by which a line names the service
abbrev pub line_name : Service → List ℕ
line_name service.PowerOn = codes "poweron"
line_name service.TestStep = codes "step"
line_name service.RequestTests = codes "tests"
line_name service.ShowStatus = codes "status"
line_name service.ShowVersion = codes "version"
line_name service.SelectRole = codes "role"
line_name service.Reset = codes "reset"
line_name service.EntryBegin = codes "begin"
line_name service.EntryBytes = codes "bytes"
line_name service.EntryCommit = codes "commit"
line_name service.EntryAbort = codes "abort"
line_name service.Zeroise = codes "zeroise"
line_name service.ZeroiseAll = codes "zeroiseall"
line_name service.ShowSlot = codes "slot"
line_name service.ZeroiseTree = codes "zeroisetree"
line_name service.Hash = codes "hash"
line_name service.Mac = codes "mac"
line_name service.MacVerify = codes "verify"
line_name service.Seal = codes "seal"
line_name service.SealIv = codes "sealiv"
line_name service.Open = codes "open"
line_name service.Wrap = codes "wrap"
line_name service.Unwrap = codes "unwrap"
line_name service.WrapPad = codes "wrappad"
line_name service.UnwrapPad = codes "unwrappad"
line_name service.Derive = codes "derive"
line_name service.Random = codes "random"
line_name service.Generate = codes "generate"
line_name service.Reseed = codes "reseed"

-- what the words behind the name are
abbrev pub word_types : Service → List WordType
word_types service.PowerOn = word.Quad ∷ []
word_types service.TestStep = []
word_types service.RequestTests = []
word_types service.ShowStatus = []
word_types service.ShowVersion = []
word_types service.SelectRole = word.Role ∷ []
word_types service.Reset = []
word_types service.EntryBegin = word.Byte ∷ word.Kind ∷ word.Domain ∷ word.Export ∷ word.Quad ∷ word.Byte ∷ []
word_types service.EntryBytes = word.Bytes ∷ []
word_types service.EntryCommit = word.Bytes ∷ []
word_types service.EntryAbort = []
word_types service.Zeroise = word.Byte ∷ []
word_types service.ZeroiseAll = []
word_types service.ShowSlot = word.Byte ∷ []
word_types service.ZeroiseTree = word.Byte ∷ []
word_types service.Hash = word.Alg ∷ word.Bytes ∷ []
word_types service.Mac = word.Byte ∷ word.Alg ∷ word.Byte ∷ word.Bytes ∷ []
word_types service.MacVerify = word.Byte ∷ word.Alg ∷ word.ShortBytes ∷ word.Bytes ∷ []
word_types service.Seal = word.Byte ∷ word.Byte ∷ word.Bytes ∷ word.Bytes ∷ []
word_types service.SealIv = word.Byte ∷ word.Byte ∷ word.ShortBytes ∷ word.Bytes ∷ word.Bytes ∷ []
word_types service.Open = word.Byte ∷ word.ShortBytes ∷ word.Bytes ∷ word.Bytes ∷ word.ShortBytes ∷ []
word_types service.Wrap = word.Byte ∷ word.Byte ∷ []
word_types service.Unwrap = word.Byte ∷ word.Byte ∷ word.Kind ∷ word.Export ∷ word.Quad ∷ word.Bytes ∷ []
word_types service.WrapPad = word.Byte ∷ word.Byte ∷ []
word_types service.UnwrapPad = word.Byte ∷ word.Byte ∷ word.Kind ∷ word.Export ∷ word.Quad ∷ word.Bytes ∷ []
word_types service.Derive = word.Byte ∷ word.Byte ∷ word.Kind ∷ word.Export ∷ word.Quad ∷ word.Byte ∷ word.ShortBytes ∷ word.Bytes ∷ []
word_types service.Random = word.Quad ∷ word.Bytes ∷ []
word_types service.Generate = word.Byte ∷ word.Kind ∷ word.Domain ∷ word.Export ∷ word.Quad ∷ word.Byte ∷ []
word_types service.Reseed = word.Bytes ∷ []

-- the fields of the body: the values of words, counted from 0, and the lengths of such values
abbrev pub body_fields : Service → List Field
body_fields service.PowerOn = field.Value 0 ∷ []
body_fields service.TestStep = []
body_fields service.RequestTests = []
body_fields service.ShowStatus = []
body_fields service.ShowVersion = []
body_fields service.SelectRole = field.Value 0 ∷ []
body_fields service.Reset = []
body_fields service.EntryBegin = field.Value 0 ∷ field.Value 1 ∷ field.Value 2 ∷ field.Value 3 ∷ field.Value 4 ∷ field.Value 5 ∷ []
body_fields service.EntryBytes = field.Value 0 ∷ []
body_fields service.EntryCommit = field.Value 0 ∷ []
body_fields service.EntryAbort = []
body_fields service.Zeroise = field.Value 0 ∷ []
body_fields service.ZeroiseAll = []
body_fields service.ShowSlot = field.Value 0 ∷ []
body_fields service.ZeroiseTree = field.Value 0 ∷ []
body_fields service.Hash = field.Value 0 ∷ field.Value 1 ∷ []
body_fields service.Mac = field.Value 0 ∷ field.Value 1 ∷ field.Value 2 ∷ field.Value 3 ∷ []
body_fields service.MacVerify = field.Value 0 ∷ field.Value 1 ∷ field.Length 2 ∷ field.Value 2 ∷ field.Value 3 ∷ []
body_fields service.Seal = field.Value 0 ∷ field.Value 1 ∷ field.LongLength 2 ∷ field.Value 2 ∷ field.Value 3 ∷ []
body_fields service.SealIv = field.Value 0 ∷ field.Value 1 ∷ field.Length 2 ∷ field.LongLength 3 ∷ field.Value 2 ∷ field.Value 3 ∷ field.Value 4 ∷ []
body_fields service.Open = field.Value 0 ∷ field.Length 4 ∷ field.Length 1 ∷ field.LongLength 2 ∷ field.Value 1 ∷ field.Value 2 ∷ field.Value 3 ∷ field.Value 4 ∷ []
body_fields service.Wrap = field.Value 0 ∷ field.Value 1 ∷ []
body_fields service.Unwrap = field.Value 0 ∷ field.Value 1 ∷ field.Value 2 ∷ field.Value 3 ∷ field.Value 4 ∷ field.Value 5 ∷ []
body_fields service.WrapPad = field.Value 0 ∷ field.Value 1 ∷ []
body_fields service.UnwrapPad = field.Value 0 ∷ field.Value 1 ∷ field.Value 2 ∷ field.Value 3 ∷ field.Value 4 ∷ field.Value 5 ∷ []
body_fields service.Derive = field.Value 0 ∷ field.Value 1 ∷ field.Value 2 ∷ field.Value 3 ∷ field.Value 4 ∷ field.Value 5 ∷ field.Length 6 ∷ field.Value 6 ∷ field.Value 7 ∷ []
body_fields service.Random = field.Value 0 ∷ field.Value 1 ∷ []
body_fields service.Generate = field.Value 0 ∷ field.Value 1 ∷ field.Value 2 ∷ field.Value 3 ∷ field.Value 4 ∷ field.Value 5 ∷ []
body_fields service.Reseed = field.Value 0 ∷ []
