-- The faults of the program: their exit statuses and their texts.
use Rattle.std.specs.Prelude.{ℕ, ◌==◌, ◌||◌, Bool, List, Option, Some, None, if◌then◌else◌, codes, Result, Ok, Err}
use Rattle.program_words.specs.declared.faults.RunFault.{RunFault}
use Rattle.program_words.specs.declared.faults.RunFault.TheVariants as fault

abbrev pub fault_of : ℕ → Option RunFault
fault_of status =
    if status == 1 then Some fault.VectorFailed
    else if status == 2 then Some fault.Usage
    else if status == 3 then Some fault.BadFrame
    else if status == 4 then Some fault.Truncated
    else if status == 5 then Some fault.ReadFailed
    else if status == 6 then Some fault.WriteFailed
    else if status == 7 then Some fault.OutOfMemory
    else if status == 8 then Some fault.FileFailed
    else if status == 9 then Some fault.ImageTooLong
    else if status == 10 then Some fault.BadLine
    else if status == 11 then Some fault.BadDigest
    else if status == 12 then Some fault.StreamTooLong
    else if status == 13 then Some fault.BadKeyFile
    else if status == 14 then Some fault.NotOfficer
    else if status == 15 then Some fault.BadBackup
    else if status == 16 then Some fault.NotLawful
    else None

-- the exit status for a fault
abbrev pub status_of : RunFault → ℕ
status_of fault.VectorFailed = 1
status_of fault.Usage = 2
status_of fault.BadFrame = 3
status_of fault.Truncated = 4
status_of fault.ReadFailed = 5
status_of fault.WriteFailed = 6
status_of fault.OutOfMemory = 7
status_of fault.FileFailed = 8
status_of fault.ImageTooLong = 9
status_of fault.BadLine = 10
status_of fault.BadDigest = 11
status_of fault.StreamTooLong = 12
status_of fault.BadKeyFile = 13
status_of fault.NotOfficer = 14
status_of fault.BadBackup = 15
status_of fault.NotLawful = 16

-- the exit status for how a run ended: 0 where all was done
abbrev pub result_status : {X : Type 0} → Result X RunFault → ℕ
result_status (Ok done) = 0
result_status (Err fault) = status_of fault

abbrev pub text_of : RunFault → List ℕ
text_of fault.VectorFailed = codes "a vector failed"
text_of fault.Usage = codes "usage: serve, operate, digest, session, vectors, backup, restore or check"
text_of fault.BadFrame = codes "bad frame"
text_of fault.Truncated = codes "truncated frame"
text_of fault.ReadFailed = codes "read failed"
text_of fault.WriteFailed = codes "write failed"
text_of fault.OutOfMemory = codes "out of memory"
text_of fault.FileFailed = codes "file failed"
text_of fault.ImageTooLong = codes "image too long"
text_of fault.BadLine = codes "bad line"
text_of fault.BadDigest = codes "bad digest file"
text_of fault.StreamTooLong = codes "stream too long"
text_of fault.BadKeyFile = codes "bad key file"
text_of fault.NotOfficer = codes "not officer"
text_of fault.BadBackup = codes "bad backup"
text_of fault.NotLawful = codes "not lawful"

-- The statuses of a run whose work didn't begin: usage, memory, a failed file, an image that is too long, a bad digest file, a bad key file. (A
-- backup may be refused before the work began, and by it.)
abbrev pub is_refusal : ℕ → Bool
is_refusal status = status == 2 || status == 7 || status == 8 || status == 9 || status == 11 || status == 13
