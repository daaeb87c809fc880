-- The text of a report (a form of this project's own).
use Rattle.std.specs.Prelude.{ℕ, ◌+◌, ◌++◌, Bool, true, false, if◌then◌else◌, List, [], ◌∷◌, codes, decimal, count_by}
use Rattle.std.specs.List.{list_any}
use Rattle.vector_reports.specs.Findings.{is_bad}
use Rattle.vector_suite.specs.declared.lines.VectorRead.{VectorRead}
use Rattle.vector_suite.specs.declared.lines.VectorRead.TheVariants.{Pass, Fail, Comment, Bad}

-- what is written of the input line with this number
abbrev pub report_line : ℕ → VectorRead → List ℕ
report_line number Pass = decimal number ++ codes " pass\n"
report_line number Fail = decimal number ++ codes " fail\n"
report_line number Comment = []
report_line number Bad = codes "bad line " ++ (decimal number ++ codes "\n")

-- what is written of input lines, so many of which stand before these
unfoldable pub report_lines : ℕ → List VectorRead → List ℕ
report_lines before [] = []
report_lines before (read ∷ reads) = report_line (before + 1) read ++ report_lines (before + 1) reads

abbrev pub is_pass : VectorRead → Bool
is_pass Pass = true
is_pass Fail = false
is_pass Comment = false
is_pass Bad = false

abbrev pub is_vector : VectorRead → Bool
is_vector Pass = true
is_vector Fail = true
is_vector Comment = false
is_vector Bad = false

-- how many vectors were checked, and how many of them passed
abbrev pub checked_in : List VectorRead → ℕ
checked_in reads = count_by is_vector reads

abbrev pub passed_in : List VectorRead → ℕ
passed_in reads = count_by is_pass reads

-- the last line, of so many checked and passed
abbrev pub last_line : ℕ → ℕ → List ℕ
last_line passed checked = decimal passed ++ (codes " of " ++ (decimal checked ++ codes "\n"))

abbrev pub has_bad : List VectorRead → Bool
has_bad reads = list_any is_bad reads

-- it isn't written behind a bad line
abbrev pub ending_line : List VectorRead → List ℕ
ending_line reads = if has_bad reads then [] else last_line (passed_in reads) (checked_in reads)

-- the report of input lines that were found to be these
abbrev pub report_of : List VectorRead → List ℕ
report_of reads = report_lines 0 reads ++ ending_line reads
