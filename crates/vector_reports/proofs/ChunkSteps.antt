-- Lines that were reported one after the other.
use Rattle.std.proofs.Common.{◌≡◌, ◌≢◌, ◌<◌, ◌≤◌, ◌+◌, ℕ, Bool, true, false, List, [], ◌∷◌, ◌++◌, Option, append_assoc, append-nil, refl, sym, ◌∙◌, ap, subst, length, take, drop, take-append-drop, arith}
use Rattle.engine_core.specs.Calls.{Calls}
use Rattle.outside.specs.Contents.{Appends}
use Rattle.outside.proofs.ConsecutiveCalls.{appends_none, appends_both}
use Rattle.line_input.specs.TextLines.{HasNoLineFeed, ended_line, SplitsInto}
use Rattle.vector_suite.specs.Lines.{Found}
use Rattle.vector_suite.specs.declared.lines.VectorRead.{VectorRead}
use Rattle.vector_suite.specs.declared.lines.VectorRead.TheVariants.{Bad}
use Rattle.vector_reports.specs.declared.tally.Tally.{Tally}
use Rattle.vector_reports.specs.Findings.{LinesFound, is_bad, is_too_long, read_line, with_read, lines_found}
use Rattle.vector_reports.specs.ReportText.{report_line, report_lines, has_bad}
use Rattle.vector_reports.specs.VectorReports.{remainder_lines}
use Rattle.vector_reports.specs.Progress.{ReportState, ChunkReported, CheckedUpTo, tally_after}
use Rattle.vector_reports.proofs.LineReads.{with_reads, found_as, found_none, found_more, found_behind, has_bad_behind}
use Rattle.vector_reports.proofs.LineSplits.{split_both, split_line, split_none, split_of, FirstTooLong}
use Rattle.vector_reports.proofs.ReportLines.{report_none, report_one, report_both, tally_none, tally_both}

-- bytes were held
pub chunk_held : {V : Type 0} (calls : Calls V) (state : ReportState V) (held chunk : List ℕ) → HasNoLineFeed (held ++ chunk) → ChunkReported calls state held chunk state (held ++ chunk)
chunk_held calls state held chunk no_feed = record {
  lines = [];
  reads = [];
  split = split_none (held ++ chunk) no_feed;
  found = found_none calls state.engine;
  none_bad = refl;
  tally = sym (tally_none state.tally);
  written = rw (report_none state.tally.lines) (appends_none state.gained);
}

-- nothing was taken
pub chunk_none : {V : Type 0} (calls : Calls V) (state : ReportState V) (held : List ℕ) → HasNoLineFeed held → ChunkReported calls state held [] state held
chunk_none {V} calls state held no_feed =
    let All : List ℕ → Type 0 = λ xs. ChunkReported calls state held [] state xs in
    let NoFeed : List ℕ → Type 0 = λ xs. HasNoLineFeed xs in
    subst All (append-nil held) (chunk_held calls state held [] (subst NoFeed (sym (append-nil held)) no_feed))

-- a line became whole, isn't bad, and was reported
pub chunk_line : {V : Type 0} (calls : Calls V) (before after : ReportState V) (held piece line : List ℕ) → held ++ piece ≡ ended_line line → HasNoLineFeed line
    → (let found = read_line calls before.engine line in
    is_bad found.read ≡ false → after.engine ≡ found.engine → after.tally ≡ tally_after before.tally (found.read ∷ [])
    → Appends before.gained (report_line (before.tally.lines + 1) found.read) after.gained → ChunkReported calls before held piece after [])
chunk_line {V} calls before after held piece line whole no_feed good engine tally written =
    let found = read_line calls before.engine line in record {
      lines = line ∷ [];
      reads = found.read ∷ [];
      split = subst (λ xs. SplitsInto xs (line ∷ []) []) (append-nil (ended_line line) ∙ sym whole) (split_line line [] [] [] no_feed (split_none [] tt));
      found = found_more calls before.engine line [] good ∙ ap (λ f. with_read found.read f) (found_none calls found.engine)
          ∙ ap (λ v. found_as (found.read ∷ []) v) (sym engine);
      none_bad = rw good refl;
      tally = tally;
      written = rw (report_one before.tally.lines found.read) written;
    }

-- two chunks are one
pub chunk_both : {V : Type 0} (calls : Calls V) (a b c : ReportState V) (held p mid q remainder : List ℕ) → ChunkReported calls a held p b mid → ChunkReported calls b mid q c remainder
    → ChunkReported calls a held (p ++ q) c remainder
chunk_both {V} calls a b c held p mid q remainder first second =
    let lines : b.tally.lines ≡ a.tally.lines + length first.reads = ap (λ (t : Tally). t.lines) first.tally in
    let Written : List ℕ → Type 0 = λ out. Appends a.gained out c.gained in record {
      lines = first.lines ++ second.lines;
      reads = first.reads ++ second.reads;
      split = split_both held p mid q remainder first.lines second.lines first.split second.split;
      found = found_behind calls a.engine b.engine first.lines second.lines first.reads first.found first.none_bad ∙ ap (λ f. with_reads first.reads f) second.found;
      none_bad = has_bad_behind first.reads second.reads first.none_bad ∙ second.none_bad;
      tally = second.tally ∙ ap (λ t. tally_after t second.reads) first.tally ∙ tally_both a.tally first.reads second.reads;
      written = subst Written (ap (λ n. report_lines a.tally.lines first.reads ++ report_lines n second.reads) lines ∙ sym (report_both a.tally.lines first.reads second.reads))
          (appends_both a.gained b.gained c.gained (report_lines a.tally.lines first.reads) (report_lines b.tally.lines second.reads) first.written second.written);
    }

-- a chunk was reported, and the next one was checked up to a line
pub up_to_both : {V : Type 0} (calls : Calls V) (a b c : ReportState V) (held p mid q out : List ℕ) (read : VectorRead) → (first : ChunkReported calls a held p b mid) → CheckedUpTo calls b mid q read c out
    → CheckedUpTo calls a held (p ++ q) read c (report_lines a.tally.lines first.reads ++ out)
up_to_both {V} calls a b c held p mid q out read first second =
    let lines : b.tally.lines ≡ a.tally.lines + length first.reads = ap (λ (t : Tally). t.lines) first.tally in
    let reads : first.reads ++ (second.reads ++ read ∷ []) ≡ (first.reads ++ second.reads) ++ read ∷ [] = sym (append_assoc first.reads second.reads (read ∷ [])) in record {
      lines = first.lines ++ second.lines;
      line = second.line;
      more = second.more;
      whole_lines = first.lines ++ second.whole_lines;
      remainder = second.remainder;
      split = split_both held p mid q second.remainder first.lines second.whole_lines first.split second.split;
      parts = append_assoc first.lines second.whole_lines (remainder_lines false second.remainder) ∙ ap (λ xs. first.lines ++ xs) second.parts
          ∙ sym (append_assoc first.lines second.lines (second.line ∷ second.more));
      reads = first.reads ++ second.reads;
      engine = second.engine;
      found = found_behind calls a.engine b.engine first.lines second.lines first.reads first.found first.none_bad ∙ ap (λ f. with_reads first.reads f) second.found;
      none_bad = has_bad_behind first.reads second.reads first.none_bad ∙ second.none_bad;
      line_found = second.line_found;
      tally = second.tally ∙ ap (λ t. tally_after t (second.reads ++ read ∷ [])) first.tally ∙ tally_both a.tally first.reads (second.reads ++ read ∷ []) ∙ ap (λ xs. tally_after a.tally xs) reads;
      is_report = ap (λ xs. report_lines a.tally.lines first.reads ++ xs) (second.is_report ∙ ap (λ n. report_lines n (second.reads ++ read ∷ [])) lines)
          ∙ sym (report_both a.tally.lines first.reads (second.reads ++ read ∷ [])) ∙ ap (λ xs. report_lines a.tally.lines xs) reads;
    }

-- the first line of what is held and a piece was checked
first_line : {V : Type 0} (calls : Calls V) (before after : ReportState V) (held chunk line remainder : List ℕ) (whole_lines more : List (List ℕ)) (read : VectorRead) → SplitsInto (held ++ chunk) whole_lines remainder
    → whole_lines ++ remainder_lines false remainder ≡ line ∷ more → read_line calls before.engine line ≡ record { read = read; engine = after.engine } → after.tally ≡ tally_after before.tally (read ∷ [])
    → CheckedUpTo calls before held chunk read after (report_line (before.tally.lines + 1) read)
first_line calls before after held chunk line remainder whole_lines more read split parts found tally = record {
  lines = [];
  line = line;
  more = more;
  whole_lines = whole_lines;
  remainder = remainder;
  split = split;
  parts = parts;
  reads = [];
  engine = before.engine;
  found = found_none calls before.engine;
  none_bad = refl;
  line_found = found;
  tally = tally;
  is_report = sym (report_one before.tally.lines read);
}

-- what a line finds, and the engine that it leaves
abbrev line_as : {V : Type 0} → VectorRead → V → Found V
line_as read v = record { read = read; engine = v }

-- a line became whole, and was checked
pub up_to_line : {V : Type 0} (calls : Calls V) (before after : ReportState V) (held front back line : List ℕ) → held ++ front ≡ ended_line line → HasNoLineFeed line
    → (let found = read_line calls before.engine line in
    after.engine ≡ found.engine → after.tally ≡ tally_after before.tally (found.read ∷ [])
    → CheckedUpTo calls before held (front ++ back) found.read after (report_line (before.tally.lines + 1) found.read))
up_to_line {V} calls before after held front back line whole no_feed engine tally =
    let found = read_line calls before.engine line in
    let behind = split_of back in
    let split : SplitsInto (held ++ (front ++ back)) (line ∷ behind.lines) behind.remainder =
    subst (λ xs. SplitsInto xs (line ∷ behind.lines) behind.remainder) (sym (sym (append_assoc held front back) ∙ ap (λ xs. xs ++ back) whole)) (split_line line back behind.remainder behind.lines no_feed behind.splits) in
    let same : found ≡ record { read = found.read; engine = after.engine } = ap (λ v. line_as found.read v) (sym engine) in
    first_line calls before after held (front ++ back) line behind.remainder (line ∷ behind.lines) (behind.lines ++ remainder_lines false behind.remainder) found.read split refl same tally

-- a line is too long
pub up_to_long : {V : Type 0} (calls : Calls V) (before after : ReportState V) (held chunk : List ℕ) → FirstTooLong false (held ++ chunk) → after.engine ≡ before.engine → after.tally ≡ tally_after before.tally (Bad ∷ [])
    → CheckedUpTo calls before held chunk Bad after (report_line (before.tally.lines + 1) Bad)
up_to_long {V} calls before after held chunk first engine tally =
    let found : read_line calls before.engine first.line ≡ record { read = Bad; engine = after.engine } =
    rw first.too_long (ap (λ v. line_as Bad v) (sym engine)) in
    first_line calls before after held chunk first.line first.remainder first.whole_lines first.more Bad first.split first.parts found tally

-- a part of a chunk was reported, and the rest was checked up to a line
pub rest_up_to : {V : Type 0} (calls : Calls V) (a b c : ReportState V) (held mid chunk out : List ℕ) (done : ℕ) (read : VectorRead) → (first : ChunkReported calls a held (take done chunk) b mid)
    → CheckedUpTo calls b mid (drop done chunk) read c out → CheckedUpTo calls a held chunk read c (report_lines a.tally.lines first.reads ++ out)
rest_up_to {V} calls a b c held mid chunk out done read first second =
    subst (λ xs. CheckedUpTo calls a held xs read c (report_lines a.tally.lines first.reads ++ out)) (take-append-drop done chunk)
    (up_to_both calls a b c held (take done chunk) mid (drop done chunk) out read first second)

-- a part of a piece made a line whole, which was checked
pub piece_up_to : {V : Type 0} (calls : Calls V) (before after : ReportState V) (held piece line : List ℕ) (count : ℕ) → held ++ take count piece ≡ ended_line line → HasNoLineFeed line
    → (let found = read_line calls before.engine line in
    after.engine ≡ found.engine → after.tally ≡ tally_after before.tally (found.read ∷ [])
    → CheckedUpTo calls before held piece found.read after (report_line (before.tally.lines + 1) found.read))
piece_up_to {V} calls before after held piece line count whole no_feed engine tally =
    let found = read_line calls before.engine line in
    subst (λ xs. CheckedUpTo calls before held xs found.read after (report_line (before.tally.lines + 1) found.read)) (take-append-drop count piece)
    (up_to_line calls before after held (take count piece) (drop count piece) line whole no_feed engine tally)
