-- The summary of a session that was run (a form of this project's own): twenty lines of words, over the replies to its commands and the state after
-- the last one.
use Rattle.std.specs.Prelude.{ℕ, ◌==◌, List, [], ◌∷◌, ◌++◌, length, map, codes}
use Rattle.std.specs.List.{count_by, sum_by, flat_map, range_with_len}
use Rattle.std.specs.Fmt.{decimal}
use Rattle.sha2.specs.Sha256.{sha256}
use Rattle.hex.specs.Hex.{encode_lower}
use Rattle.service_table.specs.declared.state.State.{State}
use Rattle.service_table.specs.Numbers.{status_number}
use Rattle.module_frames.specs.ReplyFrames.{ReplyFrame, reply_encoding}
use Rattle.line_words.specs.Words.{joined_words}
use Rattle.reply_lines.specs.ReplyLines.{state_name}

-- how many replies tell the status of this number
abbrev pub status_count : List ReplyFrame → ℕ → ℕ
status_count replies number = count_by (λ reply. status_number reply.status == number) replies

-- how many bytes of payload the replies have
abbrev pub payload_length : List ReplyFrame → ℕ
payload_length replies = sum_by (λ reply. length reply.payload) replies

-- the frames of the replies, joined
abbrev pub reply_bytes : List ReplyFrame → List ℕ
reply_bytes replies = flat_map reply_encoding replies

-- the words of a status's line
abbrev pub status_words : ℕ → ℕ → List (List ℕ)
status_words number count = codes "status" ∷ decimal number ∷ decimal count ∷ []

-- the words of all lines
unfoldable pub summary_rows : List ReplyFrame → State → List (List (List ℕ))
summary_rows replies last =
    (codes "commands" ∷ decimal (length replies) ∷ [])
    ∷ (map (λ number. status_words number (status_count replies number)) (range_with_len 0 16)
    ++ ((codes "payload" ∷ decimal (payload_length replies) ∷ [])
    ∷ (codes "state" ∷ state_name last ∷ [])
    ∷ (codes "sha256" ∷ encode_lower (sha256 (reply_bytes replies)) ∷ [])
    ∷ []))

-- words parted by single spaces, and an LF
abbrev pub word_line : List (List ℕ) → List ℕ
word_line words = joined_words words ++ 0x0a ∷ []

abbrev pub summary : List ReplyFrame → State → List ℕ
summary replies last = flat_map word_line (summary_rows replies last)
