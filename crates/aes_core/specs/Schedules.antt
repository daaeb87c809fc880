-- What contracts see of a key schedule.
use Rattle.std.specs.Prelude.{◌≡◌, ℕ, ◌+◌, ◌-◌, ◌*◌, List, ◌++◌, length, replicate, IsTrue}
use Rattle.bits_core.specs.ByteList.{IsBytes, zeros}
use Rattle.bits_core.specs.Parameters.{is_aes_length}
use Rattle.aes_spec.specs.Key.{key_words, key_rounds, schedule_words}

-- the number of rounds, and room for sixty words of four bytes
pub record KeySchedule : Type 0 where
  pub rounds : ℕ
  pub words : List (List ℕ)

-- n words of zeros
abbrev pub zero_words : ℕ → List (List ℕ)
zero_words n = replicate n (zeros 4)

-- the wiped schedule
abbrev pub blank : KeySchedule
blank = record { rounds = 0; words = zero_words 60 }

-- the schedule of a key, all its bytes
abbrev pub expanded : List ℕ → KeySchedule
expanded key =
    record { rounds = key_rounds key; words = schedule_words key ++ zero_words (60 - 4 * (key_words key + 7)) }

-- the schedule was expanded from this key, a list of bytes
pub record IsExpanded (schedule : KeySchedule) (key : List ℕ) : Type 0 where
  pub fits : IsTrue (is_aes_length (length key))
  pub bytes : IsBytes key
  pub whole : schedule ≡ expanded key
