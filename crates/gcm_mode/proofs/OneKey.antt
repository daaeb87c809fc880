-- A key schedule is that of one key at most.
use Rattle.bits_core.specs.Parameters.{is_aes_length}
use Rattle.aes_spec.specs.Key.{key_expansion, key_word, key_words, next_word, schedule_words, word_sum, added_word}
use Rattle.aes_core.specs.Schedules.{KeySchedule, IsExpanded, zero_words}
use Rattle.std.proofs.Common.{◌≡◌, ℕ, zero, suc, ◌+◌, ◌-◌, ◌*◌, ◌/◌, ◌%◌, ◌<◌, nat_lt, cond, IsTrue, List, [], ◌∷◌, length, get_or, slice_index_or, slice_index, refl, sym, ap, ◌∙◌, arith, inl, inr, ◌⊎◌}
use Rattle.std.proofs.lemmas.Bool.{cases_lt}
use Rattle.std.proofs.lemmas.List.{get_or_append_left, length-append}
use Rattle.std.proofs.Math.Seq.{get_or-append_right}
use Rattle.std.proofs.lemmas.Grind.{same_number_lists}
use Rattle.std.proofs.lemmas.List.FromFn.{get_or-map-range_with_len}

length-key_expansion : (key : List ℕ) (nk n : ℕ) → length (key_expansion key nk n) ≡ n
unfolding key_expansion
length-key_expansion key nk zero = refl
length-key_expansion key nk (suc n) =
    length-append (key_expansion key nk n) _ ∙ ap (λ (m : ℕ). m + 1) (length-key_expansion key nk n) ∙ omega arith

below_is : (n m : ℕ) (a b : List ℕ) → n < m → cond (nat_lt n m) a b ≡ a
below_is n m a b h = grind arith

-- the first words are the key's
first_words : (key : List ℕ) (nk n i : ℕ) → i < n → i < nk → get_or (key_expansion key nk n) i [] ≡ key_word key i
unfolding key_expansion
first_words key nk zero i h k = absurd (omega arith)
first_words key nk (suc n) i h k =
    let ws = key_expansion key nk n in
    let next = next_word key nk ws n in
    let size : length ws ≡ n = length-key_expansion key nk n in
    elim (cases_lt i n) [
      | inl below ↦ get_or_append_left ws (next ∷ []) [] i (omega arith) ∙ first_words key nk n i below k
      | inr above ↦
          let last : i ≡ n = omega arith in
          let none : i - length ws ≡ 0 = omega arith in
          get_or-append_right ws (next ∷ []) i [] (omega arith)
          ∙ ap (λ (j : ℕ). get_or (next ∷ []) j []) none
          ∙ below_is n nk (key_word key n) (word_sum (slice_index_or ws (n - nk) []) (added_word nk n (slice_index_or ws (n - 1) []))) (omega arith)
          ∙ ap (key_word key) (sym last)
    ]

-- byte p of a key, from its words
key_byte : (key : List ℕ) (i b : ℕ) → b < 4 → slice_index (key_word key i) b ≡ slice_index key (4 * i + b)
key_byte key i b h = get_or-map-range_with_len (λ (b : ℕ). slice_index key (4 * i + b)) 0 4 b b 0 h (omega arith)

aes_lengths : (n : ℕ) → IsTrue (is_aes_length n) → (n ≡ 16) ⊎ ((n ≡ 24) ⊎ (n ≡ 32))
aes_lengths n h = grind arith

same_length : (m n : ℕ) → IsTrue (is_aes_length m) → IsTrue (is_aes_length n) → m / 4 ≡ n / 4 → m ≡ n
same_length m n h k e = elim (aes_lengths m h) [
  | inl a ↦ elim (aes_lengths n k) [ inl d ↦ omega arith | inr d ↦ elim d [ inl f ↦ omega arith | inr f ↦ omega arith ] ]
  | inr a ↦ elim a [
    | inl b ↦ elim (aes_lengths n k) [ inl d ↦ omega arith | inr d ↦ elim d [ inl f ↦ omega arith | inr f ↦ omega arith ] ]
    | inr b ↦ elim (aes_lengths n k) [ inl d ↦ omega arith | inr d ↦ elim d [ inl f ↦ omega arith | inr f ↦ omega arith ] ]
  ]
]

whole_words : (n : ℕ) → IsTrue (is_aes_length n) → 4 * (n / 4) ≡ n
whole_words n h = elim (aes_lengths n h) [ inl a ↦ omega arith | inr a ↦ elim a [ inl b ↦ omega arith | inr b ↦ omega arith ] ]

-- word i of a schedule that was expanded from a key
schedule_word : (s : KeySchedule) (key : List ℕ) (i : ℕ) → IsExpanded s key → i < key_words key → get_or s.words i [] ≡ key_word key i
schedule_word s key i e h =
    let nk = key_words key in
    let ws = schedule_words key in
    ap (λ (t : KeySchedule). get_or t.words i []) e.whole
    ∙ get_or_append_left ws (zero_words (60 - 4 * (nk + 7))) [] i (omega (arith, length-key_expansion key nk (4 * (nk + 7))))
    ∙ first_words key nk (4 * (nk + 7)) i (omega arith) h

pub one_key : (s : KeySchedule) (key other : List ℕ) → IsExpanded s key → IsExpanded s other → key ≡ other
one_key s key other e f =
    let rounds : key_words key + 6 ≡ key_words other + 6 = ap (λ (t : KeySchedule). t.rounds) (sym e.whole ∙ f.whole) in
    let long : length key ≡ length other = same_length (length key) (length other) e.fits f.fits (omega arith) in
    same_number_lists key other long (λ p h.
    let i = p / 4 in
    let b = p % 4 in
    let place : p ≡ 4 * (p / 4) + p % 4 = omega arith in
    let whole : 4 * (length key / 4) ≡ length key = whole_words (length key) e.fits in
    let within : p / 4 < length key / 4 = omega arith in
    let small : p % 4 < 4 = omega arith in
    ap (slice_index key) place
    ∙ sym (key_byte key (p / 4) (p % 4) small)
    ∙ ap (λ (w : List ℕ). slice_index w (p % 4)) (sym (schedule_word s key (p / 4) e within) ∙ schedule_word s other (p / 4) f (omega arith))
    ∙ key_byte other (p / 4) (p % 4) small
    ∙ ap (slice_index other) (sym place))
