-- The rounds under an expanded schedule are those under its key.
use Rattle.std.proofs.Common.{◌≡◌, ℕ, zero, suc, ◌+◌, ◌-◌, ◌*◌, ◌<◌, ◌≤◌, List, [], ◌∷◌, ◌++◌, length, ap, ap₂, ◌∙◌, arith, slice_index, slice_index_or}
use Rattle.std.proofs.lemmas.List.{get_or_append_left}
use Rattle.aes_spec.specs.Aes.{sub_bytes, inv_sub_bytes, shift_rows, inv_shift_rows, mix_columns, inv_mix_columns, add_round_key, mixed_rounds, cipher, unmixed_rounds, inverse_cipher}
use Rattle.aes_spec.specs.Key.{key_words, key_rounds, schedule_words, words_state, round_key, aes, aes_inverse}
use Rattle.aes_core.specs.Schedules.{KeySchedule, zero_words, expanded, IsExpanded}
use Rattle.aes_core.proofs.Words.{length-key_expansion}

mixed_rounds_same : (w v : ℕ → List ℕ) (n : ℕ) (s : List ℕ) → ((r : ℕ) → r ≤ n → w r ≡ v r) → mixed_rounds w n s ≡ mixed_rounds v n s
unfolding mixed_rounds
mixed_rounds_same w v zero s same = ap (λ (k : List ℕ). add_round_key k s) (same 0 (omega arith))
mixed_rounds_same w v (suc n) s same =
    ap₂ (λ (k x : List ℕ). add_round_key k (mix_columns (shift_rows (sub_bytes x)))) (same (n + 1) (omega arith)) (mixed_rounds_same w v n s (λ r h. same r (omega arith)))

cipher_same : (w v : ℕ → List ℕ) (n : ℕ) (s : List ℕ) → ((r : ℕ) → r ≤ n → w r ≡ v r) → cipher w n s ≡ cipher v n s
unfolding cipher
cipher_same w v n s same =
    ap₂ (λ (k x : List ℕ). add_round_key k (shift_rows (sub_bytes x))) (same n (omega arith)) (mixed_rounds_same w v (n - 1) s (λ r h. same r (omega arith)))

unmixed_rounds_same : (w v : ℕ → List ℕ) (n : ℕ) (s : List ℕ) → ((r : ℕ) → r ≤ n → w r ≡ v r) → unmixed_rounds w n s ≡ unmixed_rounds v n s
unfolding unmixed_rounds
unmixed_rounds_same w v zero s same = ap (λ (k : List ℕ). add_round_key k s) (same 0 (omega arith))
unmixed_rounds_same w v (suc n) s same =
    unmixed_rounds_same w v n (inv_sub_bytes (inv_shift_rows (inv_mix_columns (add_round_key (w (n + 1)) s)))) (λ r h. same r (omega arith))
    ∙ ap (λ (k : List ℕ). unmixed_rounds v n (inv_sub_bytes (inv_shift_rows (inv_mix_columns (add_round_key k s))))) (same (n + 1) (omega arith))

inverse_cipher_same : (w v : ℕ → List ℕ) (n : ℕ) (s : List ℕ) → ((r : ℕ) → r ≤ n → w r ≡ v r) → inverse_cipher w n s ≡ inverse_cipher v n s
unfolding inverse_cipher
inverse_cipher_same w v n s same =
    unmixed_rounds_same w v (n - 1) (inv_sub_bytes (inv_shift_rows (add_round_key (w n) s))) (λ r h. same r (omega arith))
    ∙ ap (λ (k : List ℕ). unmixed_rounds v (n - 1) (inv_sub_bytes (inv_shift_rows (add_round_key k s)))) (same n (omega arith))

-- words after those of a round key don't change it
words_state-append : (ws zs : List (List ℕ)) (r : ℕ) → 4 * r + 3 < length ws → words_state (ws ++ zs) r ≡ words_state ws r
words_state-append ws zs r within =
    let e : (c : ℕ) → c < 4 → slice_index_or (ws ++ zs) (4 * r + c) [] ≡ slice_index_or ws (4 * r + c) [] = λ c h. get_or_append_left ws zs [] (4 * r + c) (omega arith) in
    let e0 = e 0 (omega arith) in
    let e1 = e 1 (omega arith) in
    let e2 = e 2 (omega arith) in
    let e3 = e 3 (omega arith) in
    λ i. slice_index (e0 i) 0 ∷ slice_index (e0 i) 1 ∷ slice_index (e0 i) 2 ∷ slice_index (e0 i) 3
    ∷ slice_index (e1 i) 0 ∷ slice_index (e1 i) 1 ∷ slice_index (e1 i) 2 ∷ slice_index (e1 i) 3
    ∷ slice_index (e2 i) 0 ∷ slice_index (e2 i) 1 ∷ slice_index (e2 i) 2 ∷ slice_index (e2 i) 3
    ∷ slice_index (e3 i) 0 ∷ slice_index (e3 i) 1 ∷ slice_index (e3 i) 2 ∷ slice_index (e3 i) 3 ∷ []

round_keys_same : (key : List ℕ) (zs : List (List ℕ)) (r : ℕ) → r ≤ key_rounds key → words_state (schedule_words key ++ zs) r ≡ round_key key r
unfolding round_key
round_keys_same key zs r within =
    words_state-append (schedule_words key) zs r (omega (arith, length-key_expansion key (key_words key) (4 * (key_words key + 7))))

pub cipher_under_key : (words : List (List ℕ)) (rounds : ℕ) (key block : List ℕ)
    → (let schedule : KeySchedule = record { rounds = rounds; words = words } in schedule) ≡ expanded key → cipher (words_state words) rounds block ≡ aes key block
cipher_under_key words rounds key block is =
    let zs : List (List ℕ) = zero_words (60 - 4 * (key_words key + 7)) in
    ap (λ (s : KeySchedule). cipher (words_state s.words) s.rounds block) is
    ∙ cipher_same (words_state (schedule_words key ++ zs)) (round_key key) (key_rounds key) block (round_keys_same key zs)

pub inverse_cipher_under_key : (words : List (List ℕ)) (rounds : ℕ) (key block : List ℕ)
    → (let schedule : KeySchedule = record { rounds = rounds; words = words } in schedule) ≡ expanded key → inverse_cipher (words_state words) rounds block ≡ aes_inverse key block
inverse_cipher_under_key words rounds key block is =
    let zs : List (List ℕ) = zero_words (60 - 4 * (key_words key + 7)) in
    ap (λ (s : KeySchedule). inverse_cipher (words_state s.words) s.rounds block) is
    ∙ inverse_cipher_same (words_state (schedule_words key ++ zs)) (round_key key) (key_rounds key) block (round_keys_same key zs)

-- an expanded schedule has rounds, as each call under it requires
pub some_rounds : (schedule : KeySchedule) (key : List ℕ) → IsExpanded schedule key → 0 < schedule.rounds
some_rounds schedule key is = omega (arith, ap (λ (s : KeySchedule). s.rounds) is.whole)
