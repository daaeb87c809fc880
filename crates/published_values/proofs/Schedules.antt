-- AES where the words of the key schedule are computed once and not for each round, and each substitution is looked up.
use Rattle.std.proofs.Common.{◌≡◌, ℕ, zero, suc, ◌+◌, ◌-◌, List, refl, sym, ap, ◌∙◌}
use Rattle.aes_spec.specs.Field.{sub_byte}
use Rattle.aes_spec.specs.Aes.{at, state_by, sub_bytes, shift_rows, mix_columns, add_round_key, mixed_rounds, cipher}
use Rattle.aes_spec.specs.Key.{schedule_words, words_state, key_rounds, round_key, aes}
use Rattle.published_values.proofs.Substitutions.{looked_up, looked_up-is}

abbrev substituted : (ℕ → ℕ) → List ℕ → List ℕ
substituted sub s = state_by (λ r c. sub (at s r c))

unfoldable pub rounds_by : (ℕ → ℕ) → (ℕ → List ℕ) → ℕ → List ℕ → List ℕ
rounds_by sub w zero s = add_round_key (w 0) s
rounds_by sub w (suc n) s = add_round_key (w (n + 1)) (mix_columns (shift_rows (substituted sub (rounds_by sub w n s))))

-- CIPHER() with this substitution
unfoldable pub cipher_by : (ℕ → ℕ) → (ℕ → List ℕ) → ℕ → List ℕ → List ℕ
cipher_by sub w n s = add_round_key (w n) (shift_rows (substituted sub (rounds_by sub w (n - 1) s)))

same_rounds : (w : ℕ → List ℕ) (n : ℕ) (s : List ℕ) → mixed_rounds w n s ≡ rounds_by sub_byte w n s
unfolding mixed_rounds rounds_by
same_rounds w zero s = refl
same_rounds w (suc n) s = ap (λ (x : List ℕ). add_round_key (w (n + 1)) (mix_columns (shift_rows (sub_bytes x)))) (same_rounds w n s)

same_block : (w : ℕ → List ℕ) (n : ℕ) (s : List ℕ) → cipher w n s ≡ cipher_by sub_byte w n s
unfolding cipher cipher_by
same_block w n s = ap (λ (x : List ℕ). add_round_key (w n) (shift_rows (sub_bytes x))) (same_rounds w (n - 1) s)

same_cipher : (w : ℕ → List ℕ) (n : ℕ) → cipher w n ≡ cipher_by sub_byte w n
same_cipher w n = λ i s. same_block w n s i

same_substitution : looked_up ≡ sub_byte
same_substitution = λ i b. looked_up-is b i

-- what P makes of the cipher of n rounds under these words
unfoldable pub by_words : {A : Type 0} → ((List ℕ → List ℕ) → A) → ℕ → List (List ℕ) → A
by_words P n words = P (cipher_by looked_up (words_state words) n)

with_rounds : {A : Type 0} (P : (List ℕ → List ℕ) → A) (key : List ℕ) (n : ℕ) → key_rounds key ≡ n → P (aes key) ≡ P (cipher (words_state (schedule_words key)) n)
unfolding round_key
with_rounds P key n rounds = ap (λ m. P (cipher (round_key key) m)) rounds

pub at_once : {A : Type 0} (P : (List ℕ → List ℕ) → A) (key : List ℕ) (n : ℕ) → key_rounds key ≡ n → P (aes key) ≡ by_words P n (schedule_words key)
unfolding by_words
at_once P key n rounds =
    with_rounds P key n rounds
    ∙ ap P (same_cipher (words_state (schedule_words key)) n)
    ∙ ap (λ (sub : ℕ → ℕ). P (cipher_by sub (words_state (schedule_words key)) n)) (sym same_substitution)
