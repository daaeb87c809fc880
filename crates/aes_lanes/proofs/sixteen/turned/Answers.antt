use Rattle.std.proofs.Common.{◌≡◌, ℕ, ◌+◌, ◌-◌, ◌*◌, ◌/◌, ◌%◌, ◌<◌, List, [], ◌∷◌, ap, ap₂, ◌∙◌, arith, inl, inr}
use Rattle.std.proofs.lemmas.Bool.{cases_lt}
use Rattle.aes_lanes.specs.Rounds.{byte}
use Rattle.aes_lanes.proofs.Tower.{below_16}
use Rattle.aes_lanes.proofs.sixteen.turned.Goals as goal

pub returns : goal.returns
returns c r j hr hj =
    let vs : List (List ℕ) = (c.lower.result ∷ c.upper.result ∷ c.lower-2.result ∷ c.upper-2.result ∷ c.lower-3.result ∷ c.upper-3.result ∷ c.lower-4.result ∷ c.upper-4.result ∷ c.lower-5.result ∷ c.upper-5.result ∷ c.lower-6.result ∷ c.upper-6.result ∷ c.lower-7.result ∷ c.upper-7.result ∷ c.lower-8.result ∷ c.upper-8.result ∷ []) in
    below_16 (λ (r : ℕ). (j : ℕ) → j < 16 → byte vs ((2 * j + r / 8) % 16) ((2 * r + j / 8) % 16) ≡ byte c.args.v j r)
    (λ j hj. elim (cases_lt j 8) [
      | inl below ↦
          let lane : (2 * j + 0 / 8) % 16 ≡ 2 * j = omega arith in
          let vector : (2 * 0 + j / 8) % 16 ≡ 0 = omega arith in
          ap₂ (byte vs) lane vector ∙ c.lower.ensures.even j below
      | inr above ↦
          let lane : (2 * j + 0 / 8) % 16 ≡ 2 * (j - 8) = omega arith in
          let vector : (2 * 0 + j / 8) % 16 ≡ 1 = omega arith in
          ap₂ (byte vs) lane vector ∙ c.upper.ensures.even (j - 8) (omega arith) ∙ ap (λ (n : ℕ). byte c.args.v n 0) (omega arith)
    ])
    (λ j hj. elim (cases_lt j 8) [
      | inl below ↦
          let lane : (2 * j + 1 / 8) % 16 ≡ 2 * j = omega arith in
          let vector : (2 * 1 + j / 8) % 16 ≡ 2 = omega arith in
          ap₂ (byte vs) lane vector ∙ c.lower-2.ensures.even j below
      | inr above ↦
          let lane : (2 * j + 1 / 8) % 16 ≡ 2 * (j - 8) = omega arith in
          let vector : (2 * 1 + j / 8) % 16 ≡ 3 = omega arith in
          ap₂ (byte vs) lane vector ∙ c.upper-2.ensures.even (j - 8) (omega arith) ∙ ap (λ (n : ℕ). byte c.args.v n 1) (omega arith)
    ])
    (λ j hj. elim (cases_lt j 8) [
      | inl below ↦
          let lane : (2 * j + 2 / 8) % 16 ≡ 2 * j = omega arith in
          let vector : (2 * 2 + j / 8) % 16 ≡ 4 = omega arith in
          ap₂ (byte vs) lane vector ∙ c.lower-3.ensures.even j below
      | inr above ↦
          let lane : (2 * j + 2 / 8) % 16 ≡ 2 * (j - 8) = omega arith in
          let vector : (2 * 2 + j / 8) % 16 ≡ 5 = omega arith in
          ap₂ (byte vs) lane vector ∙ c.upper-3.ensures.even (j - 8) (omega arith) ∙ ap (λ (n : ℕ). byte c.args.v n 2) (omega arith)
    ])
    (λ j hj. elim (cases_lt j 8) [
      | inl below ↦
          let lane : (2 * j + 3 / 8) % 16 ≡ 2 * j = omega arith in
          let vector : (2 * 3 + j / 8) % 16 ≡ 6 = omega arith in
          ap₂ (byte vs) lane vector ∙ c.lower-4.ensures.even j below
      | inr above ↦
          let lane : (2 * j + 3 / 8) % 16 ≡ 2 * (j - 8) = omega arith in
          let vector : (2 * 3 + j / 8) % 16 ≡ 7 = omega arith in
          ap₂ (byte vs) lane vector ∙ c.upper-4.ensures.even (j - 8) (omega arith) ∙ ap (λ (n : ℕ). byte c.args.v n 3) (omega arith)
    ])
    (λ j hj. elim (cases_lt j 8) [
      | inl below ↦
          let lane : (2 * j + 4 / 8) % 16 ≡ 2 * j = omega arith in
          let vector : (2 * 4 + j / 8) % 16 ≡ 8 = omega arith in
          ap₂ (byte vs) lane vector ∙ c.lower-5.ensures.even j below
      | inr above ↦
          let lane : (2 * j + 4 / 8) % 16 ≡ 2 * (j - 8) = omega arith in
          let vector : (2 * 4 + j / 8) % 16 ≡ 9 = omega arith in
          ap₂ (byte vs) lane vector ∙ c.upper-5.ensures.even (j - 8) (omega arith) ∙ ap (λ (n : ℕ). byte c.args.v n 4) (omega arith)
    ])
    (λ j hj. elim (cases_lt j 8) [
      | inl below ↦
          let lane : (2 * j + 5 / 8) % 16 ≡ 2 * j = omega arith in
          let vector : (2 * 5 + j / 8) % 16 ≡ 10 = omega arith in
          ap₂ (byte vs) lane vector ∙ c.lower-6.ensures.even j below
      | inr above ↦
          let lane : (2 * j + 5 / 8) % 16 ≡ 2 * (j - 8) = omega arith in
          let vector : (2 * 5 + j / 8) % 16 ≡ 11 = omega arith in
          ap₂ (byte vs) lane vector ∙ c.upper-6.ensures.even (j - 8) (omega arith) ∙ ap (λ (n : ℕ). byte c.args.v n 5) (omega arith)
    ])
    (λ j hj. elim (cases_lt j 8) [
      | inl below ↦
          let lane : (2 * j + 6 / 8) % 16 ≡ 2 * j = omega arith in
          let vector : (2 * 6 + j / 8) % 16 ≡ 12 = omega arith in
          ap₂ (byte vs) lane vector ∙ c.lower-7.ensures.even j below
      | inr above ↦
          let lane : (2 * j + 6 / 8) % 16 ≡ 2 * (j - 8) = omega arith in
          let vector : (2 * 6 + j / 8) % 16 ≡ 13 = omega arith in
          ap₂ (byte vs) lane vector ∙ c.upper-7.ensures.even (j - 8) (omega arith) ∙ ap (λ (n : ℕ). byte c.args.v n 6) (omega arith)
    ])
    (λ j hj. elim (cases_lt j 8) [
      | inl below ↦
          let lane : (2 * j + 7 / 8) % 16 ≡ 2 * j = omega arith in
          let vector : (2 * 7 + j / 8) % 16 ≡ 14 = omega arith in
          ap₂ (byte vs) lane vector ∙ c.lower-8.ensures.even j below
      | inr above ↦
          let lane : (2 * j + 7 / 8) % 16 ≡ 2 * (j - 8) = omega arith in
          let vector : (2 * 7 + j / 8) % 16 ≡ 15 = omega arith in
          ap₂ (byte vs) lane vector ∙ c.upper-8.ensures.even (j - 8) (omega arith) ∙ ap (λ (n : ℕ). byte c.args.v n 7) (omega arith)
    ])
    (λ j hj. elim (cases_lt j 8) [
      | inl below ↦
          let lane : (2 * j + 8 / 8) % 16 ≡ 2 * j + 1 = omega arith in
          let vector : (2 * 8 + j / 8) % 16 ≡ 0 = omega arith in
          ap₂ (byte vs) lane vector ∙ c.lower.ensures.odd j below
      | inr above ↦
          let lane : (2 * j + 8 / 8) % 16 ≡ 2 * (j - 8) + 1 = omega arith in
          let vector : (2 * 8 + j / 8) % 16 ≡ 1 = omega arith in
          ap₂ (byte vs) lane vector ∙ c.upper.ensures.odd (j - 8) (omega arith) ∙ ap (λ (n : ℕ). byte c.args.v n 8) (omega arith)
    ])
    (λ j hj. elim (cases_lt j 8) [
      | inl below ↦
          let lane : (2 * j + 9 / 8) % 16 ≡ 2 * j + 1 = omega arith in
          let vector : (2 * 9 + j / 8) % 16 ≡ 2 = omega arith in
          ap₂ (byte vs) lane vector ∙ c.lower-2.ensures.odd j below
      | inr above ↦
          let lane : (2 * j + 9 / 8) % 16 ≡ 2 * (j - 8) + 1 = omega arith in
          let vector : (2 * 9 + j / 8) % 16 ≡ 3 = omega arith in
          ap₂ (byte vs) lane vector ∙ c.upper-2.ensures.odd (j - 8) (omega arith) ∙ ap (λ (n : ℕ). byte c.args.v n 9) (omega arith)
    ])
    (λ j hj. elim (cases_lt j 8) [
      | inl below ↦
          let lane : (2 * j + 10 / 8) % 16 ≡ 2 * j + 1 = omega arith in
          let vector : (2 * 10 + j / 8) % 16 ≡ 4 = omega arith in
          ap₂ (byte vs) lane vector ∙ c.lower-3.ensures.odd j below
      | inr above ↦
          let lane : (2 * j + 10 / 8) % 16 ≡ 2 * (j - 8) + 1 = omega arith in
          let vector : (2 * 10 + j / 8) % 16 ≡ 5 = omega arith in
          ap₂ (byte vs) lane vector ∙ c.upper-3.ensures.odd (j - 8) (omega arith) ∙ ap (λ (n : ℕ). byte c.args.v n 10) (omega arith)
    ])
    (λ j hj. elim (cases_lt j 8) [
      | inl below ↦
          let lane : (2 * j + 11 / 8) % 16 ≡ 2 * j + 1 = omega arith in
          let vector : (2 * 11 + j / 8) % 16 ≡ 6 = omega arith in
          ap₂ (byte vs) lane vector ∙ c.lower-4.ensures.odd j below
      | inr above ↦
          let lane : (2 * j + 11 / 8) % 16 ≡ 2 * (j - 8) + 1 = omega arith in
          let vector : (2 * 11 + j / 8) % 16 ≡ 7 = omega arith in
          ap₂ (byte vs) lane vector ∙ c.upper-4.ensures.odd (j - 8) (omega arith) ∙ ap (λ (n : ℕ). byte c.args.v n 11) (omega arith)
    ])
    (λ j hj. elim (cases_lt j 8) [
      | inl below ↦
          let lane : (2 * j + 12 / 8) % 16 ≡ 2 * j + 1 = omega arith in
          let vector : (2 * 12 + j / 8) % 16 ≡ 8 = omega arith in
          ap₂ (byte vs) lane vector ∙ c.lower-5.ensures.odd j below
      | inr above ↦
          let lane : (2 * j + 12 / 8) % 16 ≡ 2 * (j - 8) + 1 = omega arith in
          let vector : (2 * 12 + j / 8) % 16 ≡ 9 = omega arith in
          ap₂ (byte vs) lane vector ∙ c.upper-5.ensures.odd (j - 8) (omega arith) ∙ ap (λ (n : ℕ). byte c.args.v n 12) (omega arith)
    ])
    (λ j hj. elim (cases_lt j 8) [
      | inl below ↦
          let lane : (2 * j + 13 / 8) % 16 ≡ 2 * j + 1 = omega arith in
          let vector : (2 * 13 + j / 8) % 16 ≡ 10 = omega arith in
          ap₂ (byte vs) lane vector ∙ c.lower-6.ensures.odd j below
      | inr above ↦
          let lane : (2 * j + 13 / 8) % 16 ≡ 2 * (j - 8) + 1 = omega arith in
          let vector : (2 * 13 + j / 8) % 16 ≡ 11 = omega arith in
          ap₂ (byte vs) lane vector ∙ c.upper-6.ensures.odd (j - 8) (omega arith) ∙ ap (λ (n : ℕ). byte c.args.v n 13) (omega arith)
    ])
    (λ j hj. elim (cases_lt j 8) [
      | inl below ↦
          let lane : (2 * j + 14 / 8) % 16 ≡ 2 * j + 1 = omega arith in
          let vector : (2 * 14 + j / 8) % 16 ≡ 12 = omega arith in
          ap₂ (byte vs) lane vector ∙ c.lower-7.ensures.odd j below
      | inr above ↦
          let lane : (2 * j + 14 / 8) % 16 ≡ 2 * (j - 8) + 1 = omega arith in
          let vector : (2 * 14 + j / 8) % 16 ≡ 13 = omega arith in
          ap₂ (byte vs) lane vector ∙ c.upper-7.ensures.odd (j - 8) (omega arith) ∙ ap (λ (n : ℕ). byte c.args.v n 14) (omega arith)
    ])
    (λ j hj. elim (cases_lt j 8) [
      | inl below ↦
          let lane : (2 * j + 15 / 8) % 16 ≡ 2 * j + 1 = omega arith in
          let vector : (2 * 15 + j / 8) % 16 ≡ 14 = omega arith in
          ap₂ (byte vs) lane vector ∙ c.lower-8.ensures.odd j below
      | inr above ↦
          let lane : (2 * j + 15 / 8) % 16 ≡ 2 * (j - 8) + 1 = omega arith in
          let vector : (2 * 15 + j / 8) % 16 ≡ 15 = omega arith in
          ap₂ (byte vs) lane vector ∙ c.upper-8.ensures.odd (j - 8) (omega arith) ∙ ap (λ (n : ℕ). byte c.args.v n 15) (omega arith)
    ])
    r hr j hj
