use Rattle.std.proofs.Common.{subst, ◌≡◌, ◌<◌, ℕ, List, slice_index, slice_index_or, slice_set, [], length, refl, ap, ◌∙◌, arith, bit_xor, inl, inr}
use Rattle.std.proofs.lemmas.Bool.{cases_lt}
use Rattle.std.proofs.lemmas.Grind.{get_or-set_at}
use Rattle.std.proofs.lemmas.List.{get_or-set_other, length-set}
use Rattle.aes_spec.specs.Aes.{IsState}
use Rattle.aes_spec.specs.Key.{words_state}
use Rattle.aes_lanes.specs.Nibbles.{to_tower}
use Rattle.aes_lanes.specs.Rounds.{byte}
use Rattle.aes_lanes.proofs.keys.prepared.Goals as goal

kept : (v : List (List (List ℕ))) (i n : ℕ) (x : List (List ℕ)) (j r : ℕ) → n < i → byte (slice_index_or (slice_set v i x) n []) j r ≡ byte (slice_index_or v n []) j r
kept v i n x j r h = ap (λ (t : List (List ℕ)). byte t j r) (get_or-set_other v i n x [] (omega arith))

put : (v : List (List (List ℕ))) (i n : ℕ) (x : List (List ℕ)) (j r : ℕ) → i < length v → n ≡ i → byte (slice_index_or (slice_set v i x) n []) j r ≡ byte x j r
put v i n x j r h e = ap (λ (t : List (List ℕ)). byte t j r) (get_or-set_at v i n x [] e h)

pub loop-round-init : goal.loop-round-init
loop-round-init c =
    let words = c.args.words.now in
    let e = c.round_key.ensures in
    record {
      states = λ n h.
          let back : 0 ≡ n = omega arith in
          subst (λ (m : ℕ). IsState (words_state words m)) back (subst IsState e c.first_key-first.ensures.state);
      size = refl;
      first = λ j h r hr. c.first_key-first.ensures.lanes j h r hr ∙ ap (λ (k : List ℕ). to_tower (slice_index k r)) e;
      mixed = λ n j low high. absurd (omega arith);
    }

pub loop-round-preserved : goal.loop-round-preserved
loop-round-preserved c =
    let inv = c.loop-round.invariant in
    let words = c.args.words.now in
    let e = c.round_key-in-loop-round.ensures in
    record {
      states = λ n high. elim (cases_lt n c.loop-round.round) [
        | inl below ↦ inv.states n below
        | inr above ↦
            let back : c.loop-round.round ≡ n = omega arith in
            subst (λ (m : ℕ). IsState (words_state words m)) back (subst IsState e c.mixed_key-key.ensures.state)
      ];
      size = omega (arith, length-set c.loop-round.keys c.loop-round.round c.mixed_key-key.result, inv.size);
      first = λ j h r hr. kept c.loop-round.keys c.loop-round.round 0 c.mixed_key-key.result j r (omega arith) ∙ inv.first j h r hr;
      mixed = λ n j low high h r hr. elim (cases_lt n c.loop-round.round) [
        | inl below ↦ kept c.loop-round.keys c.loop-round.round n c.mixed_key-key.result j r below ∙ inv.mixed n j low below h r hr
        | inr above ↦
            let same : n ≡ c.loop-round.round = omega arith in
            let back : c.loop-round.round ≡ n = omega arith in
            put c.loop-round.keys c.loop-round.round n c.mixed_key-key.result j r (omega (arith, inv.size)) same
            ∙ c.mixed_key-key.ensures.lanes j h r hr
            ∙ ap (λ (k : List ℕ). to_tower (bit_xor (slice_index k r) 99)) (e ∙ ap (words_state words) back)
      ];
    }

pub returns : goal.returns
returns c j h =
    let inv = c.loop-round.invariant in
    let words = c.args.words.now in
    let rounds = c.args.rounds in
    let e = c.round_key-2.ensures in
    record {
      states = λ n high. elim (cases_lt n rounds) [
        | inl below ↦ inv.states n (omega arith)
        | inr above ↦
            let back : rounds ≡ n = omega arith in
            subst (λ (m : ℕ). IsState (words_state words m)) back (subst IsState e c.last_key.ensures.state)
      ];
      first = λ r hr. kept c.loop-round.keys rounds 0 c.last_key.result j r (omega arith) ∙ inv.first j h r hr;
      mixed = λ n low high r hr. kept c.loop-round.keys rounds n c.last_key.result j r high ∙ inv.mixed n j low (omega arith) h r hr;
      last = λ r hr. put c.loop-round.keys rounds rounds c.last_key.result j r (omega (arith, inv.size)) refl ∙ c.last_key.ensures.lanes j h r hr ∙ ap (λ (k : List ℕ). bit_xor (slice_index k r) 99) e;
    }
