use Rattle.std.proofs.Common.{ℕ, List, subst, ap, arith}
use Rattle.aes_core.specs.Schedules.{KeySchedule}
use Rattle.ghash_core.specs.Filled as Tables
use Rattle.gcm_mode.specs.Gcm.{hash_subkey}
use Rattle.gcm_mode.proofs.prepared_key.Prepared.fill.Goals as goal

pub encrypt-requires : goal.encrypt-requires
encrypt-requires c =
    let rounds = ap (λ (s : KeySchedule). s.rounds) c.expand.ensures.whole in
    omega arith

pub returns : goal.returns
unfolding hash_subkey
returns c =
    let rounds = ap (λ (s : KeySchedule). s.rounds) c.expand.ensures.whole in
    record {
      filled = record {
        schedule = c.expand.ensures;
        table = subst (λ (h : List ℕ). Tables.IsFilled c.fill.new.self h) (c.encrypt.ensures c.args.key.now c.expand.ensures) c.fill.ensures;
      };
      ready = omega arith;
    }
