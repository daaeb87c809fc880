use Rattle.std.proofs.Common.{◌<◌, length, refl, arith}
use Rattle.aes_spec.specs.Key.{key_words, key_expansion}
use Rattle.aes_core.proofs.Words.{key_expansion-more, rest_stays_zero, few_words, word_is_there}
use Rattle.aes_core.proofs.expansion.fill.Goals as goal

pub loop-i-init : goal.loop-i-init
unfolding key_expansion
loop-i-init c = record { expanded = refl; rest = c.requires.wiped }

pub loop-i-preserved : goal.loop-i-preserved
loop-i-preserved c =
    let inv = c.loop-i.invariant in
    let size = few_words (length c.args.key.now) c.requires.fits in
    let low : c.loop-i.i < 60 = omega (arith, size.1) in
    let some : 0 < key_words c.args.key.now = omega (arith, size.0) in
    record {
      expanded = key_expansion-more c.args.key.now (key_words c.args.key.now) c.loop-i.words c.loop-i.i _ some (word_is_there c.loop-i.words c.loop-i.i inv.rest low) inv.expanded c.next.ensures;
      rest = rest_stays_zero c.loop-i.words c.loop-i.i _ inv.rest;
    }
