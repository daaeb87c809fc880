use Rattle.std.proofs.Common.{◌<◌, ℕ, List, [], ◌++◌, length, replicate, get_or, subst, sym, ap, ◌∙◌}
use Rattle.aes_core.specs.Key.{aes}
use Rattle.aes_core.specs.Gctr.{gctr}
use Rattle.ghash_core.specs.Block.{block_of, blocks_of, bytes_of, ghash}
use Rattle.gcm_mode.specs.Gcm.{authenticated, full_tag, hash_subkey}
use Rattle.gcm_mode.proofs.Running.{IsSubkey, hashes_none, hashes_more, lengths_fit}
use Rattle.gcm_mode.proofs.blocks.tag_of.Goals as goal

pub returns : goal.returns
unfolding full_tag authenticated
returns c key f =
    let h = hash_subkey key in
    let aad = c.args.aad.now in
    let text = c.args.text.now in
    let k : IsSubkey h = record { size = f.table.size; bytes = f.table.bytes } in
    let fits : (i : ℕ) → get_or c.lengths.result i 0 < 256 = λ i. subst (λ (bytes : List ℕ). get_or bytes i 0 < 256) (sym c.lengths.ensures) (lengths_fit (length aad) (length text) i) in
    let with_aad = hashes_more h aad (replicate 16 0) c.absorb.new.acc [] k (λ i. (c.type_inv.aad i).fits) (hashes_none h) (c.absorb.ensures h f.table) in
    let with_text = hashes_more h text c.absorb.new.acc c.absorb-2.new.acc (blocks_of aad) k (λ i. (c.type_inv.text i).fits) with_aad (c.absorb-2.ensures h f.table) in
    let whole = hashes_more h c.lengths.result c.absorb-2.new.acc c.absorb-3.new.acc (blocks_of aad ++ blocks_of text) k fits with_text (c.absorb-3.ensures h f.table) in
    c.gctr.ensures key f.schedule
    ∙ ap (gctr (aes key) c.args.counter.now) (whole.hash ∙ ap (λ (bytes : List ℕ). bytes_of (ghash (block_of h) ((blocks_of aad ++ blocks_of text) ++ blocks_of bytes))) c.lengths.ensures)
