use Rattle.std.proofs.Common.{◌<◌, ℕ, List, [], ◌++◌, length, replicate, get_or, subst, sym, ap, ◌∙◌}
use Rattle.ghash_core.specs.Block.{block_of, blocks_of, bytes_of, ghash}
use Rattle.gcm_mode.specs.Gcm.{hashed_iv, hash_subkey}
use Rattle.gcm_mode.proofs.Running.{IsSubkey, hashes_none, hashes_more, lengths_fit}
use Rattle.gcm_mode.proofs.blocks.hashed_counter.Goals as goal

pub returns : goal.returns
unfolding hashed_iv
returns c key f =
    let h = hash_subkey key in
    let iv = c.args.iv.now in
    let k : IsSubkey h = record { size = f.table.size; bytes = f.table.bytes } in
    let fits : (i : ℕ) → get_or c.lengths.result i 0 < 256 = λ i. subst (λ (bytes : List ℕ). get_or bytes i 0 < 256) (sym c.lengths.ensures) (lengths_fit 0 (length iv) i) in
    let with_iv = hashes_more h iv (replicate 16 0) c.absorb.new.acc [] k (λ i. (c.type_inv.iv i).fits) (hashes_none h) (c.absorb.ensures h f.table) in
    let whole = hashes_more h c.lengths.result c.absorb.new.acc c.absorb-2.new.acc (blocks_of iv) k fits with_iv (c.absorb-2.ensures h f.table) in
    whole.hash ∙ ap (λ (bytes : List ℕ). bytes_of (ghash (block_of h) (blocks_of iv ++ blocks_of bytes))) c.lengths.ensures
