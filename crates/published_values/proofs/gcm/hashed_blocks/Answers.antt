use Rattle.std.proofs.Common.{refl}
use Rattle.ghash_core.specs.Block.{bits, block_of, value_of_bits, first_bytes, bytes_of, plus, zero_block, one_block, reduction, by_x, product, power, ghash, first_blocks, blocks_in, blocks_of}
use Rattle.published_values.specs.Bytes.{bytes}
use Rattle.published_values.proofs.gcm.hashed_blocks.Goals as goal

pub returns-clause-by_x : goal.returns-clause-by_x
unfolding bits block_of value_of_bits first_bytes bytes_of plus zero_block one_block reduction by_x product power ghash first_blocks blocks_in blocks_of bytes
returns-clause-by_x c = refl

pub returns-clause-product : goal.returns-clause-product
unfolding bits block_of value_of_bits first_bytes bytes_of plus zero_block one_block reduction by_x product power ghash first_blocks blocks_in blocks_of bytes
returns-clause-product c = refl

pub returns-clause-ghash : goal.returns-clause-ghash
unfolding bits block_of value_of_bits first_bytes bytes_of plus zero_block one_block reduction by_x product power ghash first_blocks blocks_in blocks_of bytes
returns-clause-ghash c = refl
