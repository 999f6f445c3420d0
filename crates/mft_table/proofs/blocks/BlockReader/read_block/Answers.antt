use Rattle.std.proofs.Common.{refl}
use Rattle.volume_def.specs.Blocks.{block_of}
use Rattle.mft_table.proofs.blocks.BlockReader.read_block.Goals as goal

pub returns-clause-read : goal.returns-clause-read
unfolding block_of
returns-clause-read g c told =
    let first = c.in_ok-read_sector.ensures in
    let second = rw first.reads.only_reads.image at c.in_ok-read_sector-2.ensures.read in
    rw (c.join.ensures, first.read told, second told) refl
