-- Calls that only read the records of an index, one behind the other.
use Rattle.std.proofs.Common.{◌+◌, refl, ◌∙◌, le_refl}
use Rattle.vol_disk.specs.declared.Disk.{Ghosts}
use Rattle.attr_store.proofs.Below.{MftReads-none, MftReads-then}
use Rattle.index_store.specs.declared.index_blocks.IndexBlocks.{IndexBlocks}
use Rattle.index_store.specs.IndexBlocks.{OnlyReads}

-- no call
pub OnlyReads-none : {D : Type 0} (g : Ghosts D) (it : IndexBlocks D g) → OnlyReads g it it
OnlyReads-none g it = record {
  same_mft = refl;
  file = refl;
  index = refl;
  reads = 0;
  only = MftReads-none g it.mft.now;
}

-- one call behind the other
pub OnlyReads-then : {D : Type 0} (g : Ghosts D) (a b c : IndexBlocks D g) → OnlyReads g a b → OnlyReads g b c → OnlyReads g a c
OnlyReads-then g a b c first second = record {
  same_mft = second.same_mft ∙ first.same_mft;
  file = second.file ∙ first.file;
  index = second.index ∙ first.index;
  reads = first.reads + second.reads;
  only = MftReads-then g a.mft.now b.mft.now c.mft.now first.reads second.reads (first.reads + second.reads)
      first.only second.only (le_refl _);
}
