-- A record of an index that was written: what stands in its place then.
use Rattle.std.specs.Prelude.{ℕ, ◌*◌, List}
use Rattle.ntfs_def.specs.Fixup.{Seals}
use Rattle.volume_def.specs.IndexesClause.{IndexParts}
use Rattle.volume_def.specs.Table.{cluster_bytes}
use Rattle.volume_def.specs.Values.{spot_at}
use Rattle.volume_def.specs.View.{VolumeView}
use Rattle.attr_store.specs.Clusters.{WritesStream}
use Rattle.index_tree.specs.EditBlocks.{Writes}
use Rattle.index_store.specs.IndexRecords.{index_record_on}

-- THE RECORD OF A NUMBER WAS WRITTEN: sealed anew, these bytes stand in the clusters of the index, and so in its record; no other record of
-- it changed.
pub record WritesRecord (old new : VolumeView) (index : IndexParts) (vcn : ℕ) (from : List ℕ) : Type 0 where
  pub stored : List ℕ
  pub seals : Seals from stored
  pub stream : WritesStream old new (spot_at index.records) (vcn * cluster_bytes old.layout) stored
  pub records : Writes vcn from (index_record_on old index) (index_record_on new index)
