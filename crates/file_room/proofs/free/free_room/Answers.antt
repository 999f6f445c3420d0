use Rattle.std.proofs.Common.{not, ap, ◌∙◌, drop}
use Rattle.std.specs.Prelude.{count_by}
use Rattle.ntfs_def.specs.declared.records.TheConstants.{FIRST_ORDINARY}
use Rattle.volume_def.specs.Sound.{ClusterBits, RecordBits}
use Rattle.tree_read.proofs.RoomLaws.{free-clusters, free-records}
use Rattle.file_room.proofs.free.free_room.Goals as goal

pub returns : goal.returns
returns c = λ view volume. record {
  clusters = c.count_free.ensures ∙ ap (count_by not) volume.stored.clusters_are ∙ free-clusters view (volume.sound ClusterBits);
  records = c.free_records.ensures ∙ ap (λ flags. count_by not (drop FIRST_ORDINARY flags)) volume.stored.records_are
      ∙ free-records view (volume.sound RecordBits);
}
