-- Records of an index that were edited, where they are told.
use Rattle.std.proofs.Common.{sym, subst}
use Rattle.std.specs.Prelude.{IsTrue}
use Rattle.volume_def.specs.IndexesClause.{IndexParts}
use Rattle.volume_def.specs.View.{VolumeView}
use Rattle.index_node.specs.EditBlocks.{Edits, Records}
use Rattle.index_store.specs.IndexBlocks.{told_records}
use Rattle.index_store.specs.IndexRecords.{index_record_on}
use Rattle.index_store.proofs.ToldLaws.{records-told, told-records}

pub records-changed : (old new : VolumeView) (index : IndexParts) (Change : Records → Records → Type 0)
    → Edits (told_records old index) (told_records new index) Change → IsTrue old.told
    → Change (index_record_on old index) (index_record_on new index)
records-changed old new index Change edits told =
    let on = edits.on (index_record_on old index) (records-told old index told) in
    subst (λ r. Change (index_record_on old index) r) (sym (told-records new index on.0 on.1).1) on.2
