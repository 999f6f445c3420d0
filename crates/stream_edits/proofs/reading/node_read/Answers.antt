use Rattle.std.proofs.Common.{ap, sym, ◌∙◌}
use Rattle.ntfs_def.specs.Units.{units_in}
use Rattle.volume_def.specs.CaseClause.{volume_fold}
use Rattle.volume_def.specs.Files.{parts, records_of}
use Rattle.tree_model.specs.Reading.{streams_of}
use Rattle.tree_model.specs.Streams.{dropped, put_bytes}
use Rattle.tree_model.specs.Tree.{sought_stream}
use Rattle.stream_edits.proofs.EditedReading.{read-gone, read-made, read-put}
use Rattle.stream_edits.proofs.NodeStreams.{node-changed}
use Rattle.stream_edits.proofs.reading.node_read.Goals as goal

pub returns-clause-put : goal.returns-clause-put
returns-clause-put c changed old new f name e unseen numbers hides stream asked bytes found is there holds =
    node-changed changed old new f name e unseen numbers hides
    (λ streams. put_bytes (volume_fold old) asked bytes streams (sought_stream (volume_fold old) streams asked))
    (read-put changed old new f name e stream asked bytes is there holds
    ∙ ap (put_bytes (volume_fold old) asked bytes (streams_of old (parts (records_of old) f))) (sym found))

pub returns-clause-made : goal.returns-clause-made
returns-clause-made c changed old new f name e unseen numbers hides bytes none holds =
    node-changed changed old new f name e unseen numbers hides
    (λ streams. put_bytes (volume_fold old) (units_in name) bytes streams (sought_stream (volume_fold old) streams (units_in name)))
    (read-made changed old new f name e bytes none holds
    ∙ ap (put_bytes (volume_fold old) (units_in name) bytes (streams_of old (parts (records_of old) f))) (sym none))

pub returns-clause-gone : goal.returns-clause-gone
returns-clause-gone c changed old new f name e unseen numbers hides stream asked found is there missing =
    node-changed changed old new f name e unseen numbers hides (λ streams. dropped streams (sought_stream (volume_fold old) streams asked))
    (read-gone changed old new f name e stream is there missing ∙ ap (dropped (streams_of old (parts (records_of old) f))) (sym found))
