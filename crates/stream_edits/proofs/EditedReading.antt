-- THE STREAMS OF A FILE of which one was edited, by whether it is there before and after.
use Rattle.std.proofs.Common.{◌≡◌, ℕ, Bool, List, Some, None}
use Rattle.ntfs_def.specs.Units.{units_in}
use Rattle.ntfs_def.specs.declared.kinds.TheConstants.{DATA}
use Rattle.volume_def.specs.CaseClause.{volume_fold}
use Rattle.volume_def.specs.Files.{parts, records_of}
use Rattle.volume_def.specs.View.{VolumeView}
use Rattle.tree_model.specs.Reading.{streams_of}
use Rattle.tree_model.specs.Streams.{dropped, put_bytes}
use Rattle.tree_model.specs.Tree.{sought_stream}
use Rattle.tree_model.specs.declared.tree.Stream.{Stream}
use Rattle.edit_def.specs.Kept.{Key, key_of}
use Rattle.stream_edits.specs.Names.{EditsStream}
use Rattle.stream_edits.specs.Streams.{ShowsBytes, IsMissing, IsThere}
use Rattle.stream_edits.proofs.EditedStreams.{begun-never, begun-once, shown-held, there-plain}
use Rattle.stream_edits.proofs.SoughtStreams.{none-begun, none-named}
use Rattle.stream_edits.proofs.StreamReading.{streams-dropped, streams-made, streams-put}

module _ (changed : Key → Bool) (old new : VolumeView) (f : ℕ) (name : List ℕ) (e : EditsStream changed old new f name) where
  pub read-put : (stream : Stream) (asked bytes : List ℕ) → stream.name ≡ units_in name → IsThere old (key_of f DATA name)
      → ShowsBytes new (key_of f DATA name) bytes → streams_of new (parts (records_of new) f)
      ≡ put_bytes (volume_fold old) asked bytes (streams_of old (parts (records_of old) f)) (Some stream)
  read-put stream asked bytes is there holds =
      streams-put changed old new f name e stream asked bytes is (begun-once old f name e.bases e.readable there)
      (begun-once new f name e.bases_now e.readable_now (there-plain new (key_of f DATA name) holds.plain))
      (shown-held new (key_of f DATA name) bytes holds)

  pub read-made : (bytes : List ℕ) → sought_stream (volume_fold old) (streams_of old (parts (records_of old) f)) (units_in name) ≡ None
      → ShowsBytes new (key_of f DATA name) bytes → streams_of new (parts (records_of new) f)
      ≡ put_bytes (volume_fold old) (units_in name) bytes (streams_of old (parts (records_of old) f)) None
  read-made bytes none holds =
      streams-made changed old new f name e bytes (none-begun old f (volume_fold old) name none)
      (begun-once new f name e.bases_now e.readable_now (there-plain new (key_of f DATA name) holds.plain))
      (none-named old f (volume_fold old) name none) (shown-held new (key_of f DATA name) bytes holds)

  pub read-gone : (stream : Stream) → stream.name ≡ units_in name → IsThere old (key_of f DATA name) → IsMissing new (key_of f DATA name)
      → streams_of new (parts (records_of new) f) ≡ dropped (streams_of old (parts (records_of old) f)) (Some stream)
  read-gone stream is there missing =
      streams-dropped changed old new f name e stream is (begun-once old f name e.bases e.readable there) (begun-never new f name missing)
