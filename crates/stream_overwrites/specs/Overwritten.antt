-- WHAT A VOLUME IS where bytes went over bytes of a stream of a file that is shown.
use Rattle.std.specs.Prelude.{◌≡◌, ◌+◌, ◌-◌, ℕ, List, Contains, Some, length, min, replicate, true}
use Rattle.ntfs_def.specs.Units.{units_in}
use Rattle.ntfs_def.specs.declared.kinds.TheConstants.{DATA}
use Rattle.volume_def.specs.CaseClause.{volume_fold}
use Rattle.volume_def.specs.Files.{Part, content_value, is_of, parts, records_of}
use Rattle.volume_def.specs.Sound.{IsSound}
use Rattle.volume_def.specs.View.{VolumeView}
use Rattle.volume_edits.specs.Clusters.{OverwritesStream}
use Rattle.tree_model.specs.IndexRoom.{Index, index_depth}
use Rattle.tree_model.specs.Reading.{read}
use Rattle.tree_model.specs.Streams.{with_bytes, written}
use Rattle.tree_model.specs.Tree.{sought_stream}
use Rattle.tree_model.specs.declared.tree.Content.TheVariants.{Plain}
use Rattle.tree_model.specs.declared.tree.Node.{Node}
use Rattle.tree_model.specs.declared.tree.Stream.{Stream}
use Rattle.record_calls.specs.Written.{HoldsBytes, WritesBytes}
use Rattle.edit_def.specs.Items.{KeepsItems}
use Rattle.edit_def.specs.Kept.{AreTellable, key_of, same_key, told_of}
use Rattle.in_place.specs.InPlace.{Rewrites}
use Rattle.command_edits.specs.Steps.{with_node}
use Rattle.stream_edits.specs.Streams.{IsThere}
use Rattle.entry_edits.specs.Attributes.{SetsAttributes}
use Rattle.in_place.specs.Unnamed.{CanSet}

-- The stream of file f, which is shown as this node, that is asked for by these units, in whichever case, stands in the file under this
-- name, in bytes, and holds these bytes. The names of the file's attributes can be told apart by their units.
pub record FindsPlain (view : VolumeView) (f : ℕ) (node : Node) (asked name held : List ℕ) : Type 0 where
  pub stream : Stream
  pub sought : sought_stream (volume_fold view) node.streams asked ≡ Some stream
  pub spelt : stream.name ≡ units_in name
  pub content : stream.content ≡ Plain held
  pub there : IsThere view (key_of f DATA name)
  pub tellable : AreTellable (told_of view f)

-- the node with these bytes over those from `at` on
abbrev pub node_over : VolumeView → List ℕ → ℕ → List ℕ → List ℕ → Node → Node
node_over view asked at bytes held node = with_bytes (volume_fold view) asked (written at bytes held) node

-- The volume is sound, reads as before but for the bytes of the stream, and had this attribute alone rewritten; directories keep their
-- items, and indexes their depth.
pub record IsOverwritten (old new : VolumeView) (f : ℕ) (node : Node) (asked name : List ℕ) (at : ℕ) (bytes held : List ℕ) : Type 0 where
  pub sound : IsSound new
  pub can : CanSet new f (node_over old asked at bytes held node)
  pub rewrites : Rewrites (same_key (key_of f DATA name)) old new
  pub reads : read new ≡ with_node f (node_over old asked at bytes held node) (read old)
  pub items : (dir : ℕ) → KeepsItems old new dir
  pub depths : (index : Index) → index_depth new index ≡ index_depth old index

-- A WRITE OVER BYTES of a stream: the bytes went over those that stood there, and then the file has these times and flags, in its
-- $STANDARD_INFORMATION and in the entries of all of its names.
pub record WritesOver (old new : VolumeView) (f : ℕ) (name : List ℕ) (at : ℕ) (bytes times : List ℕ) (flags : ℕ) : Type 0 where
  pub mid : VolumeView
  pub over : OverwritesStream old mid f name at bytes
  pub sets : SetsAttributes mid new f times flags

-- BYTES WENT OVER BYTES of a stream of file f that is a value, which stands in this part.
pub record GoesOverValue (old new : VolumeView) (f : ℕ) (name : List ℕ) (at : ℕ) (bytes : List ℕ) : Type 0 where
  pub part : Part
  pub among : Contains (parts (records_of old) f) part
  pub stream : is_of DATA name part ≡ true
  pub holds : HoldsBytes at (length bytes) part
  pub writes : WritesBytes old new part at bytes

-- A PUNCH of such a stream, which had these bytes: zeros went over those of the range, as far as it lies below the size, and then the
-- file has these times and flags.
abbrev pub zeros_in : ℕ → ℕ → List ℕ → List ℕ
zeros_in from len value = replicate (min (from + len) (length value) - min from (length value)) 0

pub record PunchesValue (old new : VolumeView) (f : ℕ) (name : List ℕ) (from len : ℕ) (times : List ℕ) (flags : ℕ) : Type 0 where
  pub mid : VolumeView
  pub value : List ℕ
  pub over : GoesOverValue old mid f name (min from (length value)) (zeros_in from len value)
  pub value_is : content_value over.part.content ≡ Some value
  pub sets : SetsAttributes mid new f times flags
