-- ONE STREAM EDITED of a file that has no attribute list, in its base record, where it is one attribute: another stands in its place, or
-- none. Before that clusters are given back and taken in the bitmap of clusters, and then bytes are put into its clusters, and into those
-- that it gets. Nothing else of the volume changes.
use Rattle.std.specs.Prelude.{◌≡◌, ◌⊎◌, ◌+◌, ◌-◌, ◌*◌, ◌^◌, ◌<◌, ◌≤◌, ℕ, Bool, false, true, [], ◌∷◌, ◌++◌, List, length, Option, Some, None}
use Rattle.std.specs.Prelude.{IfSome, IsSome, nat_lt, sum_by, ◌&&◌, ◌||◌, if◌then◌else◌}
use Rattle.std.specs.Option.{option_to_list}
use Rattle.ntfs_def.specs.Attribute.{Attribute, value_of}
use Rattle.ntfs_def.specs.Fixup.{opened_of}
use Rattle.ntfs_def.specs.Record.{header_of}
use Rattle.ntfs_def.specs.Rounded.{clusters_for}
use Rattle.ntfs_def.specs.Runs.{spot_of, total_clusters}
use Rattle.ntfs_def.specs.declared.kinds.TheConstants.{DATA}
use Rattle.ntfs_def.specs.declared.run_text.Run.{Run}
use Rattle.volume_def.specs.AttributesClause.{IsRightRecord}
use Rattle.volume_def.specs.CaseClause.{volume_fold}
use Rattle.volume_def.specs.Coverage.{times_covered}
use Rattle.volume_def.specs.ExtentsClause.{AreAttribute}
use Rattle.volume_def.specs.Files.{Part, part_of, parts_at, record_of, records_of}
use Rattle.volume_def.specs.LimitsClause.{IsInLimits}
use Rattle.volume_def.specs.OwnersClause.{times_owned}
use Rattle.volume_def.specs.Table.{cluster_bytes}
use Rattle.volume_def.specs.Values.{spot_at}
use Rattle.volume_def.specs.View.{VolumeView}
use Rattle.volume_edits.specs.Clusters.{WritesStream}
use Rattle.volume_edits.specs.Rewritten.{EditsBlock}
use Rattle.tree_model.specs.Reading.{read}
use Rattle.tree_model.specs.StreamRoom.{is_cluster, new_clusters, stream_value_len, touches}
use Rattle.tree_model.specs.Streams.{resized, with_bytes, without_stream, written}
use Rattle.tree_model.specs.declared.tree.Node.{Node}
use Rattle.edit_def.specs.Account.{Wants, nothing}
use Rattle.edit_def.specs.Forms.{IsNewForm, form_of}
use Rattle.edit_def.specs.Kept.{Key, key_of, same_key}
use Rattle.edit_def.specs.Purses.{part_size, run_size}
use Rattle.session_def.specs.Nodes.{KeepsStream, has_hole}
use Rattle.record_edits.specs.Given.{GivesBack, TakesRuns}
use Rattle.record_edits.specs.InPlace.{WritesInPlace}
use Rattle.record_edits.specs.Owners.{times_in}
use Rattle.record_edits.specs.RecordEdit.{HasKey, parts_made}
use Rattle.extent_edits.specs.Cut.{KeepsRecord}
use Rattle.stream_edits.specs.Streams.{IsMissing, ShowsBytes}
use Rattle.stream_overwrites.specs.Below.{IsInOneRecord, SetsAttributes, with_node}
use Rattle.in_place_owed.specs.Below.{CanSet}

-- WHAT COMES in the place of an attribute of file f has its type and name, and its form, or one that is made anew. It is a stream by
-- itself, within the limits, and owns `more` clusters more at most. It lies in no cluster in which that did not lie, but for those that it
-- may gain. It has a hole only where that had one, keeps its flags, and its sizes tell its clusters, or are as they were.
pub record ComesInPlace (view : VolumeView) (f : ℕ) (gains : ℕ → Bool) (more : ℕ) (was now : Attribute) : Type 0 where
  pub kind : now.kind ≡ was.kind
  pub name : now.name ≡ was.name
  pub form : (form_of now ≡ form_of was) ⊎ IsNewForm (form_of now)
  pub limits : IsInLimits f (part_of f now)
  pub whole : AreAttribute (cluster_bytes view.layout) f (parts_made f (now ∷ []))
  pub size : part_size (part_of f now) ≤ part_size (part_of f was) + more
  pub spots : (vcn : ℕ) → is_cluster (spot_at (parts_made f (now ∷ [])) vcn) ≡ true
      → (is_cluster (spot_at (parts_made f (was ∷ [])) vcn) ≡ true) ⊎ (gains vcn ≡ true)
  pub holes : has_hole (parts_made f (now ∷ [])) ≡ true → has_hole (parts_made f (was ∷ [])) ≡ true
  pub keeps : KeepsStream view (parts_made f (was ∷ [])) (parts_made f (now ∷ []))

-- none
abbrev pub no_gain : ℕ → Bool
no_gain vcn = false

-- BEFORE ITS RECORD IS WRITTEN clusters were given back in the bitmap, and others taken, which had no owner; then bytes were put into its
-- clusters, and into clusters without an owner.
pub record PreparesEdit (key : Key) (old new : VolumeView) (given taken : List Run) : Type 0 where
  pub freed : VolumeView
  pub gives : GivesBack old freed given
  pub flagged : VolumeView
  pub takes : TakesRuns freed flagged taken
  pub fills : WritesInPlace (same_key key) flagged new
  pub inside : (c : ℕ) → 1 ≤ times_covered taken c → c < old.layout.clusters
  pub unowned : (c : ℕ) → 1 ≤ times_covered taken c → times_owned (records_of old) c ≡ 0
  pub once : (c : ℕ) → times_covered taken c ≤ 1
  -- none was both
  pub differ : (c : ℕ) → 1 ≤ times_covered taken c → times_covered given c ≡ 0

-- THE STREAM WAS EDITED: so it was prepared, and then another attribute stands in its place, or none. `gains` are the clusters of the
-- stream that it may gain.
pub record EditsAlone (key : Key) (gains : ℕ → Bool) (old new : VolumeView) : Type 0 where
  pub one : IsInOneRecord old key.file
  pub kind : key.kind ≡ DATA
  pub was : Attribute
  pub now : Option Attribute
  pub was_of : HasKey key was
  pub stood : parts_at old key.file key.kind key.name ≡ parts_made key.file (was ∷ [])
  -- its clusters that it has no more, and those that it has now, each as often as it had it, or has it
  pub given : List Run
  pub taken : List Run
  pub mid : VolumeView
  pub prepares : PreparesEdit key old mid given taken
  pub comes : IfSome now (ComesInPlace old key.file gains (sum_by run_size taken) was)
  pub balance : (c : ℕ) → times_in (parts_made key.file (option_to_list now)) c + times_covered given c
      ≡ times_in (parts_made key.file (was ∷ [])) c + times_covered taken c
  -- its record
  pub stored : List ℕ
  pub block : EditsBlock mid new key.file stored (was ∷ []) (option_to_list now)
  pub header : KeepsRecord (header_of (opened_of (old.block key.file))) (header_of (opened_of stored))
  pub right : IsRightRecord key.file (record_of key.file (opened_of stored))

-- it takes so many clusters, and nothing else
abbrev pub only_clusters : ℕ → Wants
only_clusters count = record nothing { clusters = count }

-- the stream is gone, or shows these bytes
abbrev pub ShowsNow : VolumeView → Key → Option (List ℕ) → Type 0
ShowsNow view key None = IsMissing view key
ShowsNow view key (Some bytes) = ShowsBytes view key bytes

-- A STREAM of file f that has these bytes then, or goes.
pub record PutsValue (old new : VolumeView) (f : ℕ) (name : List ℕ) (bytes : Option (List ℕ)) (gains : ℕ → Bool) : Type 0 where
  pub edits : EditsAlone (key_of f DATA name) gains old new
  pub shows : ShowsNow new (key_of f DATA name) bytes

-- .. where the clusters of these runs were given back, and of these taken.
pub record PutsGiving (old new : VolumeView) (f : ℕ) (name : List ℕ) (bytes : Option (List ℕ)) (gains : ℕ → Bool) (given taken : List Run)
    : Type 0 where
  pub puts : PutsValue old new f name bytes gains
  pub given_are : puts.edits.given ≡ given
  pub taken_are : puts.edits.taken ≡ taken

-- The attribute is a stream of this name ..
pub record IsStreamOf (name : List ℕ) (attribute : Attribute) : Type 0 where
  pub kind : attribute.kind ≡ DATA
  pub name_is : attribute.name ≡ name

-- .. and a value.
pub record IsStreamValue (name : List ℕ) (attribute : Attribute) : Type 0 where
  pub kind : attribute.kind ≡ DATA
  pub name_is : attribute.name ≡ name
  pub value : IsSome (value_of attribute.body)

-- A RUN THAT IS NEEDED behind these, so that the stream covers so many bytes: it has a place, and no cluster more.
pub record NeedsRun (view : VolumeView) (runs : List Run) (end : ℕ) (run : Run) : Type 0 where
  pub placed : IsSome run.lcn
  pub some : 0 < run.len
  pub len : run.len ≡ clusters_for end (cluster_bytes view.layout) - total_clusters runs

-- BYTES THAT REACH BEHIND the clusters of a stream, or into the last of them: where that is needed, one run was taken to come behind its
-- own, whose clusters had no owner; then they were put into its clusters, which these runs have, and into those of that run.
pub record WritesBehind (old flagged mid : VolumeView) (runs : List Run) (run : Option Run) (from : ℕ) (bytes : List ℕ) : Type 0 where
  pub takes : TakesRuns old flagged (option_to_list run)
  pub writes : WritesStream flagged mid (spot_of (runs ++ option_to_list run)) from bytes
  pub needs : IfSome run (NeedsRun old runs (from + length bytes))
  pub inside : (c : ℕ) → 1 ≤ times_covered (option_to_list run) c → c < old.layout.clusters
  pub unowned : (c : ℕ) → 1 ≤ times_covered (option_to_list run) c → times_owned (records_of old) c ≡ 0
  pub some : 0 < length bytes
  pub near : from + length bytes ≤ 2 ^ 40
  pub room : from + length bytes ≤ total_clusters (runs ++ option_to_list run) * cluster_bytes old.layout

-- no cluster of the stream lies behind its first `size` bytes
abbrev pub EndsBy : VolumeView → ℕ → List ℕ → ℕ → Type 0
EndsBy view f name size = (vcn : ℕ) → is_cluster (spot_at (parts_at view f DATA name) vcn) ≡ true → vcn * cluster_bytes view.layout < size

-- the node of the file then; the stream is asked for by these units, in whichever case
abbrev pub node_with : VolumeView → List ℕ → Option (List ℕ) → Node → Node
node_with view asked None node = without_stream (volume_fold view) asked node
node_with view asked (Some bytes) node = with_bytes (volume_fold view) asked bytes node

-- WHAT THE VOLUME IS THEN: sound, and it reads as before but that the file is this node.
pub record IsEdited (key : Key) (gains : ℕ → Bool) (old new : VolumeView) (next : Node) : Type 0 where
  pub edits : EditsAlone key gains old new
  pub can : CanSet new key.file next
  pub reads : read new ≡ with_node key.file next (read old)

-- THE WHOLE EDIT of a command: the stream, which takes so many clusters at most, and then the times and flags of the file, in its
-- $STANDARD_INFORMATION and in the entries of all of its names.
pub record PutsStream (old new : VolumeView) (f : ℕ) (name : List ℕ) (bytes : Option (List ℕ)) (gains : ℕ → Bool) (count : ℕ)
    (times : List ℕ) (flags : ℕ) : Type 0 where
  pub mid : VolumeView
  pub puts : PutsValue old mid f name bytes gains
  pub takes : sum_by run_size puts.edits.taken ≤ count
  pub sets : SetsAttributes mid new f times flags

-- THE CLUSTERS OF A STREAM, of `size` bytes each, that it may gain by a write: those that the bytes touch, or its old value does, which
-- then left its record.
abbrev pub gained_by_write : ℕ → List Part → ℕ → ℕ → ℕ → Bool
gained_by_write size extents from len vcn = touches size from len vcn || touches size 0 (stream_value_len extents) vcn

-- .. and by another length, `end` in place of `had`: where it gets longer, those that its old value touches; and how many these are.
abbrev pub gained_by_length : ℕ → List Part → ℕ → ℕ → ℕ → Bool
gained_by_length size extents had end vcn = nat_lt had end && touches size 0 (stream_value_len extents) vcn

abbrev pub count_by_length : ℕ → List Part → ℕ → ℕ → ℕ
count_by_length size extents had end = if nat_lt had end then new_clusters size extents 0 0 else 0

-- IT HAS SO MANY BYTES, of those that it had, and behind them zeros; no cluster of it lies behind its end. It gained none but where it was
-- a value that left its record.
pub record ResizesStream (old new : VolumeView) (f : ℕ) (name : List ℕ) (size : ℕ) (held times : List ℕ) (flags : ℕ) : Type 0 where
  pub puts : PutsStream old new f name (Some (resized size held))
      (gained_by_length (cluster_bytes old.layout) (parts_at old f DATA name) (length held) size)
      (count_by_length (cluster_bytes old.layout) (parts_at old f DATA name) (length held) size) times flags
  pub ends : EndsBy puts.mid f name size

-- BYTES WERE WRITTEN into it: it gained clusters alone that they touch, or its old value does, and no more than these.
abbrev pub PutsBytes : VolumeView → VolumeView → ℕ → List ℕ → ℕ → List ℕ → List ℕ → List ℕ → ℕ → Type 0
PutsBytes old new f name at bytes held times flags = PutsStream old new f name (Some (written at bytes held))
    (gained_by_write (cluster_bytes old.layout) (parts_at old f DATA name) at (length bytes))
    (new_clusters (cluster_bytes old.layout) (parts_at old f DATA name) at (length bytes)) times flags
