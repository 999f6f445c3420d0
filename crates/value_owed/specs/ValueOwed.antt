-- AN EDIT OF ONE STREAM, and then times and flags: a stream has other bytes, or went, in the record of its file or in clusters, and the
-- file was set as `setattr` does it. What the calls of such a command give, and the first mark behind them.
use Rattle.std.specs.Prelude.{◌≡◌, ◌+◌, ◌*◌, ◌/◌, ◌<◌, ◌≤◌, ℕ, Bool, false, true, List, [], ◌∷◌, length, Option, Some, None, is_some}
use Rattle.std.specs.Prelude.{sum_by, unwrap_or, if◌then◌else◌}
use Rattle.ntfs_def.specs.Node.{Item}
use Rattle.ntfs_def.specs.Units.{units_in}
use Rattle.ntfs_def.specs.declared.kinds.TheConstants.{DATA}
use Rattle.volume_def.specs.Files.{Part, parts_at}
use Rattle.volume_def.specs.Readable.{IsDirectory}
use Rattle.volume_def.specs.StreamSize.{told_size}
use Rattle.volume_def.specs.Table.{cluster_bytes}
use Rattle.volume_def.specs.Values.{first_part, spot_at}
use Rattle.volume_def.specs.View.{VolumeView}
use Rattle.tree_model.specs.Bill.{grows}
use Rattle.tree_model.specs.Need.{Bill, empty_bill}
use Rattle.tree_model.specs.Reading.{read}
use Rattle.tree_model.specs.StreamRoom.{is_cluster, is_in_place, new_clusters, parts_named, stream_parts}
use Rattle.tree_model.specs.Subjects.{Located, NoName}
use Rattle.tree_model.specs.declared.command.Command.{Command}
use Rattle.tree_model.specs.declared.command.Command.TheVariants as c
use Rattle.tree_model.specs.Tree.{Tree}
use Rattle.tree_model.specs.declared.tree.Node.{Node}
use Rattle.edit_def.specs.Items.{HasItems}
use Rattle.edit_def.specs.Kept.{key_of}
use Rattle.edit_def.specs.OneFile.{one_file, touched_alone}
use Rattle.edit_def.specs.Purses.{run_size}
use Rattle.session_def.specs.Cost.{bytes_in, given_back}
use Rattle.session_def.specs.Done.{counts_vcn, may_own, stream_in}
use Rattle.session_def.specs.Kept.{KeepsEntries}
use Rattle.session_def.specs.Named.{spelt}
use Rattle.session_def.specs.State.{Stands, State}
use Rattle.value_edits.specs.SetsInPlace.{SetsInPlace}
use Rattle.value_edits.specs.ValueEdits.{IsEdited}

-- THE COMMANDS that are done so
abbrev pub edits_value : Command → Bool
edits_value (c.Write path stream from bytes) = true
edits_value (c.Hwrite handle from bytes) = true
edits_value (c.Truncate path stream size) = true
edits_value (c.Rmstream path name) = true
edits_value other = false

-- THE CLUSTERS ON ITS BILL, which has that file alone: a stream that gets longer, or other bytes, may not stay in its record. One that gets
-- no longer, or goes, has the empty bill; so has a write into clusters that are there which ends within the stream.
abbrev pub clusters_to_write : ℕ → List Part → ℕ → ℕ → Option ℕ
clusters_to_write size extents from len = if is_in_place size extents from len then None else Some (new_clusters size extents from len)

abbrev pub clusters_asked : VolumeView → Tree → Command → Located → Option ℕ
clusters_asked view tree (c.Write path stream from bytes) at =
    clusters_to_write (cluster_bytes view.layout) (stream_parts view tree at) from (length bytes)
clusters_asked view tree (c.Hwrite handle from bytes) at =
    clusters_to_write (cluster_bytes view.layout) (stream_parts view tree at) from (length bytes)
clusters_asked view tree (c.Truncate path stream size) at =
    if grows size at.content then Some (new_clusters (cluster_bytes view.layout) (stream_parts view tree at) 0 0) else None
clusters_asked view tree other at = None

abbrev pub bill_asked : VolumeView → ℕ → Option ℕ → Bill
bill_asked view f None = empty_bill
bill_asked view f (Some k) = one_file k (touched_alone view f)

-- the clusters that have an owner then, and had none
abbrev pub taken_in : VolumeView → VolumeView → ℕ
taken_in old new = given_back new old

-- BETWEEN the two: the volume as the edit of the stream left it, and the tree that it reads as. The sectors that the bytes of the command
-- fill were written then, and two for each cluster that was given back, or taken.
abbrev pub between : State → Command → VolumeView → State
between before command mid = record before {
  view = mid;
  machine = record before.machine { tree = read mid };
  written = before.written + bytes_in command / 512 + 2 * given_back before.view mid + 2 * taken_in before.view mid;
}

-- THE STREAM WAS EDITED, and then the times and flags of the file were set, and told anew in the entries of the file's names.
pub record SetsBehindValue (before next : State) (command : Command) (at : Located) (mid staged : VolumeView) : Type 0 where
  -- the volume before; the command is one of these, its words name nothing new and a stream that is there
  pub stands : Stands before
  pub edits : edits_value command ≡ true
  pub new : at.new ≡ NoName
  pub there : is_some at.content ≡ true
  -- the stream by its name, and all parts of the file that are found by the units of that name are its own
  pub name : List ℕ
  pub spelt_so : units_in name ≡ spelt before.machine.tree at
  pub alone : parts_named before.view at.file (units_in name) ≡ parts_at before.view at.file DATA name
  -- no more bytes are written than a command may have
  pub few : bytes_in command ≤ 32768
  -- the edit of the stream, which gains clusters that the command counts alone, below its end, and then owns none that it may not
  pub gains : ℕ → Bool
  pub counted : (vcn : ℕ) → gains vcn ≡ true
      → counts_vcn (cluster_bytes before.view.layout) command at (stream_in before.view before.machine.tree at) vcn ≡ true
  pub below : (vcn : ℕ) → gains vcn ≡ true
      → vcn * cluster_bytes before.view.layout < told_size (first_part (parts_at mid at.file DATA name))
  pub node : Node
  pub edited : IsEdited (key_of at.file DATA name) gains before.view mid node
  pub takes : sum_by run_size edited.edits.taken ≤ unwrap_or (clusters_asked before.view before.machine.tree command at) 0
  pub owned : (vcn : ℕ) → is_cluster (spot_at (parts_at mid at.file DATA name) vcn) ≡ true
      → may_own (cluster_bytes before.view.layout) command (told_size (first_part (parts_at mid at.file DATA name))) vcn ≡ true
  -- what came behind it, as if the file had been set on the volume between; its entries are right from the tree before on
  pub behind : SetsInPlace (between before command mid) next (c.Setattr [] 0) at staged
  pub entries : (dir : ℕ) (was now : List Item) → IsDirectory mid dir → HasItems mid dir was → HasItems staged dir now
      → KeepsEntries staged before.machine.tree next.machine.tree (at.file ∷ []) [] was now
