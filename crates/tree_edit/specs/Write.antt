-- BYTES WRITTEN INTO A STREAM, over those in its clusters or into its value, as a path leads to it, or an open, and the refusals in their
-- order.
use Rattle.std.specs.Prelude.{◌+◌, ◌&&◌, ◌||◌, ◌==◌, ℕ, nat_le, nat_lt, not, Bool, List, Option, None, Result, Ok, Err, find, if◌then◌else◌}
use Rattle.std.specs.Option.{option_map_or}
use Rattle.volume_def.specs.Files.{Part}
use Rattle.volume_def.specs.Room.{free_bytes, unowned_clusters}
use Rattle.volume_def.specs.Table.{cluster_bytes}
use Rattle.volume_def.specs.View.{VolumeView}
use Rattle.edit_def.specs.OneFile.{no_room_alone}
use Rattle.tree_model.specs.Cases.{is_wide}
use Rattle.tree_model.specs.Opens.{contains, is_handle, to_write}
use Rattle.tree_model.specs.Paths.{and_then, found_file, resolve}
use Rattle.tree_model.specs.Reading.{read}
use Rattle.tree_model.specs.Shown.{plain_bytes}
use Rattle.tree_model.specs.StreamRoom.{is_in_place, new_clusters, stream_parts}
use Rattle.tree_model.specs.Subjects.{content_named}
use Rattle.tree_model.specs.Tree.{node_of}
use Rattle.tree_model.specs.Ways.{can_reach, goes_behind, has_free_run, has_placed_bits}
use Rattle.tree_model.specs.declared.opens.OpenEntry.{OpenEntry}
use Rattle.tree_model.specs.declared.reply.No.{No}
use Rattle.tree_model.specs.declared.reply.No.TheVariants as no
use Rattle.tree_edit.specs.Alone.{can_give, can_resize, if_room, parts_there}
use Rattle.tree_edit.specs.Movable.{can_move_there}
use Rattle.tree_edit.specs.Writable.{IsFoundToEdit, can_write_over, kept_from_writing, named_in, stream_to_write}
use Rattle.tree_edit.specs.declared.writable.Way.{Way}
use Rattle.tree_edit.specs.declared.writable.Way.TheVariants as way
use Rattle.tree_edit.specs.declared.writable.Writable.{Writable}

-- The stream lies in clusters, in one part, and the bytes go over those that were written, or right behind them, where it can take the
-- clusters that it needs, ..
abbrev pub can_lie_there : VolumeView → List ℕ → ℕ → ℕ → ℕ → Bool
can_lie_there view name from len file =
    can_give view name file && can_reach view file (stream_parts view (read view) (named_in (read view) name file)) from len

-- .. or is a value that moves into clusters for them, ..
abbrev pub can_reach_there : VolumeView → List ℕ → ℕ → ℕ → ℕ → Bool
can_reach_there view name from len file = can_lie_there view name from len file || can_move_there view name from len file

-- where its record has so many free bytes
abbrev pub can_take_by : VolumeView → ℕ → ℕ → Bool
can_take_by view free count =
    (count == 0) || (nat_le 24 free && (has_free_run view count || nat_lt (unowned_clusters view) count))

-- .. and there are as many that are free, one behind the other.
abbrev pub has_run_for : VolumeView → ℕ → ℕ → Bool
has_run_for view f count = (count == 0) || (nat_le 24 (free_bytes view f) && has_free_run view count)

abbrev pub can_go_behind : VolumeView → ℕ → List Part → ℕ → ℕ → Bool
can_go_behind view f extents from len =
    goes_behind (cluster_bytes view.layout) extents from len
    && has_run_for view f (new_clusters (cluster_bytes view.layout) extents from len)

abbrev pub can_write_behind : VolumeView → List ℕ → ℕ → ℕ → ℕ → Bool
can_write_behind view name from len file =
    can_give view name file
    && (has_placed_bits view && can_go_behind view file (stream_parts view (read view) (named_in (read view) name file)) from len)

abbrev pub can_write_moving : VolumeView → List ℕ → ℕ → ℕ → ℕ → Bool
can_write_moving view name from len file =
    can_move_there view name from len file
    && (has_placed_bits view && has_free_run view (new_clusters (cluster_bytes view.layout) (parts_there view name file) from len))

-- The bytes go over bytes in place, or else into a value that can be as long as they need, or over and behind those of a stream in
-- clusters, or with a value into clusters.
abbrev pub can_write : VolumeView → List ℕ → ℕ → ℕ → Way → ℕ → Bool
can_write view name from len way.InPlace file = can_write_over view name from len file
can_write view name from len way.InRecord file = not (can_write_over view name from len file) && can_resize view name (from + len) file
can_write view name from len way.InClusters file =
    not (can_write_over view name from len file) && can_write_behind view name from len file
can_write view name from len way.IntoClusters file =
    not (can_write_over view name from len file) && can_write_moving view name from len file

-- The room that is asked for then. A value may not stay in its record ..
abbrev pub room_to_write : VolumeView → List ℕ → ℕ → ℕ → ℕ → Option No
room_to_write view name from len file =
    no_room_alone view file
    (new_clusters (cluster_bytes view.layout) (stream_parts view (read view) (named_in (read view) name file)) from len)

-- .. nor may a run list; but bytes that end within a stream in clusters ask for none.
abbrev pub room_behind : VolumeView → ℕ → List Part → ℕ → ℕ → Option No
room_behind view file extents from len =
    if is_in_place (cluster_bytes view.layout) extents from len then None
    else no_room_alone view file (new_clusters (cluster_bytes view.layout) extents from len)

abbrev pub room_to_reach : VolumeView → List ℕ → ℕ → ℕ → ℕ → Option No
room_to_reach view name from len file = room_behind view file (stream_parts view (read view) (named_in (read view) name file)) from len

abbrev pub if_reached : VolumeView → List ℕ → ℕ → ℕ → ℕ → Result ℕ No
if_reached view name from len file =
    if can_reach_there view name from len file && has_placed_bits view then if_room (room_to_reach view name from len file) file
    else Err no.Unbuilt

abbrev pub if_written : VolumeView → List ℕ → ℕ → ℕ → ℕ → Result ℕ No
if_written view name from len file =
    if can_write_over view name from len file then Ok file
    else if can_resize view name (from + len) file then if_room (room_to_write view name from len file) file
    else if_reached view name from len file

-- `write`: THE NUMBER OF THE FILE that the path leads to, where the bytes can be written
abbrev pub write_ranged : VolumeView → List OpenEntry → List ℕ → ℕ → ℕ → ℕ → Result ℕ No
write_ranged view opens name from len file =
    if is_wide from len then Err no.TooBig else option_map_or Err (kept_from_writing opens file) (if_written view name from len file)

abbrev pub write_in : VolumeView → List OpenEntry → List ℕ → ℕ → ℕ → ℕ → Result ℕ No
write_in view opens name from len file =
    and_then (stream_to_write (read view) name (node_of (read view) file)) (λ bytes. write_ranged view opens name from len file)

abbrev pub write_wanted : VolumeView → List OpenEntry → List (List ℕ) → List ℕ → ℕ → ℕ → Result ℕ No
write_wanted view opens path name from len =
    and_then (resolve (read view) path) (λ found. write_in view opens name from len (found_file found))

-- `hwrite`: the same of the file of an open
abbrev pub hwrite_ranged : VolumeView → List ℕ → ℕ → ℕ → ℕ → Result ℕ No
hwrite_ranged view name from len file = if is_wide from len then Err no.TooBig else if_written view name from len file

abbrev pub hwrite_in : VolumeView → List ℕ → ℕ → ℕ → ℕ → Result ℕ No
hwrite_in view name from len file =
    and_then (plain_bytes (content_named (read view) name (node_of (read view) file))) (λ bytes. hwrite_ranged view name from len file)

abbrev pub hwrite_wanted : VolumeView → List OpenEntry → ℕ → ℕ → ℕ → ℕ → Result ℕ No
hwrite_wanted view opens session handle from len =
    option_map_or (λ (entry : OpenEntry). hwrite_in view entry.stream from len entry.file)
    (find (λ (entry : OpenEntry). is_handle session handle entry && contains entry.access to_write) opens) (Err no.NoHandle)

-- THE BYTES CAN BE WRITTEN so into the stream that was found.
abbrev pub IsWritable : VolumeView → Writable → List ℕ → ℕ → ℕ → Type 0
IsWritable view found name from len = IsFoundToEdit view found name (λ file. can_write view name from len found.way file)
