-- AN EDIT IN PLACE: bytes of a stream that went over bytes, a range of a value that was made zero, and times, flags and the security id of
-- a file that were set. What the calls of such a command give, and the first mark behind them.
use Rattle.std.specs.Prelude.{◌≡◌, ℕ, ◌+◌, ◌*◌, ◌/◌, ◌<◌, ◌≤◌, ◌==◌, ◌&&◌, ◌||◌, Bool, false, true, List, [], ◌∷◌}
use Rattle.std.specs.Prelude.{Some, codes, filter, length, take, unwrap_or}
use Rattle.std.specs.Str.{bytes_eq}
use Rattle.ntfs_def.specs.Node.{Item}
use Rattle.ntfs_def.specs.Units.{wide}
use Rattle.ntfs_def.specs.declared.kinds.TheConstants.{INDEX_ALLOCATION, INDEX_ROOT, STANDARD_INFORMATION}
use Rattle.volume_def.specs.Files.{Part, content_value, parts_at, records_of}
use Rattle.volume_def.specs.Readable.{IsDirectory}
use Rattle.volume_def.specs.Sound.{IsSound}
use Rattle.volume_def.specs.Values.{first_part, spot_at}
use Rattle.volume_def.specs.View.{VolumeView}
use Rattle.tree_model.specs.Hidden.{is_hidden}
use Rattle.tree_model.specs.IndexRoom.{directory_index, index_depth}
use Rattle.tree_model.specs.Reading.{read}
use Rattle.tree_model.specs.Ways.{is_done_in_place}
use Rattle.tree_model.specs.StreamRoom.{is_cluster}
use Rattle.tree_model.specs.Subjects.{Located, NoName}
use Rattle.tree_model.specs.Tree.{Tree, leads_to}
use Rattle.tree_model.specs.declared.command.Command.{Command}
use Rattle.tree_model.specs.declared.command.Command.TheVariants as c
use Rattle.edit_def.specs.Items.{HasItems}
use Rattle.edit_def.specs.Kept.{Key}
use Rattle.edit_def.specs.OneFile.{IsTabled}
use Rattle.session_def.specs.Cost.{bytes_in}
use Rattle.session_def.specs.Done.{first_cost, stream_in}
use Rattle.session_def.specs.Indexes.{KeepsRests}
use Rattle.session_def.specs.Kept.{KeepsEntries, KeepsStandard}
use Rattle.session_def.specs.Named.{every_link, has_entry_of, is_own_key, is_times_key}
use Rattle.session_def.specs.Nodes.{edits_stream}
use Rattle.session_def.specs.State.{State}
use Rattle.in_place.specs.Behind.{MarksBehind}
use Rattle.in_place.specs.InPlace.{Rewrites}
use Rattle.in_place.specs.Unnamed.{KeepsMarks, LiesApart, NamesNoneOf}

-- THE COMMANDS that are done so: they take no room, and change nothing but bytes of values, which stay as long.
abbrev pub edits_in_place : Command → Bool
edits_in_place (c.Setattr path flags) = true
edits_in_place (c.Write path stream from bytes) = true
edits_in_place (c.Hwrite handle from bytes) = true
edits_in_place (c.Punch path stream from len) = true
edits_in_place (c.Setsec path id) = true
edits_in_place other = false

-- those that make zeros of a range of their stream
abbrev pub punches_stream : Command → Bool
punches_stream (c.Punch path stream from len) = true
punches_stream other = false

-- THE ATTRIBUTES that it rewrites: the stream that it writes, $STANDARD_INFORMATION of the file, and the nodes of the index of each
-- directory in which the file has a name.
abbrev pub is_node_kind : ℕ → Bool
is_node_kind kind = (kind == INDEX_ROOT) || (kind == INDEX_ALLOCATION)

abbrev pub is_entries_key : Tree → List ℕ → Key → Bool
is_entries_key tree files key = is_node_kind key.kind && (bytes_eq key.name (wide (codes "$I30")) && has_entry_of tree files key.file)

abbrev pub is_set_key : Tree → Command → Located → Key → Bool
is_set_key tree command at key =
    is_own_key tree command at 0 key || (is_times_key (at.file ∷ []) key || is_entries_key tree (at.file ∷ []) key)

-- The index of a directory, where it is there before and after, keeps the first 16 bytes of its root, and gets no deeper.
pub record SameRoot (old new : VolumeView) (dir : ℕ) (was now : Part) : Type 0 where
  pub head : take 16 (unwrap_or (content_value now.content) []) ≡ take 16 (unwrap_or (content_value was.content) [])
  pub depth : index_depth new (directory_index dir) ≤ index_depth old (directory_index dir)

abbrev pub KeepsRoot : VolumeView → VolumeView → ℕ → Type 0
KeepsRoot old new dir = (was now : Part) → first_part (parts_at old dir INDEX_ROOT (wide (codes "$I30"))) ≡ Some was
    → first_part (parts_at new dir INDEX_ROOT (wide (codes "$I30"))) ≡ Some now → SameRoot old new dir was now

-- how many names the file has, hidden ones too
abbrev pub links_of : Tree → ℕ → ℕ
links_of tree f = length (filter (leads_to f) (every_link tree))

-- THE VOLUME BEFORE, whatever image it is of: its clusters lie apart, its table holds its records, and it is sound and reads as the
-- machine's tree.
pub record StandsAlone (before : State) : Type 0 where
  pub apart : LiesApart before.view
  pub tabled : IsTabled before.view
  pub sound : IsSound before.view
  pub reading : read before.view ≡ before.machine.tree

-- THE COMMAND WAS DONE IN PLACE: the bytes of its stream were written, or the security id of its file, and the times and flags of that file
-- set, and told anew in the entries of the file's names.
pub record SetsInPlace (before next : State) (command : Command) (at : Located) (staged : VolumeView) : Type 0 where
  -- the volume before; the command is one of these, its words name nothing new, the file of a stream is shown, and on this volume it is
  -- done so: bytes go over bytes, what is punched is a value, which lies in no cluster, and the id has a place
  pub stands : StandsAlone before
  pub edits : edits_in_place command ≡ true
  pub new : at.new ≡ NoName
  pub shown : edits_stream command ≡ true → is_hidden (records_of before.view) at.file ≡ false
  pub in_place : is_done_in_place before.view before.machine.tree command at ≡ true
  pub nowhere : punches_stream command ≡ true → (vcn : ℕ)
      → is_cluster (spot_at (stream_in before.view before.machine.tree at) vcn) ≡ false
  -- the calls: what they rewrote, and that the volume is sound behind them; none of it belongs to a record that has a copy
  pub rewrites : Rewrites (is_set_key before.machine.tree command at) before.view staged
  pub sound : IsSound staged
  pub firsts : (n : ℕ) → n < 4 → NamesNoneOf (is_set_key before.machine.tree command at) n
  -- $STANDARD_INFORMATION tells what it told but for what is shown, and whether the file has a sparse stream or a point
  pub standard : KeepsStandard false (parts_at before.view at.file STANDARD_INFORMATION [])
      (parts_at staged at.file STANDARD_INFORMATION [])
  pub marks : KeepsMarks before.view staged at.file
  -- the indexes of the directories in which the file has a name
  pub roots : (dir : ℕ) → has_entry_of before.machine.tree (at.file ∷ []) dir ≡ true → KeepsRoot before.view staged dir
  -- entries of all directories: each of the file tells what the file does, and what the tree does not show stays
  pub entries : (dir : ℕ) (was now : List Item) → IsDirectory before.view dir → HasItems before.view dir was → HasItems staged dir now
      → KeepsEntries staged before.machine.tree next.machine.tree (at.file ∷ []) [] was now
  pub rests : (dir : ℕ) (was now : List Item) → IsDirectory before.view dir → HasItems before.view dir was → HasItems staged dir now
      → KeepsRests staged (at.file ∷ []) [] was now
  -- the first mark, and the volume that is settled
  pub first : MarksBehind staged next.view
  pub settled : IsSound next.view
  -- the disk is as long, and few sectors were written: those of the mark, that the bytes touch, of records with their copies, and a node's
  -- of each name
  pub long : length next.image ≡ length before.image
  pub wrote : next.written ≤ before.written + first_cost before.view + 24 + 12 * links_of before.machine.tree at.file
      + bytes_in command / 512
