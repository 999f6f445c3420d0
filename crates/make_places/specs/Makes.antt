-- WHERE A FILE CAN BE MADE, or a directory, as a path leads to it, and the refusals of `create` and `mkdir` in their order.
use Rattle.std.specs.Prelude.{◌≡◌, ◌||◌, ℕ, not, true, Bool, List, Option, None, Result, Ok, Err, if◌then◌else◌}
use Rattle.ntfs_def.specs.StandardInformation.{standard_security, standard_times}
use Rattle.volume_def.specs.View.{VolumeView}
use Rattle.tree_model.specs.Facts.{is_whole_table}
use Rattle.tree_model.specs.IndexRoom.{directory_index, index_depth}
use Rattle.tree_model.specs.NoRoom.{no_room_for}
use Rattle.tree_model.specs.Paths.{Place, and_then}
use Rattle.tree_model.specs.Reading.{read, standard_flags, standard_of}
use Rattle.tree_model.specs.Staging.{cannot_edit}
use Rattle.tree_model.specs.Subjects.{Located, Machine, NameIn, nothing}
use Rattle.tree_model.specs.declared.opens.OpenEntry.{OpenEntry}
use Rattle.tree_model.specs.Ways.{can_come, has_record}
use Rattle.tree_model.specs.declared.reply.No.{No}
use Rattle.tree_model.specs.declared.reply.No.TheVariants as no
use Rattle.mft_table.specs.declared.mounted.Mounted.{Mounted}
use Rattle.mft_table.specs.FreeRecords.{IsLeastFree, IsOrdinaryFree}
use Rattle.tree_edit.specs.Nodes.{parts_in}
use Rattle.tree_edit.specs.Standings.{IsStanding, number_within}
use Rattle.name_places.specs.Places.{place_wanted}
use Rattle.name_places.specs.declared.place.NewPlace.{NewPlace}
use Rattle.tree_edit.specs.Made.{made_bill}
use Rattle.file_makes.specs.Comes.{CanMake}
use Rattle.file_makes.specs.Under.{HasNameRoom, HasRecordRoom}
use Rattle.tree_edit.specs.Alone.{if_room}
use Rattle.tree_edit.specs.Settable.{IsSettable}

-- A new name cannot come there: the words of `create` and `mkdir` lead to no file, and so to file 0.
abbrev pub cannot_make : VolumeView → ℕ → List ℕ → Bool
cannot_make view dir units = cannot_edit (is_whole_table view) (read view) 0 || not (can_come view (read view) (NameIn dir units))

-- the refusal for room, of the bill of a file, or of a directory, under a name in this directory
abbrev pub room_to_make : VolumeView → Bool → ℕ → Option No
room_to_make view directory dir = no_room_for view (made_bill view directory dir (index_depth view (directory_index dir)))

-- THE NUMBER OF THE DIRECTORY in which the name is new, if it can come there: before room is asked for, and then
abbrev pub if_can_make : VolumeView → Place → Result ℕ No
if_can_make view place = if cannot_make view place.directory place.name then Err no.Unbuilt else Ok place.directory

abbrev pub make_decided : VolumeView → List (List ℕ) → Result ℕ No
make_decided view path = and_then (place_wanted (read view) path) (if_can_make view)

abbrev pub make_wanted : VolumeView → Bool → List (List ℕ) → Result ℕ No
make_wanted view directory path =
    and_then (place_wanted (read view) path)
    (λ place. if cannot_make view place.directory place.name then Err no.Unbuilt
    else if_room (room_to_make view directory place.directory) place.directory)

-- a record is free, of those that ordinary files may have
abbrev pub HasFreeRecord : Mounted → Type 0
HasFreeRecord mounted = (n : ℕ) × IsOrdinaryFree mounted.records n

-- A RECORD FOR THE FILE: one is free, and the least that is has a flag that can be stored, and was written.
pub record HasRecord (view : VolumeView) (mounted : Mounted) : Type 0 where
  pub free : HasFreeRecord mounted
  pub room : (n : ℕ) → IsLeastFree mounted.records n → HasRecordRoom view n

-- THE DIRECTORY AND THE NAME: the directory is shown and can be edited, none of its names stands in a record that has a copy, it tells
-- these times, flags and security id; the name is new in it, and its index has room for the name, in a record or in a root without records.
-- A record can be taken.
pub record IsMakeable (view : VolumeView) (found : NewPlace) : Type 0 where
  pub standing : IsStanding view found.standing
  pub settable : IsSettable view (record {
    number = number_within found.standing;
    times = standard_times (standard_of (parts_in found.standing.directory));
  })
  pub flags : settable.can.node.flags ≡ standard_flags (standard_of (parts_in found.standing.directory))
  pub security : settable.can.node.security ≡ standard_security (standard_of (parts_in found.standing.directory))
  pub make : CanMake view (number_within found.standing) settable.can.node found.name.now
  pub room : HasNameRoom view (number_within found.standing) found.name.now
  pub record_ : has_record view ≡ true

-- THE FILE, or the directory, CAN BE MADE there, with these bits in memory: room was asked for too.
pub record IsToMake (directory : Bool) (view : VolumeView) (mounted : Mounted) (found : NewPlace) : Type 0 where
  pub makeable : IsMakeable view found
  pub record_ : HasRecord view mounted
  pub asked : room_to_make view directory (number_within found.standing) ≡ None

-- THE MACHINE on this volume's reading, and what the words of either command lead to there.
abbrev pub machine_at : VolumeView → List OpenEntry → ℕ → Machine
machine_at view opens now = record { tree = read view; opens = opens; now = now }

abbrev pub at_place : Place → Located
at_place place = record nothing { new = NameIn place.directory place.name }
