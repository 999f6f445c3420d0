-- THE ROOM THAT IS ASKED FOR, of a command that changes one file, or makes one under a name in a directory: what the parts of that file
-- tell of its attribute list, the bill by that, and the refusals of this bill, one by one.
use Rattle.std.specs.Prelude.{◌≡◌, ◌≤◌, ◌+◌, ◌*◌, ◌^◌, nat_lt, ℕ, Bool, Option, None, Some, Result, Ok, Err, List, [], ◌∷◌, codes}
use Rattle.std.specs.Prelude.{if◌then◌else◌, length, sum_by, unwrap_or}
use Rattle.std.specs.Option.{option_or}
use Rattle.ntfs_def.specs.Rounded.{clusters_for}
use Rattle.ntfs_def.specs.declared.lengths.TheConstants.{RECORD}
use Rattle.ntfs_def.specs.declared.records.TheConstants.{MFT}
use Rattle.volume_def.specs.Files.{Part}
use Rattle.volume_def.specs.ListsClause.{listed_parts}
use Rattle.volume_def.specs.Room.{free_bytes, list_entry_len, unowned_clusters, unused_records}
use Rattle.volume_def.specs.View.{VolumeView}
use Rattle.tree_model.specs.Bill.{new_file}
use Rattle.tree_model.specs.Need.{Bill, Touched, index_clusters, list_clusters, parts_wanted, records_wanted}
use Rattle.tree_model.specs.NoRoom.{lacks_clusters, mft_free, mft_full, mft_need, need_on}
use Rattle.tree_model.specs.Refusals.{when}
use Rattle.tree_model.specs.declared.reply.No.{No}
use Rattle.tree_model.specs.declared.reply.No.TheVariants as no
use Rattle.edit_def.specs.OneFile.{one_file}
use Rattle.file_room.specs.declared.free.FreeRoom.{FreeRoom}
use Rattle.file_room.specs.declared.list.ListRoom.{ListRoom}
use Rattle.file_room.specs.declared.need.Wanted.{Wanted}

-- A refusal that may be due, as what is answered.
abbrev pub has_room : Option No → Result (Unit {0}) No
has_room None = Ok tt
has_room (Some refused) = Err refused

-- the bytes of a list that names these parts
abbrev pub list_len_by : List Part → ℕ
list_len_by all = sum_by list_entry_len (listed_parts all)

-- a file as the bill has it, by what its list would take
abbrev pub touched_by : ℕ → ListRoom → Touched
touched_by f room = record { file = Some f; list_len = room.len; name_units = room.name_units }

abbrev pub bill_by : ℕ → ListRoom → ℕ → Bill
bill_by f room clusters = one_file clusters (touched_by f room)

-- a new file, or a new directory, which has the index of its names
abbrev pub new_touched : Bool → Touched
new_touched directory = new_file (if directory then length (codes "$I30") else 0)

-- the same of a command that makes a file, or a directory, whose directory this is, with an index so deep
abbrev pub bill_making : Bool → Touched → ℕ → Bill
bill_making directory touched depth = record {
  new_files = 1;
  clusters = 0;
  touched = touched ∷ new_touched directory ∷ [];
  counted = record { file = unwrap_or touched.file 0; depth = depth; entries = 1 } ∷ [];
}

abbrev pub made_by : Bool → ℕ → ListRoom → ℕ → Bill
made_by directory f room depth = bill_making directory (touched_by f room) depth

-- WHAT THE SUMS GO BY: how many records and parts a bill has, and clusters beside those of lists and of the table.
pub record IsWanted (size : ℕ) (bill : Bill) (wanted : Wanted) : Type 0 where
  pub records : wanted.records ≡ records_wanted bill
  pub parts : wanted.parts ≡ parts_wanted bill
  pub clusters : wanted.clusters ≡ bill.clusters + index_clusters size bill

-- they are not too many for the sums
pub record HasFew (wanted : Wanted) : Type 0 where
  pub records : wanted.records ≤ 2 ^ 42
  pub parts : wanted.parts ≤ 2 ^ 42
  pub clusters : wanted.clusters ≤ 2 ^ 42

-- what a list would take is that of the touched file
pub record IsListed (room : ListRoom) (touched : Touched) : Type 0 where
  pub len : touched.list_len ≡ room.len
  pub units : touched.name_units ≡ room.name_units

-- the clusters that the lists of all touched files may fill
abbrev pub lists_of : ℕ → Bill → ℕ
lists_of size bill = sum_by (list_clusters size bill) bill.touched

-- What is counted as free is free on the volume.
pub record IsFreeOn (view : VolumeView) (free : FreeRoom) : Type 0 where
  pub clusters : free.clusters ≡ unowned_clusters view
  pub records : free.records ≡ unused_records view

-- the bytes of record 0 that the runs of so many clusters more may take, of so many bytes each
abbrev pub free_for_runs : VolumeView → ℕ → ℕ → ℕ
free_for_runs view size growth =
    if nat_lt (2 ^ 22) (view.layout.count + clusters_for (growth * size) RECORD) then 0 else free_bytes view MFT

-- the refusal of a bill where too few records are free
abbrev pub lacks_records : VolumeView → Bill → Option No
lacks_records view bill = when (mft_full view bill) (no.MftFull (mft_need view bill) (mft_free view bill))

-- .. where too few clusters are, and where either is so
abbrev pub short_of_clusters : VolumeView → Bill → Option No
short_of_clusters view bill = when (lacks_clusters view bill) (no.NoRoom (need_on view bill) (unowned_clusters view))

abbrev pub lacks_free : VolumeView → Bill → Option No
lacks_free view bill = option_or (lacks_records view bill) (option_or (short_of_clusters view bill) None)
