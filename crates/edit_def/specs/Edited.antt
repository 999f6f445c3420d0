-- WHAT EVERY EDITING CALL PROMISES, in one record, but for the attributes that it names.
use Rattle.std.specs.Prelude.{◌≡◌, ℕ, ◌<◌, ◌≤◌, ◌==◌, ◌&&◌, ◌||◌, nat_le, Bool, true, false, length, Option, Some, None}
use Rattle.ntfs_def.specs.declared.kinds.TheConstants.{ATTRIBUTE_LIST, BITMAP, DATA}
use Rattle.ntfs_def.specs.declared.records.TheConstants.{CLUSTER_BITMAP, FIRST_ORDINARY, MFT, MFT_MIRROR}
use Rattle.volume_def.specs.Files.{Record, record_on, records_of}
use Rattle.volume_def.specs.Sound.{Clause, ClusterBits, Holds, Limits, RecordBits}
use Rattle.volume_def.specs.Sound as clauses
use Rattle.volume_def.specs.Table.{TableLayout}
use Rattle.volume_def.specs.View.{VolumeView}
use Rattle.edit_def.specs.Account.{Keeps, Wants}
use Rattle.edit_def.specs.Forms.{KeepsForms}
use Rattle.edit_def.specs.Kept.{KeepsBut, Key, either}
use Rattle.edit_def.specs.Marks.{IsEditable, Marks}
use Rattle.edit_def.specs.Names.{HasRightBases}
use Rattle.edit_def.specs.Places.{StaysInPlace}
use Rattle.edit_def.specs.Purses.{room_of}

-- The attributes in which room is kept, and records: every call may change them. The table of records and its bitmap, the mirror and the
-- cluster bitmap, and every attribute list.
abbrev pub is_room_file : ℕ → Bool
is_room_file f = (f == MFT) || (f == MFT_MIRROR) || (f == CLUSTER_BITMAP)

abbrev pub is_list_key : Key → Bool
is_list_key key = key.kind == ATTRIBUTE_LIST

abbrev pub is_room_key : Key → Bool
is_room_key key =
    is_list_key key
    || ((key.kind == BITMAP) && ((length key.name == 0) && (key.file == MFT)))
    || ((key.kind == DATA) && ((length key.name == 0) && is_room_file key.file))

-- of these the table and its mirror, in whose clusters each record lies that is written
abbrev pub is_table_key : Key → Bool
is_table_key key = (key.kind == DATA) && ((length key.name == 0) && ((key.file == MFT) || (key.file == MFT_MIRROR)))

-- The volume stays where it is, and its table loses no record.
pub record SameVolume (old new : TableLayout) : Type 0 where
  pub cluster_sectors : new.cluster_sectors ≡ old.cluster_sectors
  pub clusters : new.clusters ≡ old.clusters
  pub mirror : new.mirror ≡ old.mirror
  pub count : old.count ≤ new.count

-- in use, without an attribute
abbrev pub is_bare : Option Record → Bool
is_bare None = false
is_bare (Some r) = nat_le (length r.parts) 0

-- A CALL that names the attributes `changed`, with the bill `wants`. `was` and `now` are the bits in memory. What it does to names and to
-- numbers of files is told beside, by each call.
pub record Edited (changed : Key → Bool) (wants : Wants) (old new : VolumeView) (was now : Marks) : Type 0 where
  -- the volume, and the sectors that belong to no cluster
  pub told : new.told ≡ old.told
  pub volume : SameVolume old.layout new.layout
  pub rest : (k : ℕ) → new.rest k ≡ old.rest k
  -- what is kept: all attributes but the named ones and those of room; headers of all but the named ones and lists; and places of room
  pub kept : KeepsBut (either is_room_key changed) old new
  pub forms : (f : ℕ) → KeepsForms (either is_list_key changed) old new f
  pub places : StaysInPlace old new
  -- what is taken: no more than the bill has
  pub spent : Keeps (room_of old) (room_of new) wants
  -- what holds between calls: the clauses on records and clusters but for the stored bitmaps, those on sizes, and of extension records
  pub editable : IsEditable new now
  pub limits : Holds new Limits
  pub bases : HasRightBases (records_of new)
  -- records: no system record comes into use, and none is left without an attribute
  pub system : (n : ℕ) → n < FIRST_ORDINARY → record_on old n ≡ None → record_on new n ≡ None
  pub held : (n : ℕ) → is_bare (record_on new n) ≡ true → is_bare (record_on old n) ≡ true

-- The stored bitmaps are right too: after each call that ends with the flush.
pub record StoresBits (view : VolumeView) : Type 0 where
  pub clusters : Holds view ClusterBits
  pub records : Holds view RecordBits

-- the clauses that calls on records and clusters keep: S3 to S9, S14, and S15, since they set sizes
abbrev pub is_low : Clause → Bool
is_low clauses.References = false
is_low clauses.Links = false
is_low clauses.CaseTable = false
is_low clauses.Indexes = false
is_low other = true
