-- BYTES WRITTEN IN PLACE: in the clusters of attributes, and no record.
use Rattle.std.specs.Prelude.{◌≡◌, ◌≢◌, ℕ, ◌<◌, ◌≤◌, ◌==◌, ◌&&◌, ◌||◌, Bool, true, false, List, length}
use Rattle.ntfs_def.specs.declared.kinds.TheConstants.{BITMAP, DATA}
use Rattle.ntfs_def.specs.declared.records.TheConstants.{CLUSTER_BITMAP, MFT}
use Rattle.ntfs_def.specs.declared.run_text.Spot.TheVariants.{At}
use Rattle.volume_def.specs.Files.{parts_at, records_of}
use Rattle.volume_def.specs.OwnersClause.{times_owned}
use Rattle.volume_def.specs.Values.{spot_at}
use Rattle.volume_def.specs.View.{VolumeView}
use Rattle.edit_def.specs.Edited.{is_list_key, is_room_key}
use Rattle.edit_def.specs.Kept.{Key, key_of}

-- the cluster is none of a named attribute
abbrev pub IsUnnamed : (Key → Bool) → VolumeView → ℕ → Type 0
IsUnnamed changed view c = (f kind : ℕ) (name : List ℕ) → changed (key_of f kind name) ≡ true → (vcn : ℕ)
    → spot_at (parts_at view f kind name) vcn ≢ At c

-- No block was written, nor a sector that belongs to no cluster; and of the clusters that have an owner none that no named attribute has.
pub record WritesInPlace (changed : Key → Bool) (old new : VolumeView) : Type 0 where
  pub told : new.told ≡ old.told
  pub layout : new.layout ≡ old.layout
  pub blocks : (n : ℕ) → new.block n ≡ old.block n
  pub copies : (m : ℕ) → m < 4 → new.copy m ≡ old.copy m
  pub rest : (k : ℕ) → new.rest k ≡ old.rest k
  pub clusters : (c : ℕ) → 1 ≤ times_owned (records_of old) c → IsUnnamed changed old c → new.cluster c ≡ old.cluster c

-- no attribute in which room is kept, nor an attribute list
abbrev pub NamesNoRoom : (Key → Bool) → Type 0
NamesNoRoom changed = (key : Key) → is_room_key key ≡ true → changed key ≡ false

-- .. but for the list of one file
abbrev pub NamesListOf : ℕ → (Key → Bool) → Type 0
NamesListOf f changed = (key : Key) → is_room_key key ≡ true → (is_list_key key ≡ true → key.file ≢ f) → changed key ≡ false

-- the two bitmaps
abbrev pub is_bits_key : Key → Bool
is_bits_key key =
    ((key.kind == BITMAP) && ((length key.name == 0) && (key.file == MFT)))
    || ((key.kind == DATA) && ((length key.name == 0) && (key.file == CLUSTER_BITMAP)))
