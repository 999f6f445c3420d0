-- What a call that sets the times and the DOS flags of a file does to its $STANDARD_INFORMATION.
use Rattle.std.specs.Prelude.{◌≡◌, ◌+◌, ◌*◌, ◌<◌, ◌≤◌, ℕ, true, All, List, [], bit_and, bit_or, length, Contains, IfSome, IsSomeAnd, IsTrue}
use Rattle.std.specs.List.{flat_map}
use Rattle.vol_disk.specs.declared.Disk.{Ghosts}
use Rattle.vol_stage.specs.Staged.{StagesOnly, image, places}
use Rattle.ntfs_def.specs.StandardInformation.{dos_flags, standard_times}
use Rattle.ntfs_def.specs.declared.kinds.TheConstants.{STANDARD_INFORMATION}
use Rattle.volume_def.specs.Files.{Part, content_value, is_of, parts, records_of}
use Rattle.volume_def.specs.View.{VolumeView}
use Rattle.index_store.specs.MftType.{Mft}
use Rattle.index_store.specs.Mft.{stage_of, view}
use Rattle.index_store.specs.Staging.{record_places}
use Rattle.index_store.specs.Records.{IsRecordOf}
use Rattle.index_store.specs.FileRecordWritten.{WritesBytes}

-- the DOS flags that are not shown
abbrev pub hidden_flags : ℕ
hidden_flags = 0xFFFFCED8

-- The front of a value tells these times, and these flags beside those of the value that are not shown.
pub record TellsNode (value times : List ℕ) (flags : ℕ) (front : List ℕ) : Type 0 where
  pub len : length front ≡ 0x24
  pub times_are : standard_times front ≡ times
  pub flags_are : dos_flags front ≡ bit_or (bit_and (dos_flags value) hidden_flags) flags

-- of a part that is a value, which is long enough for that ..
abbrev pub TellsNodeAt : List ℕ → ℕ → List ℕ → Part → Type 0
TellsNodeAt times flags front part = IsSomeAnd (content_value part.content) (λ value.
    (0x24 ≤ length value) × TellsNode value times flags front)

-- .. and of one that is not
abbrev pub IsTooShort : Part → Type 0
IsTooShort part = IfSome (content_value part.content) (λ value. length value < 0x24)

-- each record of the file lies whole in what was written of the table
abbrev pub IsInitialized : VolumeView → ℕ → Type 0
IsInitialized view f = (n : ℕ) → IsRecordOf view f n → 1024 * n + 1024 ≤ view.layout.initialized

-- THE FILE HAS THESE TIMES AND FLAGS: they were written into the front of its $STANDARD_INFORMATION, and nothing else of the volume
-- changed.
pub record SetsStandard (old new : VolumeView) (f : ℕ) (times : List ℕ) (flags : ℕ) : Type 0 where
  pub part : Part
  pub among : Contains (parts (records_of old) f) part
  pub standard : is_of STANDARD_INFORMATION [] part ≡ true
  pub front : List ℕ
  pub tells : TellsNodeAt times flags front part
  pub writes : WritesBytes old new part 0 front

-- Sectors of one record of the file at most are staged, with those of its copy, and no others.
pub record StagesRecordOf {D : Type 0} (g : Ghosts D) (f : ℕ) (old new : Mft D g) : Type 0 where
  pub holders : List ℕ
  pub few : length holders ≤ 1
  pub own : IsTrue (view g old).told → All (IsRecordOf (view g old) f) holders
  pub places : StagesOnly g (flat_map (record_places (view g old).layout) holders) (stage_of g old) (stage_of g new)

-- Nothing more is staged, and what is staged is as it was.
pub record StagesNothing {D : Type 0} (g : Ghosts D) (old new : Mft D g) : Type 0 where
  pub image : image g (stage_of g new) ≡ image g (stage_of g old)
  pub places : places g (stage_of g new) ≡ places g (stage_of g old)
