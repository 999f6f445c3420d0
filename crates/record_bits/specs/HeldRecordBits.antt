-- THE BITMAP OF RECORDS AS IT IS HELD, while a flag in it is set or cleared, and what is put then.
-- Layout: Linux-NTFS documentation, file $MFT, attribute $BITMAP; Carrier, File System Forensic Analysis, chapter 11.
use Rattle.std.specs.Prelude.{◌≡◌, ◌≢◌, ◌<◌, ◌∷◌, ℕ, Contains, [], Some, false, length}
use Rattle.std.specs.Int.{bit_at}
use Rattle.ntfs_def.specs.Attribute.{ExtentHeader}
use Rattle.ntfs_def.specs.Flags.{is_packed}
use Rattle.ntfs_def.specs.declared.kinds.TheConstants.{BITMAP}
use Rattle.ntfs_def.specs.declared.records.TheConstants.{MFT}
use Rattle.ntfs_def.specs.declared.run_text.Spot.{Spot}
use Rattle.volume_def.specs.BitmapClauses.{HasNoHole, HasRecordBits, record_bits}
use Rattle.volume_def.specs.Coverage.{IsApart}
use Rattle.volume_def.specs.Files.{content_extent}
use Rattle.volume_def.specs.Readable.{IsFile, IsReadableVolume}
use Rattle.volume_def.specs.Table.{cluster_bytes}
use Rattle.volume_def.specs.Values.{spot_at, stored_byte}
use Rattle.volume_def.specs.View.{VolumeView}
use Rattle.volume_edits.specs.Clusters.{WritesStream, stream_sectors}
use Rattle.volume_edits.specs.Owners.{HasOwners}
use Rattle.mft_table.specs.declared.mounted.Mounted.{Mounted}
use Rattle.sparse_io.specs.FileParts.{FileParts}
use Rattle.sparse_io.specs.FileRecordHeld.{AreParts, file_number}
use Rattle.sparse_io.specs.FirstPart.{FirstPart}
use Rattle.sparse_io.specs.First.{TellsSizes}

-- THE BITMAP OF RECORDS CAN BE FOUND, and a flag of it set or cleared, also between two calls, where the volume is not sound: the files of
-- the volume can be read, no cluster has two owners, and record 0, one of those that are kept in memory, has that bitmap, in clusters.
pub record HasRows (view : VolumeView) (mounted : Mounted) : Type 0 where
  pub readable : IsReadableVolume view
  pub owners : HasOwners view
  pub is_file : IsFile view MFT
  pub bits : HasRecordBits view
  pub inside : MFT < length mounted.records

-- The file of the table is held as the volume has it, and the part that tells the sizes of its bitmap, which lies in clusters of its own
-- without a hole. The files of the volume can be read, and no cluster has two owners.
pub record HoldsRecordBits (view : VolumeView) (file : FileParts) (first : FirstPart) : Type 0 where
  pub readable : IsReadableVolume view
  pub is_file : IsFile view MFT
  pub owners : HasOwners view
  pub apart : IsApart view.layout
  pub parts : AreParts view file
  pub number : file_number file ≡ MFT
  pub tells : TellsSizes file BITMAP [] first
  pub plain : is_packed tells.part.kind tells.part.flags ≡ false
  pub extent : ExtentHeader
  pub told : content_extent tells.part.content ≡ Some extent
  pub no_hole : HasNoHole (record_bits view)

-- ONE BIT of the byte `at` of a stream that lies so IS `value` NOW, and the other bits of that byte stay.
pub record PutsBit (old new : VolumeView) (spot : ℕ → Spot) (at bit value : ℕ) : Type 0 where
  pub byte : ℕ
  pub writes : WritesStream old new spot at (byte ∷ [])
  pub here : bit_at byte bit ≡ value
  pub others : (i : ℕ) → i < 8 → i ≢ bit → bit_at byte i ≡ bit_at (stored_byte old.cluster (cluster_bytes old.layout) spot at) i

-- the sector is one of the stream of the bitmap of records
abbrev pub IsOfRecordBits : VolumeView → ℕ → Type 0
IsOfRecordBits view sector = (at : ℕ) × (len : ℕ) × Contains (stream_sectors view.layout (spot_at (record_bits view)) at len) sector
