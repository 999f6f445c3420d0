-- THE BITMAP OF RECORDS, as it is loaded: on a sound volume it can be found.
use Rattle.std.proofs.Common.{◌≡◌, ◌<◌, ℕ, length, false, [], Option, Some, None, refl, sym, ap, subst, ◌∙◌, arith}
use Rattle.std.specs.Prelude.{IsSome, IsSomeAnd}
use Rattle.std.proofs.lemmas.List.Elements.{All-contains}
use Rattle.ntfs_def.specs.Attribute.{ExtentHeader}
use Rattle.ntfs_def.specs.Flags.{is_packed}
use Rattle.ntfs_def.specs.declared.kinds.TheConstants.{BITMAP}
use Rattle.ntfs_def.specs.declared.records.TheConstants.{FIRST_ORDINARY, MFT}
use Rattle.list_laws.proofs.BitLaws.{length-flags}
use Rattle.list_laws.proofs.FindLaws.{find-found}
use Rattle.list_laws.proofs.MemberLaws.{Contains-from_filter}
use Rattle.volume_def.specs.BitmapClauses.{HasRecordBits, record_bits, written_by}
use Rattle.volume_def.specs.Files.{Part, content_extent, is_of, parts, records_of}
use Rattle.volume_def.specs.Readable.{IsFile}
use Rattle.volume_def.specs.Sound.{IsSound, RecordBits, References}
use Rattle.volume_def.specs.Table.{LiesOn}
use Rattle.volume_def.specs.Values.{first_part, is_first, value_on}
use Rattle.volume_def.specs.View.{VolumeView}
use Rattle.volume_def.proofs.FileLaws.{file-counted, file-held}
use Rattle.volume_def.proofs.PartLaws.{HoldsPart-Contains}
use Rattle.volume_def.proofs.SoundLaws.{readable-sound}
use Rattle.volume_edits.specs.Owners.{HasOwners}
use Rattle.volume_edits.proofs.OwnerLaws.{layout-lies_apart}
use Rattle.mft_table.specs.declared.mounted.Mounted.{Mounted}
use Rattle.mft_table.specs.InUse.{IsSoundVolume}
use Rattle.sparse_io.specs.FileParts.{FileParts}
use Rattle.sparse_io.specs.FileRecordHeld.{AreParts, file_number}
use Rattle.sparse_io.specs.FirstPart.{FirstPart}
use Rattle.sparse_io.specs.First.{TellsSizes}
use Rattle.record_bits.specs.HeldRecordBits.{HasRows, HoldsRecordBits}
use Rattle.record_bits.proofs.RowsStream.{rows-held}

plain-there : (o : Option Part) → IsSomeAnd o (λ part. is_packed part.kind part.flags ≡ false)
    → (part : Part) × (o ≡ Some part) × (is_packed part.kind part.flags ≡ false)
plain-there None h = absurd h
plain-there (Some part) h = (part, refl, h)

extent-there : (o : Option ExtentHeader) → IsSome o → (extent : ExtentHeader) × (o ≡ Some extent)
extent-there None h = cc
extent-there (Some extent) h = (extent, refl)

pub rows-clause : (view : VolumeView) → IsSound view → HasRecordBits view
rows-clause view sound = (sound RecordBits FIRST_ORDINARY).bits refl

-- The file is there.
pub rows-file : (view : VolumeView) → IsSound view → IsFile view MFT
rows-file view sound =
    let its = plain-there (first_part (record_bits view)) (rows-clause view sound).plain in
    let among = Contains-from_filter (is_of BITMAP []) (parts (records_of view) MFT) its.0
    (find-found is_first (record_bits view) its.0 its.1).0 in
    let w = HoldsPart-Contains (records_of view) MFT its.0 among.0 in
    file-held view MFT w.0 w.1.record_there (sound References w.0) w.1.held w.1.file

-- so the table has a record of its number
pub rows-inside : (view : VolumeView) (mounted : Mounted) → IsSoundVolume view mounted → MFT < length mounted.records
rows-inside view mounted is =
    let long = ap length is.stored.records_are ∙ length-flags (value_on view (record_bits view)) view.layout.count in
    omega (arith, long, file-counted view MFT (rows-file view is.sound))

-- so it can be found
pub rows-sound : (view : VolumeView) (mounted : Mounted) → IsSoundVolume view mounted → HasOwners view → HasRows view mounted
rows-sound view mounted is owners = record {
  readable = readable-sound view is.sound;
  owners = owners;
  is_file = rows-file view is.sound;
  bits = rows-clause view is.sound;
  inside = rows-inside view mounted is;
}

-- its bitmap has a part that tells its sizes
pub rows-there : (view : VolumeView) → HasRecordBits view → first_part (record_bits view) ≡ None → ⊥
rows-there view bits none = subst (λ o. IsSomeAnd o (λ part. is_packed part.kind part.flags ≡ false)) none bits.plain

module _ (view : VolumeView) (mounted : Mounted) (sectors : ℕ) (file : FileParts) (first : FirstPart) (has : HasRows view mounted)
    (lies : LiesOn sectors view.layout) (are : AreParts view file) (number : file_number file ≡ MFT)
    (tells : TellsSizes file BITMAP [] first) where
  first-rows : first_part (record_bits view) ≡ Some tells.part
  first-rows = sym (ap first_part (rows-held view file are number)) ∙ tells.is_first

  plain : is_packed tells.part.kind tells.part.flags ≡ false
  plain = subst (λ (o : Option Part). IsSomeAnd o (λ part. is_packed part.kind part.flags ≡ false)) first-rows has.bits.plain

  extent : (extent : ExtentHeader) × (content_extent tells.part.content ≡ Some extent)
  extent =
      extent-there (content_extent tells.part.content)
      (All-contains (λ part. IsSome (content_extent part.content)) (record_bits view) tells.part has.bits.extents
      (find-found is_first (record_bits view) tells.part first-rows).0)

  pub holds-rows : HoldsRecordBits view file first
  holds-rows = record {
    readable = has.readable;
    is_file = has.is_file;
    owners = has.owners;
    apart = layout-lies_apart view has.owners lies.some lies.on_volume;
    parts = are;
    number = number;
    tells = tells;
    plain = plain;
    extent = extent.0;
    told = extent.1;
    no_hole = has.bits.placed;
  }

-- how far it was written, by the part that is found
pub written-found : (view : VolumeView) (file : FileParts) (first : FirstPart) → AreParts view file → file_number file ≡ MFT
    → TellsSizes file BITMAP [] first → written_by (first_part (record_bits view)) ≡ first.written
written-found view file first are number tells =
    ap written_by (sym (ap first_part (rows-held view file are number)) ∙ tells.is_first) ∙ sym tells.written
