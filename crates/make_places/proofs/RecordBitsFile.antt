-- THE FILE OF THE RECORD BITS, which is that of the table of records, is there on a sound volume.
use Rattle.std.proofs.Common.{◌≡◌, false, [], Option, Some, None, refl}
use Rattle.std.specs.Prelude.{IsSomeAnd}
use Rattle.ntfs_def.specs.Flags.{is_packed}
use Rattle.ntfs_def.specs.declared.kinds.TheConstants.{BITMAP}
use Rattle.ntfs_def.specs.declared.records.TheConstants.{FIRST_ORDINARY, MFT}
use Rattle.list_laws.proofs.FindLaws.{find-found}
use Rattle.list_laws.proofs.MemberLaws.{Contains-from_filter}
use Rattle.volume_def.specs.BitmapClauses.{record_bits}
use Rattle.volume_def.specs.Files.{Part, is_of, parts, records_of}
use Rattle.volume_def.specs.Readable.{IsFile}
use Rattle.volume_def.specs.Sound.{IsSound, RecordBits, References}
use Rattle.volume_def.specs.Values.{first_part, is_first}
use Rattle.volume_def.specs.View.{VolumeView}
use Rattle.volume_def.proofs.FileLaws.{file-held}
use Rattle.volume_def.proofs.PartLaws.{HoldsPart-Contains}

plain-there : (o : Option Part) → IsSomeAnd o (λ part. is_packed part.kind part.flags ≡ false) → (part : Part) × (o ≡ Some part)
plain-there None h = absurd h
plain-there (Some part) h = (part, refl)

pub record_bits-file : (view : VolumeView) → IsSound view → IsFile view MFT
record_bits-file view sound =
    let its = plain-there (first_part (record_bits view)) ((sound RecordBits FIRST_ORDINARY).bits refl).plain in
    let among = Contains-from_filter (is_of BITMAP []) (parts (records_of view) MFT) its.0
    (find-found is_first (record_bits view) its.0 its.1).0 in
    let w = HoldsPart-Contains (records_of view) MFT its.0 among.0 in
    file-held view MFT w.0 w.1.record_there (sound References w.0) w.1.held w.1.file
