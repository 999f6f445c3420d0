-- BYTES WENT OVER THOSE OF A VALUE, and then the attributes of its file are set: over what the calls leave of the table in use.
use Rattle.std.proofs.Common.{◌≡◌, ◌+◌, ◌*◌, ℕ, List, length, sym, subst, inl, inr, ◌∙◌, arith}
use Rattle.std.specs.Prelude.{◌⊎◌, IsTrue, Some, slice_get}
use Rattle.vol_disk.specs.declared.Disk.{Ghosts}
use Rattle.ntfs_def.specs.FileName.{FileName}
use Rattle.volume_def.specs.Coverage.{IsApart}
use Rattle.volume_def.specs.FileNames.{names_of}
use Rattle.volume_def.specs.Files.{Part, parts, records_of}
use Rattle.volume_def.specs.Readable.{IsFile, WhereReadable}
use Rattle.volume_def.proofs.SoundLaws.{readable-sound}
use Rattle.mft_table.specs.declared.mft.Mft.{Mft}
use Rattle.mft_table.specs.InUse.{IsInUse, IsSoundVolume}
use Rattle.mft_table.specs.Mft.{KeepsDisk, mounted_of, view}
use Rattle.file_record.specs.Written.{HoldsBytes, WritesBytes}
use Rattle.stream_overwrites.proofs.Below.{names-same}
use Rattle.dir_index.specs.Standard.{IsInitialized, StagesRecordOf}
use Rattle.attribute_edits.specs.Below.{SetsAttributes}
use Rattle.attribute_edits.proofs.AttributesSet.{node-file}
use Rattle.file_changes.specs.Links.{CanWriteFile}
use Rattle.file_changes.specs.Staged.{IsOfFile, IsOfNames, StagesAttributes}
use Rattle.file_changes.specs.Values.{CanPut, IsOfValue, LeavesFile, PutsBytes, StagesValue}
use Rattle.file_changes.proofs.LinkLaws.{initialized}
use Rattle.file_changes.proofs.StagedLaws.{directory-back, few-standard, few-then, file-back}
use Rattle.file_changes.proofs.StepLaws.{write-still}
use Rattle.file_changes.proofs.StoredLaws.{stored-still}

module _ {D : Type 0} (g : Ghosts D) (f i at : ℕ) (bytes : List ℕ) (a m : Mft D g) (volume : IsInUse g a) (disk : KeepsDisk g a m)
    (can : IsTrue (view g a).told → CanPut (view g a) f i at bytes)
    (written : WhereReadable (view g a) (IsFile (view g a) f → IsApart (view g a).layout → IsInitialized (view g a) f
    → (part : Part) → slice_get (parts (records_of (view g a)) f) i ≡ Some part → HoldsBytes at (length bytes) part
    → WritesBytes (view g a) (view g m) part at bytes)) where
  told-m : IsTrue (view g a).told → IsTrue (view g m).told
  told-m t = disk.goes_on.told_image ∙ t

  told-a : IsTrue (view g m).told → IsTrue (view g a).told
  told-a t = sym disk.goes_on.told_image ∙ t

  writes : IsTrue (view g a).told → (c : CanPut (view g a) f i at bytes) → WritesBytes (view g a) (view g m) c.part at bytes
  writes t c =
      written t (readable-sound (view g a) c.can.can.sound) (node-file (view g a) f c.can.node c.can.can.there) c.can.write.apart
      (initialized (view g a) f c.can.write) c.part c.there c.holds

  leaves : IsTrue (view g a).told → LeavesFile (view g a) (view g m) f
  leaves t = let c = can t in c.leaves (view g m) (writes t c)

  pub in-use : IsInUse g m
  in-use t =
      let before = told-a t in
      let l = leaves before in
      let c = can before in
      let stored = stored-still l.changed (view g a) (view g m) l.rewrites c.can.can.apart l.bits l.records l.case
      (mounted_of g a).clusters (mounted_of g a).records (mounted_of g a).upcase (volume before).stored in
      subst (IsSoundVolume (view g m)) (sym disk.mounted) (record { sound = l.can.sound; stored = stored })

  pub can-write : IsTrue (view g m).told → CanWriteFile (view g m) f
  can-write t =
      let before = told-a t in
      let l = leaves before in
      let c = can before in
      record { node = l.node; can = l.can; write = write-still l.changed (view g a) (view g m) l.rewrites c.can.write }

  pub put-then : (times : List ℕ) (flags : ℕ) (b : Mft D g) → (IsTrue (view g m).told → SetsAttributes (view g m) (view g b) f times flags)
      → IsTrue (view g a).told → (c : CanPut (view g a) f i at bytes) → PutsBytes (view g a) (view g b) f c.part at bytes times flags
  put-then times flags b sets t c = record { mid = view g m; writes = writes t c; sets = sets (told-m t) }

  pub staged-then : (b : Mft D g) → StagesRecordOf g f a m
      → (IsTrue (view g m).told → StagesAttributes g f (names_of (records_of (view g m)) f) m b)
      → IsTrue (view g a).told → StagesValue g f (names_of (records_of (view g a)) f) a b
  staged-then b first later t =
      let old = view g a in
      let mid = view g m in
      let c = can t in
      let l = leaves t in
      let all = names_of (records_of old) f in
      let readable = readable-sound old c.can.can.sound in
      let next : StagesAttributes g f all m b =
      subst (λ (ns : List FileName). StagesAttributes g f ns m b) (names-same l.changed old mid l.rewrites f l.names) (later (told-m t)) in
      few-then g 4 (4 + 12 * length all) (8 + 12 * length all) (IsOfValue old f all) (IsOfFile old f)
      (λ s. IsOfFile mid f s ⊎ IsOfNames mid all s) a m b (few-standard g f a m first t) next (omega arith) (λ s of. inl of)
      (λ s of. elim of [
        | inl own ↦ inl (file-back l.changed old mid l.rewrites readable f s own)
        | inr (n, among, dir) ↦ inr (n, among, directory-back l.changed old mid l.rewrites readable n.parent.number s dir)
      ])
