-- A PART OF A FILE THAT GOES ON in the record that holds it, as the call tells it.
use Rattle.std.proofs.Common.{◌≡◌, ◌≢◌, ◌+◌, ◌*◌, ◌<◌, ◌≤◌, ℕ, Bool, true, false, List, length, Option, Some, None, sym, ap, subst, ◌∙◌}
use Rattle.std.specs.List.{flat_map}
use Rattle.std.specs.Prelude.{All, IsSomeAnd, IsTrue, get_or, slice_get, take}
use Rattle.vol_disk.specs.declared.Disk.{Ghosts}
use Rattle.ntfs_def.specs.Attribute.{Attribute, attributes}
use Rattle.volume_def.specs.Coverage.{IsApart}
use Rattle.ntfs_def.specs.declared.run_text.Run.{Run}
use Rattle.volume_def.specs.Files.{Part, content_of, parts, records_of}
use Rattle.volume_def.specs.Readable.{IsFile, IsReadableVolume, WhereReadable}
use Rattle.volume_def.specs.Room.{free_bytes}
use Rattle.volume_def.specs.Table.{cluster_bytes}
use Rattle.mft_table.specs.declared.mft.Mft.{Mft}
use Rattle.mft_table.specs.Mft.{MftReads, view}
use Rattle.file_record.specs.Attributes.{opened_record}
use Rattle.file_record.specs.Held.{AreParts, AreRising, RecordHeld, attributes_in, file_number, held_of}
use Rattle.file_record.specs.Records.{IsRecordOf}
use Rattle.file_record.specs.Written.{IsWholeFile}
use Rattle.file_record.specs.declared.held.Held.{Held}
use Rattle.file_record.specs.declared.parts.FileParts.{FileParts}
use Rattle.tree_edit.specs.Below.{IsInitialized}
use Rattle.extent_edits.specs.Extended.{CanBeExtended, ExtendsExtent, ExtendsWhereItCan}
use Rattle.tree_edit.proofs.ChangePart as part
use Rattle.stream_changes.specs.Streams.{ExtendsPartWhereItCan}

module _ (file : FileParts) (k left i : ℕ) (inside : k < length (held_of file))
    (place : i ≡ length (flat_map attributes_in (take k (held_of file))) + left)
    (few : (d : Held) → left < (get_or (held_of file) k d).count) {D : Type 0} (g : Ghosts D) (f : ℕ) (a b c : Mft D g) (reads_n : ℕ)
    (reads : MftReads g a b reads_n) (number : file_number file ≡ f) (rising : AreRising (held_of file))
    (own : IsTrue (view g a).told → All (λ one. IsRecordOf (view g a) f one.number) (held_of file))
    (parts_are : WhereReadable (view g a) (IsFile (view g a) f → AreParts (view g a) file)) (told : IsTrue (view g a).told)
    (readable : IsReadableVolume (view g a)) (is_file : IsFile (view g a) f) (this : Part)
    (there : slice_get (parts (records_of (view g a)) f) i ≡ Some this) (apart : IsApart (view g a).layout)
    (initialized : IsInitialized (view g a) f) where
  abbrev one : Held
  one = part.one file k left i inside place few

  -- the attribute of that record is the part
  here : slice_get (attributes (opened_record (view g a) one.number)) left ≡ Some (part.its file k left i inside place few)
  here =
      ap (λ (xs : List Attribute). slice_get xs left)
      (sym (part.current file k left i inside place few g f a b reads_n reads number rising own parts_are told readable is_file this there))
      ∙ part.read file k left i inside place few

  pub part-extended : (done : Bool) (real initialized_then : ℕ) (run : Option Run)
      → (IsTrue (view g b).told → IsApart (view g b).layout → IsWholeFile (view g b) file
      → RecordHeld file k (λ held. 1024 * held.number + 1024 ≤ (view g b).layout.initialized
      → ExtendsWhereItCan done (view g b) (view g c) held.number left real initialized_then run))
      → ExtendsPartWhereItCan done (view g a) (view g c) f this real initialized_then run
  part-extended true real initialized_then run tells =
      let r = part.in-each file k left i inside place few g f a b reads_n reads number rising own parts_are told readable is_file this there
      (λ v n. ExtendsExtent v (view g c) n left real initialized_then run) apart initialized tells in
      record {
        n = one.number;
        own = part.record-own file k left i inside place few g f a b reads_n reads number rising own parts_are told
            readable is_file this there;
        i = left;
        extends = r;
        is = part.is-part file k left i inside place few g f a b reads_n reads number rising own parts_are told readable is_file this there
            r.was r.there;
      }
  part-extended false real initialized_then run tells = λ can.
      let r = part.in-each file k left i inside place few g f a b reads_n reads number rising own parts_are told readable is_file this there
      (λ v n. ExtendsWhereItCan false v (view g c) n left real initialized_then run) apart initialized tells in
      let its = part.its file k left i inside place few in
      let is = part.is-part file k left i inside place few g f a b reads_n reads number rising own parts_are told
      readable is_file this there
      its here in
      let full = subst (λ (o : Option Attribute).
      IsSomeAnd o (λ was. CanBeExtended (cluster_bytes (view g a).layout) run (content_of was.body)
      → (run ≢ None) × (free_bytes (view g a) one.number < 24))) here r.0
      (subst (λ (p : Part). CanBeExtended (cluster_bytes (view g a).layout) run p.content) (sym is) can) in (
        full.0,
        (
          one.number,
          part.record-own file k left i inside place few g f a b reads_n reads number rising own parts_are told readable is_file this there,
          sym (ap (λ (p : Part). p.holder) is),
          full.1,
        ),
      )
