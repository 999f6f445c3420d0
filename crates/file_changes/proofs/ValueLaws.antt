-- BYTES OVER THOSE OF A VALUE of a file that was loaded for that: the part at its place is the one of the volume.
use Rattle.std.proofs.Common.{◌≡◌, ◌+◌, ◌*◌, ◌≤◌, ℕ, false, List, [], ◌∷◌, length, Option, Some, Ok, Err, inl, inr, sym, ap, subst}
use Rattle.std.proofs.Common.{◌∙◌, arith}
use Rattle.std.specs.Prelude.{◌⊎◌, All, Contains, IsSomeAnd, IsTrue, OnErr, OnOk, Result, slice_get}
use Rattle.std.proofs.lemmas.Option.{slice_get_within}
use Rattle.list_laws.proofs.MemberLaws.{Contains-flat_map, Contains-head}
use Rattle.list_laws.proofs.OptionLaws.{some-value}
use Rattle.list_laws.proofs.PieceLaws.{All-one}
use Rattle.vol_disk.specs.declared.Disk.{Ghosts}
use Rattle.vol_stage.specs.Staged.{GoesOn, disk_of, places}
use Rattle.volume_def.specs.Coverage.{IsApart}
use Rattle.volume_def.specs.Files.{Part, parts, records_of}
use Rattle.volume_def.specs.Readable.{IsFile, IsReadableVolume, WhereReadable}
use Rattle.volume_def.specs.View.{VolumeView}
use Rattle.mft_table.specs.declared.mft.Mft.{Mft}
use Rattle.mft_table.specs.declared.mounted.Mounted.{Mounted}
use Rattle.mft_table.specs.Mft.{KeepsDisk, MftReads, MftReserves, MftStages, committed_of, is_mft_broken, mounted_of, stage_of, view}
use Rattle.mft_table.specs.Mounted.{mounted_layout}
use Rattle.mft_table.specs.Staging.{record_places}
use Rattle.mft_table.proofs.DiskKept.{KeepsDisk-reads, KeepsDisk-then}
use Rattle.file_record.specs.declared.parts.FileParts.{FileParts}
use Rattle.file_record.specs.Held.{AreParts, AreRising, file_number, held_of, parts_held}
use Rattle.file_record.specs.Records.{IsRecordOf}
use Rattle.file_record.specs.Written.{HoldsBytes, IsWholeFile, PartHeld, WritesBytes}
use Rattle.file_record.proofs.ReadLaws.{view-kept}
use Rattle.dir_index.specs.Standard.{IsInitialized, StagesRecordOf}
use Rattle.dir_index.proofs.StandardLaws.{at-among, holder-own}

-- what is told of both answers
pub either : {T E A B : Type 0} (result : Result T E) → OnOk result A → OnErr result B → A ⊎ B
either (Ok x) ok err = inl ok
either (Err e) ok err = inr err

module _ {D : Type 0} (g : Ghosts D) (f i at : ℕ) (bytes : List ℕ) (a b : Mft D g) (reads_n : ℕ) (file : FileParts)
    (reads : MftReads g a b reads_n) (number : file_number file ≡ f) (rising : AreRising (held_of file))
    (own : IsTrue (view g a).told → All (λ one. IsRecordOf (view g a) f one.number) (held_of file))
    (parts_are : WhereReadable (view g a) (IsFile (view g a) f → AreParts (view g a) file)) where
  abbrev old : VolumeView
  old = view g a

  -- THE PART at its place
  module _ (told : IsTrue (view g a).told) (readable : IsReadableVolume (view g a)) (is_file : IsFile (view g a) f) (part : Part)
      (there : slice_get (parts (records_of (view g a)) f) i ≡ Some part) where
    pub here : slice_get (parts_held file) i ≡ Some part
    here =
        ap (λ (ps : List Part). slice_get ps i) ((parts_are told readable is_file).parts ∙ ap (parts (records_of old)) number) ∙ there

    pub not-past : length (parts_held file) ≤ i → ⊥
    not-past past =
        let lt = slice_get_within (parts_held file) i part here in
        omega (arith, lt, past)

    pub holds-here : HoldsBytes at (length bytes) part → PartHeld file i (HoldsBytes at (length bytes))
    holds-here holds = subst (λ (o : Option Part). IsSomeAnd o (HoldsBytes at (length bytes))) (sym here) holds

    pub value-written : (c : Mft D g)
        → (IsTrue (view g b).told → IsApart (view g b).layout → IsWholeFile (view g b) file
        → PartHeld file i (λ part. 1024 * part.holder + 1024 ≤ (view g b).layout.initialized → WritesBytes (view g b)
        (view g c) part at bytes))
        → IsApart (view g a).layout → IsInitialized (view g a) f → WritesBytes (view g a) (view g c) part at bytes
    value-written c written apart initialized =
        let same : view g b ≡ old = view-kept g a b reads_n reads in
        let whole : IsWholeFile old file = record {
          parts = parts_are told readable is_file;
          own = subst (λ n. All (λ one. IsRecordOf old n one.number) (held_of file)) (sym number) (own told);
          rising = rising;
        } in
        let all = subst (λ (v : VolumeView). IsTrue v.told → IsApart v.layout → IsWholeFile v file
        → PartHeld file i (λ part. 1024 * part.holder + 1024 ≤ v.layout.initialized → WritesBytes v
        (view g c) part at bytes)) same written told
        apart whole in
        let holder : IsRecordOf old f part.holder = holder-own old f file part (own told) (at-among (parts_held file) i part here) in
        subst (λ (o : Option Part). IsSomeAnd o (λ part. 1024 * part.holder + 1024 ≤ old.layout.initialized
        → WritesBytes old (view g c) part at bytes)) here all (initialized part.holder holder)

  -- WHAT IS STAGED: the record that holds it
  pub value-staged : {T E : Type 0} (c : Mft D g) (result : Result T E) → PartHeld file i (HoldsBytes at (length bytes))
      → OnOk result (PartHeld file i (λ part. MftStages g (record_places (view g b).layout part.holder) 4 b c))
      → OnErr result (MftReserves g b c) → StagesRecordOf g f a c
  value-staged c result holds stages kept =
      let its = some-value (slice_get (parts_held file) i) (HoldsBytes at (length bytes)) holds in
      let part = its.0 in
      let was : (sector : ℕ) → Contains (places g (stage_of g b)) sector → Contains (places g (stage_of g a)) sector =
      λ sector there. subst (λ (all : List ℕ). Contains all sector) reads.stage.only_reads.places there in
      record {
        holders = part.holder ∷ [];
        few = omega arith;
        own = λ told. All-one (λ n. IsRecordOf old f n) part.holder (holder-own old f file part (own told)
            (at-among (parts_held file) i part its.1));
        places = record {
          only = λ sector there. elim (either result stages kept) [
            | inl held ↦
                let one = subst (λ (o : Option Part). IsSomeAnd o (λ part. MftStages g (record_places
                (view g b).layout part.holder) 4 b c)) its.1
                held in
                elim (one.places.only sector there) [
                  | inl before ↦ inl (was sector before)
                  | inr new ↦ inr (Contains-flat_map (record_places (mounted_layout a.mounted)) (part.holder ∷ []) part.holder sector
                      (Contains-head part.holder [])
                      (subst (λ (m : Mounted). Contains (record_places (mounted_layout m) part.holder) sector) reads.mounted new))
                ]
            | inr still ↦ inl (was sector (subst (λ (all : List ℕ). Contains all sector) still.places there))
          ];
        };
      }

  -- nothing is written
  value-kept : (c : Mft D g) → GoesOn g (stage_of g b) (stage_of g c) → disk_of g (stage_of g c) ≡ disk_of g (stage_of g b)
      → is_mft_broken g c ≡ is_mft_broken g b → mounted_of g c ≡ mounted_of g b → committed_of g c ≡ committed_of g b → KeepsDisk g b c
  value-kept c goes disk broken mounted committed = record {
    goes_on = goes;
    now = ap g.now disk;
    settled = ap g.settled disk;
    fenced = ap g.fenced disk;
    written = ap g.written disk;
    late = ap g.late disk;
    broken = broken;
    mounted = mounted;
    committed = committed;
  }

  pub value-disk : {T E : Type 0} (c : Mft D g) (result : Result T E) → is_mft_broken g a ≡ false
      → PartHeld file i (HoldsBytes at (length bytes))
      → OnOk result (PartHeld file i (λ part. MftStages g (record_places (view g b).layout part.holder) 4 b c))
      → OnErr result (MftReserves g b c) → KeepsDisk g a c
  value-disk c result sound holds stages kept =
      let its = some-value (slice_get (parts_held file) i) (HoldsBytes at (length bytes)) holds in
      KeepsDisk-then g a b c (KeepsDisk-reads g a b reads_n reads) (elim (either result stages kept) [
        | inl held ↦
            let one = subst (λ (o : Option Part). IsSomeAnd o (λ part. MftStages g (record_places
            (view g b).layout part.holder) 4 b c)) its.1
            held in
            value-kept c one.goes_on one.disk (one.sound ∙ sym (reads.stage.only_reads.broken ∙ sound)) one.mounted one.committed
        | inr still ↦ value-kept c still.goes_on still.disk still.broken still.mounted still.committed
      ])
