-- A STREAM LEAVES ITS RECORD: a run is taken, bytes are put into it, its value becomes an extent of that run, and then the attributes of
-- its file are set.
use Rattle.std.proofs.Common.{◌≡◌, ◌⊎◌, ◌+◌, ◌*◌, ◌/◌, ◌^◌, ◌<◌, ◌≤◌, ℕ, Bool, true, false, List, [], ◌∷◌, Some, length}
use Rattle.std.proofs.Common.{refl, sym, ap, subst, inl, inr, ◌∙◌, arith}
use Rattle.std.specs.List.{Contains}
use Rattle.std.specs.Prelude.{IsTrue, slice_get, sum_by}
use Rattle.std.proofs.lemmas.Bool.{both_ways}
use Rattle.vol_disk.specs.declared.Disk.{Ghosts}
use Rattle.ntfs_def.specs.Rounded.{clusters_for}
use Rattle.ntfs_def.specs.Runs.{spot_of, total_clusters}
use Rattle.ntfs_def.specs.declared.kinds.TheConstants.{DATA}
use Rattle.ntfs_def.specs.declared.run_text.Run.{Run}
use Rattle.volume_def.specs.Coverage.{IsApart, times_covered}
use Rattle.volume_def.specs.FileNames.{names_of}
use Rattle.volume_def.specs.Files.{Part, Records, content_value, part_of, parts, records_of}
use Rattle.volume_def.specs.Readable.{IsFile, IsReadableVolume, WhereReadable}
use Rattle.volume_def.specs.Table.{TableLayout, cluster_bytes}
use Rattle.volume_def.specs.View.{VolumeView}
use Rattle.volume_edits.specs.Clusters.{IsOwnStream, IsPlaced, WritesStream}
use Rattle.mft_table.specs.declared.mft.Mft.{Mft}
use Rattle.mft_table.specs.InUse.{IsInUse}
use Rattle.mft_table.specs.Mft.{KeepsDisk, mounted_of, view}
use Rattle.mft_table.specs.Staging.{record_places}
use Rattle.file_record.specs.Records.{IsRecordOf}
use Rattle.edit_def.specs.Kept.{Key, key_of}
use Rattle.edit_def.specs.Purses.{run_size}
use Rattle.record_edits.specs.Given.{TakesRuns}
use Rattle.value_moves.specs.Moved.{MovesValue}
use Rattle.sparse_io.specs.Overwritten.{touched_sectors}
use Rattle.sparse_io.specs.declared.find.FoundStream.{FoundStream}
use Rattle.tree_model.specs.Streams.{resized}
use Rattle.tree_model.specs.Ways.{has_placed_bits}
use Rattle.stored_bits.specs.Given.{IsOfBits}
use Rattle.stored_bits.specs.Taken.{IsUnownedRun}
use Rattle.stored_bits.proofs.FreeRuns.{flags-kept}
use Rattle.tree_edit.specs.Below.{IsInitialized, SetsAttributes, StagesRecordOf}
use Rattle.tree_edit.specs.Links.{CanWriteFile}
use Rattle.tree_edit.specs.Staged.{IsOfFile, IsOfNames, StagesAttributes, StagesFew, TellsStored}
use Rattle.tree_edit.proofs.StagedLaws.{few-more, few-standard, few-then}
use Rattle.value_edits.specs.ValueEdits.{PreparesEdit, PutsGiving, WritesBehind}
use Rattle.value_edits.proofs.Below.{body-value, marks-right, right_marks}
use Rattle.value_edits.proofs.EditedRecord.{ready-sound}
use Rattle.value_edits.proofs.GivenBack.{nothing-given}
use Rattle.value_edits.proofs.Prepared as before
use Rattle.moved_streams.specs.MovedStreams.{MovesStream}
use Rattle.moved_streams.proofs.MovedPrepared.{moved-prepared}
use Rattle.moved_streams.proofs.MovedStreams.{moved-put}
use Rattle.stream_changes.specs.Reached.{HasNoRun}
use Rattle.stream_changes.specs.Staged.{IsOfFree, IsOfGiving, StagesGiving}
use Rattle.stream_changes.specs.Streams.{FindsNamed}
use Rattle.stream_changes.proofs.BehindVolume as volume
use Rattle.stream_changes.proofs.Changed as changed
use Rattle.stream_changes.specs.Moving.{CanLeave, IsFreeRun, LeavesRecord, MovesPart, MovesPartWhereItCan}
use Rattle.stream_changes.proofs.LeftRecord as left
use Rattle.stream_changes.proofs.ValueBytes.{value-long}

-- As many clusters are free as it needs.
pub leave-free : {D : Type 0} (g : Ghosts D) (found : FoundStream) (f size count : ℕ) (a : Mft D g) → IsInUse g a
    → (t : IsTrue (view g a).told) → CanLeave (view g a) found f size → count ≡ clusters_for size (cluster_bytes (view g a).layout)
    → HasNoRun (mounted_of g a).clusters count → ⊥
leave-free g found f size count a in_use t can many none =
    both_ways _ (subst (λ n. HasNoRun (mounted_of g a).clusters n) many none (view g a) (flags-kept (view g a) (mounted_of g a) (in_use t)))
    can.free

module _ {D : Type 0} (g : Ghosts D) (found : FoundStream) (f : ℕ) (put : List ℕ) (real count : ℕ) (run : Run) (all : List Run)
    (a back filled : Mft D g) (in_use : IsInUse g a) (some : 0 < length put) (more : length put ≤ real) (near : real ≤ 2 ^ 40)
    (can : IsTrue (view g a).told → CanLeave (view g a) found f real)
    (last : IsTrue (view g a).told
    → clusters_for real (cluster_bytes (view g a).layout) ≡ clusters_for (length put) (cluster_bytes (view g a).layout))
    (many : count ≡ clusters_for real (cluster_bytes (view g a).layout)) (holds : IsFreeRun (mounted_of g a).clusters count run all)
    (taken : IsTrue (view g a).told → has_placed_bits (view g a) ≡ true → IsUnownedRun (view g a) run
    → TakesRuns (view g a) (view g back) (run ∷ []))
    (wrote : IsTrue (view g back).told → IsApart (view g back).layout → IsOwnStream (view g back).layout (spot_of all)
    → IsPlaced (cluster_bytes (view g back).layout) (spot_of all) 0 (length put)
    → WritesStream (view g back) (view g filled) (spot_of all) 0 put) where
  abbrev old : VolumeView
  old = view g a

  abbrev named : IsTrue (view g a).told → FindsNamed (view g a) f
  named t = (can t).named

  abbrev key : IsTrue (view g a).told → Key
  key t = key_of f DATA (named t).name

  -- THE RUN
  run-len : run.len ≡ clusters_for real (cluster_bytes (view g a).layout)
  run-len = holds.is.len ∙ many

  unowned : IsTrue (view g a).told → IsUnownedRun (view g a) run
  unowned t = holds.unowned old (flags-kept old (mounted_of g a) (in_use t))

  takes : IsTrue (view g a).told → TakesRuns (view g a) (view g back) (run ∷ [])
  takes t = taken t (can t).placed (unowned t)

  writes : IsTrue (view g a).told → WritesStream (view g back) (view g filled) (spot_of (run ∷ [])) 0 put
  writes t =
      let c = can t in
      let layout = (takes t).writes.layout in
      subst (λ (runs : List Run). IsTrue (view g back).told → IsApart (view g back).layout → IsOwnStream (view g back).layout (spot_of runs)
      → IsPlaced (cluster_bytes (view g back).layout) (spot_of runs) 0 (length put)
      → WritesStream (view g back) (view g filled) (spot_of runs) 0 put) holds.alone wrote
      ((takes t).writes.told ∙ t) (subst IsApart (sym layout) c.named.can.write.apart)
      (subst (λ (l : TableLayout). IsOwnStream l (spot_of (run ∷ []))) (sym layout) (left.run-own old found f real c run (unowned t)))
      (subst (λ (l : TableLayout). IsPlaced (cluster_bytes l) (spot_of (run ∷ [])) 0 (length put)) (sym layout)
      (left.run-placed-all old found f real c run run-len holds.is.placed (length put) more))

  behind : IsTrue (view g a).told → WritesBehind (view g a) (view g back) (view g filled) [] (Some run) 0 put
  behind t = record {
    takes = takes t;
    writes = writes t;
    needs = record {
      placed = holds.is.placed;
      some = holds.is.new.some;
      len =
          let none : total_clusters [] ≡ 0 = refl in
          let same : clusters_for (0 + length put) (cluster_bytes old.layout) ≡ clusters_for (length put) (cluster_bytes old.layout) =
          ap (λ n. clusters_for n (cluster_bytes old.layout)) (omega arith) in
          omega (arith, run-len, last t, same, none);
    };
    inside = (unowned t).inside;
    unowned = (unowned t).unowned;
    some = some;
    near = omega (arith, more, near);
    room =
        let room = left.run-room old found f real (can t) run run-len in
        let total = ap (λ n. n * cluster_bytes old.layout) (left.run-total old found f real (can t) run run-len) in
        omega (arith, more, room, total);
  }

  -- BEFORE ITS RECORD IS WRITTEN
  prepares : (t : IsTrue (view g a).told) → PreparesEdit (key t) (view g a) (view g filled) [] (run ∷ [])
  prepares t = moved-prepared old (view g back) (view g filled) f (named t).name run put (behind t)

  records : IsTrue (view g a).told → records_of (view g filled) ≡ records_of (view g a)
  records t = before.records-mid (key t) old (view g filled) [] (run ∷ []) (prepares t)

  layout : IsTrue (view g a).told → (view g filled).layout ≡ (view g a).layout
  layout t = before.layout-mid (key t) old (view g filled) [] (run ∷ []) (prepares t)

  blocks : IsTrue (view g a).told → (n : ℕ) → (view g filled).block n ≡ (view g a).block n
  blocks t = before.blocks-mid (key t) old (view g filled) [] (run ∷ []) (prepares t)

  told-filled : IsTrue (view g a).told → IsTrue (view g filled).told
  told-filled t = before.told-mid (key t) old (view g filled) [] (run ∷ []) (prepares t) ∙ t

  readable : IsTrue (view g a).told → IsReadableVolume (view g filled)
  readable t =
      let c = can t in
      (before.ready-mid (key t) old (view g filled) [] (run ∷ []) (prepares t) refl c.one.may (right_marks old)
      (ready-sound old (right_marks old) c.named.can.can.sound c.named.can.can.apart (marks-right old))
      (λ cluster. let none : times_covered [] cluster ≡ 0 = refl in omega (arith, none))).editable.readable

  own-still : (t : IsTrue (view g a).told) (n : ℕ) → IsRecordOf (view g filled) f n → IsRecordOf (view g a) f n
  own-still t = volume.own-still old (view g filled) f (named t).can (records t) (layout t) (blocks t)

  own : (t : IsTrue (view g a).told) (n : ℕ) → IsRecordOf (view g filled) f n → n ≡ f
  own t n is = left.alone old found f real (can t) n (own-still t n is)

  module _ (m : Mft D g) (kept : KeepsDisk g back filled) (then : KeepsDisk g filled m)
      (stored : IsTrue (view g a).told → has_placed_bits (view g a) ≡ true → IsUnownedRun (view g a) run → TellsStored g back)
      (same_told : (view g back).told ≡ (view g a).told) (done : Bool)
      (tells : WhereReadable (view g filled) (IsFile (view g filled) f → IsApart (view g filled).layout → IsInitialized (view g filled) f
      → (part : Part) → slice_get (parts (records_of (view g filled)) f) found.part ≡ Some part
      → MovesPartWhereItCan done (view g filled) (view g m) f part run real (length put))) where
    of-part : (t : IsTrue (view g a).told) → MovesPartWhereItCan done (view g filled) (view g m) f (can t).part run real (length put)
    of-part t =
        let c = can t in
        let file = c.named.can in
        tells (told-filled t) (readable t) (volume.file-still old (view g filled) f file (records t) (layout t) (blocks t))
        (volume.apart-still old (view g filled) f file (records t) (layout t) (blocks t))
        (volume.initialized-still old (view g filled) f file (records t) (layout t) (blocks t)) c.part
        (ap (λ (r : Records). slice_get (parts r f) found.part) (records t) ∙ c.at)

    -- It always moves.
    pub leave-never : done ≡ false → IsTrue (view g a).told → ⊥
    leave-never not t =
        left.moves-always old found f real (can t) (view g filled) (blocks t) (own-still t)
        (subst (λ d. MovesPartWhereItCan d (view g filled) (view g m) f (can t).part run real (length put)) not (of-part t))

    module _ (does : done ≡ true) where
      moved : (t : IsTrue (view g a).told) → MovesPart (view g filled) (view g m) f (can t).part run real (length put)
      moved t =
          subst (λ d. MovesPartWhereItCan d (view g filled) (view g m) f (can t).part run real (length put)) does (of-part t)

      stream : (t : IsTrue (view g a).told) → MovesStream (view g a) (view g m) f (moved t).i (named t).name run real put
      stream t =
          let c = can t in
          let r = moved t in
          subst (λ n. (e : MovesValue (view g filled) (view g m) n r.i run real (length put)) → part_of n e.was ≡ c.part
          → MovesStream old (view g m) f r.i c.named.name run real put)
          (sym (own t r.n r.own))
          (λ e is. record {
            flagged = view g back;
            mid = view g filled;
            fills = behind t;
            moves = e;
            is = left.stream-of old f c.named.name c.part c.alone f e.was is;
            stood = c.alone ∙ ap (λ (p : Part). p ∷ []) (sym is);
            more = more;
            near = near;
            room = left.run-room old found f real c run run-len;
          })
          r.moves r.is

      -- its record had no more bytes of it
      pub leave-short : (t : IsTrue (view g a).told) → length (can t).named.held ≤ 1000
      leave-short t =
          let c = can t in
          let r = moved t in
          (value-long (view g filled) f r.n r.i r.own r.moves.was c.named.held r.moves.there
          (sym (body-value r.moves.was.body) ∙ ap (λ (p : Part). content_value p.content) r.is ∙ ap content_value c.is)).1

      abbrev gains : ℕ → Bool
      gains vcn = true

      puts : (t : IsTrue (view g a).told)
          → PutsGiving (view g a) (view g m) f (named t).name (Some (resized real put)) gains [] (run ∷ [])
      puts t = moved-put (stream t) (named t).can.can (can t).one gains (λ vcn low. refl)

      told-back : IsTrue (view g back).told → IsTrue (view g a).told
      told-back t = sym same_told ∙ t

      stored-back : TellsStored g back
      stored-back t = stored (told-back t) (can (told-back t)).placed (unowned (told-back t)) t

      same : (view g m).told ≡ (view g a).told
      same = then.goes_on.told_image ∙ kept.goes_on.told_image ∙ same_told

      mounted : mounted_of g m ≡ mounted_of g back
      mounted = then.mounted ∙ kept.mounted

      pub leave-in-use : IsInUse g m
      leave-in-use = changed.in-use g f a back m named (λ held. Some (resized real put)) gains (λ t. []) (λ t. run ∷ [])
          (λ t. view g a) (λ t. nothing-given (view g a)) takes stored-back mounted same puts

      pub leave-can-write : IsTrue (view g m).told → CanWriteFile (view g m) f
      leave-can-write = changed.can-write g f a back m named (λ held. Some (resized real put)) gains (λ t. []) (λ t. run ∷ [])
          (λ t. view g a) (λ t. nothing-given (view g a)) takes stored-back mounted same puts

      module _ (b : Mft D g) (times : List ℕ) (flags : ℕ)
          (sets : IsTrue (view g m).told → SetsAttributes (view g m) (view g b) f times flags) where
        pub leave-put : (t : IsTrue (view g a).told) → LeavesRecord (view g a) (view g b) f (can t).named.name real put times flags
        leave-put t = record { mid = view g m; i = (moved t).i; run = run; moves = stream t; sets = sets (same ∙ t) }

        pub leave-staged : StagesFew g (2 * sum_by run_size (run ∷ [])) (IsOfBits (view g a)) a back
            → StagesFew g (length put / 512 + 2) (λ s. Contains (touched_sectors (view g back).layout (spot_of all) 0 (length put)) s)
            back filled
            → StagesRecordOf g f filled m
            → (IsTrue (view g m).told → StagesAttributes g f (names_of (records_of (view g m)) f) m b)
            → IsTrue (view g a).told → StagesGiving g (10 + length put / 512) f (view g a) a b
        leave-staged bits over record_of later t =
            let size_of = sum_by run_size (run ∷ []) in
            let names = names_of (records_of old) f in
            let first = few-then g (2 * size_of) (length put / 512 + 2) (2 * size_of + (length put / 512 + 2)) (IsOfGiving old f)
            (IsOfBits old) (λ s. Contains (touched_sectors (view g back).layout (spot_of all) 0 (length put)) s) a back filled bits over
            (omega arith) (λ s of. inr (inl of)) (λ s of. inl (of-touched t s of)) in
            let next = few-then g (2 * size_of + (length put / 512 + 2)) 4 (2 * size_of + (length put / 512 + 6)) (IsOfGiving old f)
            (IsOfGiving old f) (IsOfFile (view g filled) f) a filled m first (few-standard g f filled m record_of (told-filled t))
            (omega arith) (λ s of. of) (λ s of. inr (inr (inr (inl (file-back t s of))))) in
            record {
              given = 0;
              freed = omega arith;
              taken = size_of;
              owned = changed.owned-then g f a back m named (λ held. Some (resized real put)) gains (λ t. []) (λ t. run ∷ [])
                  (λ t. view g a) (λ t. nothing-given (view g a)) takes stored-back mounted same puts b times flags sets t refl;
              stages = few-more g (2 * size_of + (length put / 512 + 6) + (4 + 12 * length names))
                  (10 + length put / 512 + 12 * length names + 2 * 0 + 2 * size_of) (IsOfGiving old f)
                  (λ s. IsOfGiving old f s ⊎ (IsOfFile old f s ⊎ IsOfNames old names s)) a b
                  (changed.staged-then g f a back m named (λ held. Some (resized real put)) gains (λ t. []) (λ t. run ∷ [])
                  (λ t. view g a) (λ t. nothing-given (view g a)) takes stored-back mounted same puts b
                  (2 * size_of + (length put / 512 + 6)) (IsOfGiving old f) next later t) (omega arith)
                  (λ s of. elim of [ inl its ↦ its | inr other ↦ inr (inr (inr other)) ]);
            }
          where
            of-touched : (t : IsTrue (view g a).told) (s : ℕ)
                → Contains (touched_sectors (view g back).layout (spot_of all) 0 (length put)) s → IsOfFree (view g a) s
            of-touched t s among =
                let here = subst (λ (runs : List Run). Contains (touched_sectors old.layout (spot_of runs) 0 (length put)) s) holds.alone
                (subst (λ (l : TableLayout). Contains (touched_sectors l (spot_of all) 0 (length put)) s) (takes t).writes.layout among) in
                left.run-touched old found f real (can t) run (unowned t) 0 (length put) s here

            file-back : (t : IsTrue (view g a).told) (s : ℕ) → IsOfFile (view g filled) f s → IsOfFile (view g a) f s
            file-back t s (n, is, among) =
                (n, own-still t n is, subst (λ (l : TableLayout). Contains (record_places l n) s) (layout t) among)
