-- Calls that only read, one behind another.
use Rattle.std.proofs.Common.{◌≡◌, ◌+◌, ℕ, Bool, true, false, Result, Ok, Err, le_refl, refl, sym, ap, subst, IsErrAnd, IsTrue}
use Rattle.vol_disk.specs.declared.Disk.{Ghosts}
use Rattle.volume_def.specs.View.{VolumeView}
use Rattle.file_record.proofs.ReadLaws.{view-kept}
use Rattle.mft_table.proofs.StreamReads.{MftReads-none, MftReads-then}
use Rattle.mft_table.specs.declared.mft.Mft.{Mft}
use Rattle.mft_table.specs.Mft.{MftReads, faults_of, mounted_of, view}
use Rattle.mft_table.specs.InUse.{IsInUse, IsSoundVolume}
use Rattle.file_record.specs.FileNos.{CountsNo, IsReadNo}
use Rattle.file_record.specs.declared.error.FileNo.{FileNo}
use Rattle.file_record.specs.declared.error.FileNo.TheVariants as file
use Rattle.tree_read.specs.Answered.{Counts, Finds, Gives, stop_of}
use Rattle.tree_read.specs.declared.stop.Stop.{Stop}
use Rattle.tree_read.specs.declared.stop.Stop.TheVariants as stop

-- whether the disk failed
abbrev pub is_fault : Stop → Bool
is_fault (stop.No refused) = false
is_fault stop.Device = true

abbrev pub has_failed : {A : Type 0} → Result A Stop → Bool
has_failed (Ok x) = false
has_failed (Err why) = is_fault why

-- the count of faults, where the disk did not fail ..
counts-quiet : {A : Type 0} (result : Result A Stop) (before after : ℕ) → has_failed result ≡ false → after ≡ before
    → Counts result before after
counts-quiet (Ok x) before after quiet same = same
counts-quiet (Err (stop.No refused)) before after quiet same = same
counts-quiet (Err stop.Device) before after quiet same = cc

-- .. and by a result that failed alike
counts-alike : {A B : Type 0} (one : Result A Stop) (other : Result B Stop) (before after : ℕ) → has_failed other ≡ has_failed one
    → Counts one before after → Counts other before after
counts-alike (Ok x) other before after alike counts = counts-quiet other before after alike counts
counts-alike (Err (stop.No refused)) other before after alike counts = counts-quiet other before after alike counts
counts-alike (Err stop.Device) (Ok y) before after alike counts = cc
counts-alike (Err stop.Device) (Err (stop.No refused)) before after alike counts = cc
counts-alike (Err stop.Device) (Err stop.Device) before after alike counts = counts

module _ {D : Type 0} {g : Ghosts D} where
  -- What is known where the volume is told stays so ..
  pub told-kept : {old new : Mft D g} {reads : ℕ} (P : VolumeView → Type 0) → MftReads g old new reads
      → (IsTrue (view g old).told → P (view g old)) → IsTrue (view g new).told → P (view g new)
  told-kept P only known told =
      let same = view-kept g _ _ _ only in
      subst P (sym same) (known (subst (λ v. IsTrue v.told) same told))

  -- .. and what is known behind the call was so before it.
  pub told-back : {old new : Mft D g} {reads : ℕ} (P : VolumeView → Type 0) → MftReads g old new reads
      → (IsTrue (view g new).told → P (view g new)) → IsTrue (view g old).told → P (view g old)
  told-back P only known told =
      let same = view-kept g _ _ _ only in
      subst P same (known (subst (λ v. IsTrue v.told) (sym same) told))

  -- A volume stays in use.
  pub in-use-kept : {old new : Mft D g} {reads : ℕ} → MftReads g old new reads → IsInUse g old → IsInUse g new
  in-use-kept {old = old} {new = new} only known told =
      subst (λ m. IsSoundVolume (view g new) m) (sym only.mounted)
      (told-kept (λ v. IsSoundVolume v (mounted_of g old)) only known told)

  -- Nothing was read.
  pub at_once : {A : Type 0} {old : Mft D g} {Is : VolumeView → Result A Stop → Type 0} {result : Result A Stop}
      → has_failed result ≡ false → (IsTrue (view g old).told → Is (view g old) result) → Gives g old old Is result
  at_once quiet is = record { reads = 0; only = MftReads-none g _; counts = counts-quiet _ _ _ quiet refl; is = is }

  -- What a call gives tells something else, also of another result that failed alike.
  pub tells : {A B : Type 0} {old new : Mft D g} {Is : VolumeView → Result A Stop → Type 0} {That : VolumeView → Result B Stop → Type 0}
      {one : Result A Stop} {other : Result B Stop} → Gives g old new Is one → has_failed other ≡ has_failed one
      → (IsTrue (view g old).told → Is (view g old) one → That (view g old) other) → Gives g old new That other
  tells call alike more = record {
    reads = call.reads;
    only = call.only;
    counts = counts-alike _ _ _ _ alike call.counts;
    is = λ told. more told (call.is told);
  }

  -- Behind a call that went on, the next one.
  pub both : {A B : Type 0} {old middle new : Mft D g} {Is : VolumeView → Result A Stop → Type 0}
      {That : VolumeView → Result B Stop → Type 0} {x : A} {result : Result B Stop} → Gives g old middle Is (Ok x)
      → Gives g middle new That result → Gives g old new (λ volume given. Is volume (Ok x) × That volume given) result
  both {new = new} {That = That} {result = result} first next = record {
    reads = first.reads + next.reads;
    only = MftReads-then g _ _ _ _ _ _ first.only next.only (le_refl _);
    counts = subst (λ n. Counts result n (faults_of g new)) first.counts next.counts;
    is = λ told. (first.is told, told-back (λ volume. That volume result) first.only next.is told);
  }

  -- A file was not read, by a call of a crate below.
  pub unread : {A : Type 0} {old new : Mft D g} {reads : ℕ} (Is : VolumeView → A → Type 0) (no_ : FileNo) {why : Stop}
      → MftReads g old new reads → IsReadNo no_ → CountsNo (faults_of g old) (faults_of g new) no_ → why ≡ stop_of no_
      → Finds g old new Is (Err why)
  unread Is file.Device only is counts same = rw same (record { reads = _; only = only; counts = counts; is = λ told. tt })
  unread Is file.NoRoom only is counts same = absurd is
  unread Is file.MftFull only is counts same = absurd is
  unread Is file.TooManyParts only is counts same = absurd is
  unread Is file.Memory only is counts same = rw same (record { reads = _; only = only; counts = counts; is = λ told. refl })

-- What `?` hands on.
pub handed-on : {A : Type 0} (result : Result A Stop) (why : Stop) → IsErrAnd result (λ e. e ≡ why) → result ≡ Err why
handed-on (Ok x) why is = absurd is
handed-on (Err e) why is = ap Err is
