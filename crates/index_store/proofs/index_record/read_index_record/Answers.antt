use Rattle.std.proofs.Common.{◌≡◌, ◌≢◌, ◌+◌, ◌*◌, ◌≤◌, ℕ, List, sym, ap, subst, ◌∙◌, arith}
use Rattle.std.specs.Prelude.{slice_range}
use Rattle.std.proofs.lemmas.Result.{IfOk-weaker}
use Rattle.ntfs_def.specs.declared.kinds.TheConstants.{FILE_NAME, INDEX_ALLOCATION}
use Rattle.volume_def.specs.ExtentsClause.{AreAttribute}
use Rattle.volume_def.specs.Readable.{IsFile, WhereReadable}
use Rattle.volume_def.specs.Table.{cluster_bytes}
use Rattle.volume_def.specs.Values.{value_on}
use Rattle.volume_def.specs.View.{VolumeView}
use Rattle.attr_store.specs.Mft.{view}
use Rattle.attr_store.specs.Held.{AreParts, file_number}
use Rattle.attr_store.proofs.ReadLaws.{view-kept}
use Rattle.attr_store.specs.First.{IsStored, IsStoredIfThere, attribute_held}
use Rattle.attr_store.proofs.StoredLaws.{stored-length, stored-stream, stored-within}
use Rattle.index_store.specs.Index.{index_held}
use Rattle.index_store.specs.IndexRecords.{LiesWhole, TellsOpened, TellsPlace}
use Rattle.index_store.proofs.RecordSteps.{record-none, record-told, record-unmarked, record-unplaced}
use Rattle.index_store.proofs.index_record.read_index_record.Goals as goal

no-name : INDEX_ALLOCATION ≢ FILE_NAME
no-name e = absurd (omega arith)

pub returns-in_default-clause-found : goal.returns-in_default-clause-found
returns-in_default-clause-found g c told readable are is_file =
    let file = c.args.file.now in
    let name = c.args.index.now.name.now in
    record-none (view g.D.Disk c.args.mft.now) (index_held file name) c.args.vcn (omega arith)
    (subst (IsStoredIfThere file INDEX_ALLOCATION name) c.in_default.is c.requires.records)

pub find_place-requires-clause-part : goal.find_place-requires-clause-part
find_place-requires-clause-part g c =
    let file = c.args.file.now in
    let name = c.args.index.now.name.now in
    stored-within file INDEX_ALLOCATION name c.in-Some.records
    (subst (IsStoredIfThere file INDEX_ALLOCATION name) c.in-Some.is c.requires.records)

pub returns-in_default-2-clause-found : goal.returns-in_default-2-clause-found
returns-in_default-2-clause-found g c told readable are is_file =
    let file = c.args.file.now in
    let name = c.args.index.now.name.now in
    let volume = view g.D.Disk c.args.mft.now in
    let extents = attribute_held file INDEX_ALLOCATION name in
    let len = c.in-Some.records.len in
    let s = subst (IsStoredIfThere file INDEX_ALLOCATION name) c.in-Some.is c.requires.records in
    let f = file_number file in
    let size = c.cluster_bytes-size.ensures in
    let stream = stored-stream file INDEX_ALLOCATION name c.in-Some.records s volume readable are is_file no-name in
    let place = c.in_ok-at.ensures.place INDEX_ALLOCATION name f s (subst (λ (k : ℕ). AreAttribute k f extents) (sym size) stream) in
    let none = subst (TellsPlace extents c.cluster_bytes-size.result len c.args.vcn) c.in_default-2.is place in
    record-unplaced volume (index_held file name) c.args.vcn (omega arith) len
    (stored-length volume file INDEX_ALLOCATION name c.in-Some.records s)
    (subst (λ (k : ℕ). LiesWhole extents k len c.args.vcn → ⊥) size none)

pub returns-then-not-branch-clause-found : goal.returns-then-not-branch-clause-found
returns-then-not-branch-clause-found g c told readable are is_file =
    let file = c.args.file.now in
    let name = c.args.index.now.name.now in
    let volume = view g.D.Disk c.args.mft.now in
    let extents = attribute_held file INDEX_ALLOCATION name in
    let s = subst (IsStoredIfThere file INDEX_ALLOCATION name) c.in-Some.is c.requires.records in
    let f = file_number file in
    let size = c.cluster_bytes-size.ensures in
    let stream = stored-stream file INDEX_ALLOCATION name c.in-Some.records s volume readable are is_file no-name in
    let place = c.in_ok-at.ensures.place INDEX_ALLOCATION name f s (subst (λ (k : ℕ). AreAttribute k f extents) (sym size) stream) in
    let (lies, is) = subst (TellsPlace extents c.cluster_bytes-size.result c.in-Some.records.len c.args.vcn) c.in-Some-2.is place in
    record-unmarked volume (index_held file name) c.args.vcn (omega arith) c.in-Some-2.at (is ∙ ap (λ k. c.args.vcn * k) size)
    (sym c.if-not-branch.true ∙ c.in_ok-has_bit.ensures.bit told readable are is_file)

pub read_opened-requires-clause-part : goal.read_opened-requires-clause-part
read_opened-requires-clause-part g c =
    let file = c.args.file.now in
    let name = c.args.index.now.name.now in
    stored-within file INDEX_ALLOCATION name c.in-Some.records
    (subst (IsStoredIfThere file INDEX_ALLOCATION name) c.in-Some.is c.requires.records)

pub returns-clause-found : goal.returns-clause-found
returns-clause-found g c =
    let file = c.args.file.now in
    let name = c.args.index.now.name.now in
    let volume = view g.D.Disk c.args.mft.now in
    let extents = attribute_held file INDEX_ALLOCATION name in
    let value = value_on volume extents in
    let vcn = c.args.vcn in
    let at = c.in-Some-2.at in
    let len = c.in-Some.records.len in
    let new = c.read_opened.new.into in
    let s = subst (IsStoredIfThere file INDEX_ALLOCATION name) c.in-Some.is c.requires.records in
    let f = file_number file in
    let size = c.cluster_bytes-size.ensures in
    let kept = view-kept g.D.Disk c.args.mft.now c.has_bit.new.mft 1 c.in_ok-has_bit.ensures.reads in
    IfOk-weaker c.read_opened.result _ _ (λ found read told readable are is_file.
    let stream = stored-stream file INDEX_ALLOCATION name c.in-Some.records s volume readable are is_file no-name in
    let place = c.in_ok-at.ensures.place INDEX_ALLOCATION name f s (subst (λ (k : ℕ). AreAttribute k f extents) (sym size) stream) in
    let (lies, is) = subst (TellsPlace extents c.cluster_bytes-size.result len vcn) c.in-Some-2.is place in
    let its : at ≡ vcn * cluster_bytes volume.layout = is ∙ ap (λ k. vcn * k) size in
    let whole = lies.whole in
    let reads = subst (λ (v : VolumeView). WhereReadable v (AreParts v file → IsFile v f
    → (kind : ℕ) (name : List ℕ) → IsStored file kind name c.in-Some.records → at + 4096 ≤ len
    → TellsOpened (slice_range (value_on v (attribute_held file kind name)) at (at + 4096)) vcn found new)) kept read in
    let opened = reads told readable are is_file INDEX_ALLOCATION name s (omega (arith, is, whole)) in
    record-told volume (index_held file name) vcn (omega arith) len at found new
    (stored-length volume file INDEX_ALLOCATION name c.in-Some.records s)
    (subst (λ (k : ℕ). LiesWhole extents k len vcn) size lies) its
    (sym c.if-not-branch.false ∙ c.in_ok-has_bit.ensures.bit told readable are is_file)
    (subst (λ (n : ℕ). TellsOpened (slice_range value n (n + 4096)) vcn found new) its opened)) c.read_opened.ensures.read
