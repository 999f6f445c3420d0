-- A STREAM IN CLUSTERS: its clusters were given back, and then its attribute went out of its record, or was cut there.
use Rattle.std.proofs.Common.{◌≡◌, ◌≤◌, ◌+◌, ◌*◌, ℕ, true, List, [], ◌∷◌, take, drop, Option, Some, None, sym, ap, subst}
use Rattle.std.proofs.Common.{◌∙◌, arith}
use Rattle.std.specs.List.{Contains}
use Rattle.std.specs.Prelude.{◌==◌, IfSome, IsSomeAnd, IsTrue, cond, count_by, is_some, unwrap_or}
use Rattle.std.specs.Str.{bytes_eq}
use Rattle.std.proofs.lemmas.Bool.{and_parts, eqb-true}
use Rattle.std.proofs.lemmas.List.{take-append-drop}
use Rattle.std.proofs.lemmas.List.Sums.{sum_by-append}
use Rattle.std.proofs.lemmas.Slice.Eq.{bytes_eq-Decides}
use Rattle.list_laws.proofs.MemberLaws.{Contains-from_filter, Contains-head}
use Rattle.list_laws.proofs.OptionLaws.{some-value, some_same}
use Rattle.ntfs_def.specs.Attribute.{Attribute}
use Rattle.ntfs_def.specs.Rounded.{clusters_for}
use Rattle.ntfs_def.specs.Runs.{clusters_of}
use Rattle.ntfs_def.specs.declared.kinds.TheConstants.{DATA}
use Rattle.ntfs_def.specs.declared.run_text.Run.{Run}
use Rattle.volume_def.specs.Coverage.{IsApart, times_covered}
use Rattle.volume_def.specs.Files.{Content, Part, Record, Records, content_runs, file_of, is_base, is_of, part_of, part_runs}
use Rattle.volume_def.specs.Files.{parts, record_on, records_of}
use Rattle.volume_def.specs.ListsClause.{HasRightList}
use Rattle.volume_def.specs.OwnersClause.{times_owned}
use Rattle.volume_def.specs.Readable.{IsFile, IsReadableVolume}
use Rattle.volume_def.specs.Sound as clauses
use Rattle.volume_def.specs.Table.{IsWellFormed, TableLayout, cluster_bytes}
use Rattle.volume_def.specs.View.{VolumeView}
use Rattle.volume_edits.proofs.OwnerLaws.{owned-once}
use Rattle.file_record.specs.Attributes.{RemovesAttribute}
use Rattle.file_record.specs.Records.{IsRecordOf}
use Rattle.record_edits.specs.Given.{AreOwned, GivesBack}
use Rattle.record_edits.specs.Owners.{is_at}
use Rattle.record_edits.proofs.RunTimes.{times-clusters}
use Rattle.value_edits.proofs.Below.{marks-right, right_marks}
use Rattle.extent_edits.specs.Cut.{CutsExtent}
use Rattle.sparse_io.specs.declared.find.FoundStream.{FoundStream}
use Rattle.tree_edit.specs.Below.{IsInitialized}
use Rattle.tree_model.specs.Streams.{resized}
use Rattle.tree_edit.proofs.Below.{at-among, node-file}
use Rattle.value_edits.specs.ValueEdits.{EndsBy, IsStreamOf, PutsGiving, no_gain}
use Rattle.value_edits.proofs.EditedRecord.{ready-sound}
use Rattle.value_edits.proofs.CutCalls.{cut-given}
use Rattle.value_edits.proofs.ExtentCalls.{removed-given}
use Rattle.value_edits.proofs.GivenBack as given
use Rattle.tree_edit.specs.Change.{RemovesPart}
use Rattle.tree_edit.specs.Links.{CanWrite, CanWriteFile}
use Rattle.tree_edit.proofs.LinkLaws.{initialized}
use Rattle.stream_changes.specs.Streams.{CanGive, CutsPart}

-- CLUSTERS BEHIND some of a stream are its own.
pub behind-times : (given runs : List Run) (count : ℕ) → clusters_of given ≡ drop count (clusters_of runs) → (c : ℕ)
    → times_covered given c ≤ times_covered runs c
behind-times given runs count behind c =
    let all = clusters_of runs in
    let whole = ap (count_by (is_at c)) (take-append-drop count all) in
    let split = sum_by-append (λ x. cond (is_at c x) 1 0) (take count all) (drop count all) in
    let its = times-clusters given c ∙ ap (count_by (is_at c)) behind in
    omega (arith, times-clusters runs c, whole, split, its)

pub behind-owned : (view : VolumeView) (given runs : List Run) (count : ℕ) → clusters_of given ≡ drop count (clusters_of runs)
    → AreOwned view runs → AreOwned view given
behind-owned view given runs count behind owned c =
    let few = behind-times given runs count behind c in
    let all = owned c in
    omega (arith, few, all)

-- WHERE THEY WERE GIVEN BACK, the file can be read and its record written, as before.
module _ (old mid : VolumeView) (f : ℕ) (can : CanWriteFile old f) (runs : List Run) (gives : GivesBack old mid runs)
    (owned : AreOwned old runs) where
  pub records-mid : records_of mid ≡ records_of old
  records-mid = given.records-same old mid runs gives

  pub readable-mid : IsReadableVolume mid
  readable-mid = (given.ready-back old mid runs gives (right_marks old)
      (ready-sound old (right_marks old) can.can.sound can.can.apart (marks-right old)) owned).editable.readable

  pub file-mid : IsFile mid f
  file-mid = subst (λ (r : Records). IsSomeAnd (r.record_at f) (λ its. IsTrue (is_base its))) (sym records-mid)
      (node-file old f can.node can.can.there)

  pub apart-mid : IsApart mid.layout
  apart-mid = subst IsApart (sym gives.writes.layout) can.write.apart

  write-mid : CanWrite mid
  write-mid = record {
    apart = apart-mid;
    written = λ n used. subst (λ (l : TableLayout). 1024 * n + 1024 ≤ l.initialized) (sym gives.writes.layout)
        (can.write.written n (subst (λ (r : Records). IsTrue (is_some (r.record_at n))) records-mid used));
  }

  pub initialized-mid : IsInitialized mid f
  initialized-mid = initialized mid f write-mid

  -- records of the file are so still
  pub own-back : (n : ℕ) → IsRecordOf mid f n → IsRecordOf old f n
  own-back n own = record {
    belongs = subst (λ (r : Records). IsSomeAnd (r.record_at n) (λ its. file_of n its ≡ f)) records-mid own.belongs;
    well_formed = subst IsWellFormed (gives.writes.blocks n) own.well_formed;
  }

-- A STREAM THAT CAN GIVE ITS CLUSTERS BACK
module _ (old : VolumeView) (found : FoundStream) (f : ℕ) (can : CanGive old found f) where
  among : Contains (parts (records_of old) f) can.part
  among = at-among (parts (records_of old) f) found.part can.part can.at

  pub runs-are : content_runs can.part.content ≡ Some can.runs
  runs-are = ap content_runs can.is

  pub part-runs : part_runs can.part ≡ can.runs
  part-runs = ap (λ (content : Content). unwrap_or (content_runs content) []) can.is

  pub runs-owned : AreOwned old can.runs
  runs-owned c = subst (λ (runs : List Run). times_covered runs c ≤ times_owned (records_of old) c) part-runs
      (owned-once old f can.part c among)

  -- all its parts stand in its base record
  pub alone : (n : ℕ) → IsRecordOf old f n → n ≡ f
  alone n is =
      let own = some-value (record_on old n) (λ r. file_of n r ≡ f) is.belongs in
      let right = listed (record_on old f) (node-file old f can.named.can.node can.named.can.can.there)
      (can.named.can.can.sound clauses.Lists f) in
      subst (λ (o : Option Record). IfSome o (λ r. file_of n r ≡ f → n ≡ f)) own.1 (right.alone can.one.no_list n) own.2
    where
      listed : (o : Option Record) → IsSomeAnd o (λ r. IsTrue (is_base r))
          → IfSome o (λ r. IsTrue (is_base r) → HasRightList old f (parts (records_of old) f))
          → HasRightList old f (parts (records_of old) f)
      listed None is lists = absurd is
      listed (Some r) is lists = lists is

  itself : is_of DATA can.named.name can.part ≡ true
  itself = (Contains-from_filter (is_of DATA can.named.name) (parts (records_of old) f) can.part
      (subst (λ (ps : List Part). Contains ps can.part) (sym can.alone) (Contains-head can.part []))).1

  pub part-kind : can.part.kind ≡ DATA
  part-kind = eqb-true can.part.kind DATA (and_parts (can.part.kind == DATA) (bytes_eq can.part.name can.named.name) itself).0

  -- a part that is it is a stream of its name
  pub is-stream : (n : ℕ) (was : Attribute) → part_of n was ≡ can.part → IsStreamOf can.named.name was
  is-stream n was is = record {
    kind = ap (λ (p : Part). p.kind) is ∙ part-kind;
    name_is = ap (λ (p : Part). p.name) is ∙ (bytes_eq-Decides can.part.name can.named.name).0
        (and_parts (can.part.kind == DATA) (bytes_eq can.part.name can.named.name) itself).1;
  }

  module _ (mid new : VolumeView) (given : List Run) (gives : GivesBack old mid given) (owned : AreOwned old given) where
    -- it went
    pub extent-gone : clusters_of given ≡ clusters_of can.runs → RemovesPart mid new f can.part
        → PutsGiving old new f can.named.name None no_gain given []
    extent-gone all r =
        subst (λ n. (e : RemovesAttribute mid new n r.i) → part_of n e.was ≡ can.part
        → PutsGiving old new f can.named.name None no_gain given [])
        (sym (alone r.n (own-back old mid f can.named.can given gives owned r.n r.own)))
        (λ e is. removed-given old mid new f r.i can.named.can.node can.named.name given gives e can.named.can.can can.one
        (is-stream f e.was is) (can.alone ∙ ap (λ (p : Part). p ∷ []) (sym is))
        (λ c. times-clusters given c ∙ ap (count_by (is_at c)) all ∙ sym (times-clusters can.runs c)
        ∙ ap (λ (runs : List Run). times_covered runs c) (sym (ap part_runs is ∙ part-runs))))
        r.removes r.is

    -- it was cut, and no cluster of it lies behind its end
    pub extent-shorter : (size : ℕ) → clusters_of given ≡ drop (clusters_for size (cluster_bytes old.layout)) (clusters_of can.runs)
        → CutsPart mid new f can.part size
        → PutsGiving old new f can.named.name (Some (resized size can.named.held)) no_gain given [] × EndsBy new f can.named.name size
    extent-shorter size all r =
        subst (λ n. (e : CutsExtent mid new n r.i size) → part_of n e.was ≡ can.part
        → PutsGiving old new f can.named.name (Some (resized size can.named.held)) no_gain given [] × EndsBy new f can.named.name size)
        (sym (alone r.n (own-back old mid f can.named.can given gives owned r.n r.own)))
        (λ e is. cut-given old mid new f r.i size can.named.can.node can.named.asked can.named.name can.named.held given gives e
        can.named.can.can can.named.finds can.one (is-stream f e.was is) (can.alone ∙ ap (λ (p : Part). p ∷ []) (sym is))
        (all ∙ ap (λ (runs : List Run). drop (clusters_for size (cluster_bytes old.layout)) (clusters_of runs))
        (some_same (sym runs-are ∙ ap (λ (p : Part). content_runs p.content) (sym is) ∙ ap content_runs e.cut.can.is))))
        r.cuts r.is
