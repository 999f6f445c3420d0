-- THE CALLS that edit a stream in clusters: what each needs of the volume before; and that it goes, after its clusters were given back.
use Rattle.std.proofs.Common.{◌≡◌, ◌≤◌, ◌^◌, ◌==◌, ℕ, false, List, [], ◌∷◌, length, Option, Some, None, refl, sym, ap, subst, arith}
use Rattle.std.specs.List.{Contains}
use Rattle.std.specs.Prelude.{IfSome, IsFalse, IsSomeAnd, IsTrue}
use Rattle.std.proofs.lemmas.Bool.{and_left, and_right, ne_eqb, or_from}
use Rattle.std.proofs.lemmas.List.{append-nil}
use Rattle.std.proofs.lemmas.List.Elements.{All-contains}
use Rattle.list_laws.proofs.MemberLaws.{Contains-from_filter, Contains-head}
use Rattle.ntfs_def.specs.Attribute.{Attribute, ExtentHeader}
use Rattle.ntfs_def.specs.Fixup.{opened_of}
use Rattle.ntfs_def.specs.Record.{header_of}
use Rattle.ntfs_def.specs.declared.kinds.TheConstants.{DATA}
use Rattle.ntfs_def.specs.declared.records.TheConstants.{BAD_CLUSTERS, CLUSTER_BITMAP, MFT, MFT_MIRROR}
use Rattle.ntfs_def.specs.declared.run_text.Run.{Run}
use Rattle.volume_def.specs.AttributesClause.{IsRightRecord}
use Rattle.volume_def.specs.Coverage.{times_covered}
use Rattle.volume_def.specs.ExtentsClause.{bad_name, is_bad_stream}
use Rattle.volume_def.specs.Files.{Clusters, Content, Part, Record, Records, content_extent, is_base, is_of, part_of, part_runs, parts}
use Rattle.volume_def.specs.Files.{parts_at, record_on, records_of}
use Rattle.volume_def.specs.LimitsClause.{IsInLimits}
use Rattle.volume_def.specs.Sound as clauses
use Rattle.volume_def.specs.View.{VolumeView}
use Rattle.volume_edits.specs.Rewritten.{EditsBlock}
use Rattle.tree_model.specs.declared.tree.Node.{Node}
use Rattle.edit_def.specs.Edited.{is_table_key}
use Rattle.edit_def.specs.Kept.{key_of}
use Rattle.record_edits.specs.Given.{GivesBack}
use Rattle.record_edits.specs.InPlace.{is_bits_key}
use Rattle.record_edits.specs.Owners.{times_in}
use Rattle.record_edits.proofs.BlockEdits.{was-at}
use Rattle.record_edits.proofs.PlaceEdits.{same}
use Rattle.extent_edits.specs.Attributes.{RemovesAttribute}
use Rattle.stream_overwrites.specs.Below.{IsInOneRecord, record_there}
use Rattle.stream_overwrites.proofs.Below.{right-go}
use Rattle.stream_overwrites.proofs.ShownFile.{file, not-bad, not-bitmap, not-mirror, not-table}
use Rattle.extent_edits.specs.Cut.{KeepsRecord}
use Rattle.in_place_owed.specs.Below.{CanSet}
use Rattle.value_edits.specs.ValueEdits.{EditsAlone, IsStreamOf, PutsGiving, no_gain}
use Rattle.value_edits.proofs.AloneSteps.{header-same}
use Rattle.value_edits.proofs.EditedRecord as value
use Rattle.value_edits.proofs.Prepared.{given-prepared}
use Rattle.value_edits.proofs.ValueCalls.{no-standard}

-- THE RECORD is that of before, since no block was written.
module _ (old mid : VolumeView) (f : ℕ) (block : mid.block f ≡ old.block f) (records : records_of mid ≡ records_of old) where
  -- its header, kept from then on
  pub header-kept : (stored : List ℕ) → KeepsRecord (header_of (opened_of (mid.block f))) (header_of (opened_of stored))
      → KeepsRecord (header_of (opened_of (old.block f))) (header_of (opened_of stored))
  header-kept stored keeps =
      subst (λ (block : List ℕ). KeepsRecord (header_of (opened_of block)) (header_of (opened_of stored))) block keeps

  -- it was right
  pub right-mid : (new : VolumeView) (stored : List ℕ) (was now : List Attribute) → EditsBlock mid new f stored was now
      → clauses.IsSound old → IsRightRecord f (record_there mid f)
  right-mid new stored was now block sound =
      subst (λ o. IfSome o (IsRightRecord f)) (was-at mid new f stored was now block)
      (subst (λ (r : Records). IfSome (r.record_at f) (IsRightRecord f)) (sym records) (sound clauses.Attributes f))

-- A STREAM OF A FILE THAT IS SHOWN is no bitmap, nor the table or its mirror; an extent of one is within the limit.
if-base : (P : Type 0) (o : Option Record) → IsSomeAnd o (λ r. IsTrue (is_base r)) → IfSome o (λ r. IsTrue (is_base r) → P) → P
if-base P None is each = absurd is
if-base P (Some r) is each = each is

module _ (old : VolumeView) (f : ℕ) (node : Node) (name : List ℕ) (can : CanSet old f node) where
  pub no-bits : is_bits_key (key_of f DATA name) ≡ false
  no-bits = and_right (length name == 0) _ (ne_eqb f CLUSTER_BITMAP (not-bitmap old f node can.there))

  pub no-table : is_table_key (key_of f DATA name) ≡ false
  no-table = and_right (length name == 0) _
      (or_from (f == MFT) _ (ne_eqb f MFT (not-table old f node can.there)) (ne_eqb f MFT_MIRROR (not-mirror old f node can.there)))

  pub good : (part : Part) → IsFalse (is_bad_stream f part)
  good part = and_left (f == BAD_CLUSTERS) (is_of DATA bad_name part) (ne_eqb f BAD_CLUSTERS (not-bad old f node can.there))

  pub near : (part : Part) (extent : ExtentHeader) (runs : List Run) → part.kind ≡ DATA → parts_at old f DATA name ≡ part ∷ []
      → part.content ≡ Clusters extent (Some runs) → extent.sizes.first ≡ 0 → extent.sizes.real ≤ 2 ^ 40
  near part extent runs kind stood is first =
      let all = if-base _ (record_on old f) (file old f node can.there) (can.sound clauses.Limits f) in
      let among = Contains-from_filter (is_of DATA name) (parts (records_of old) f) part
      (subst (λ xs. Contains xs part) (sym stood) (Contains-head part [])) in
      let limits = All-contains (IsInLimits f) (parts (records_of old) f) part all among.0 in
      subst (λ (content : Content). IfSome (content_extent content) (λ extent. extent.sizes.first ≡ 0 → extent.sizes.real ≤ 2 ^ 40))
      is (limits kind (good part)) first

-- one part by itself has the clusters of its runs
pub times-one : (part : Part) (c : ℕ) → times_in (part ∷ []) c ≡ times_covered (part_runs part) c
times-one part c = ap (λ (runs : List Run). times_covered runs c) (append-nil (part_runs part))

-- IT GOES
pub removed-given : (old mid new : VolumeView) (f i : ℕ) (node : Node) (name : List ℕ) (given : List Run) → GivesBack old mid given
    → (e : RemovesAttribute mid new f i) → CanSet old f node → IsInOneRecord old f → IsStreamOf name e.was
    → parts_at old f DATA name ≡ part_of f e.was ∷ []
    → ((c : ℕ) → times_covered given c ≡ times_covered (part_runs (part_of f e.was)) c) → PutsGiving old new f name None no_gain given []
removed-given old mid new f i node name given gives e can one is stood all =
    let records = same is_bits_key old mid gives.writes in
    let edit : EditsAlone (key_of f DATA name) no_gain old new = record {
      one = one;
      kind = refl;
      was = e.was;
      now = None;
      was_of = record { kind = is.kind; name = is.name_is };
      stood = stood;
      given = given;
      taken = [];
      mid = mid;
      prepares = given-prepared (key_of f DATA name) old mid given gives;
      comes = tt;
      balance = λ c.
          let none : times_in [] c ≡ 0 = refl in
          let no_more : times_covered [] c ≡ 0 = refl in
          omega (arith, none, no_more, all c, times-one (part_of f e.was) c);
      stored = e.stored;
      block = e.edits;
      header = header-kept old mid f (gives.writes.blocks f) records e.stored (header-same _ _ e.header_is);
      right = right-go mid new f e.stored e.was e.edits
          (right-mid old mid f (gives.writes.blocks f) records new e.stored (e.was ∷ []) [] e.edits can.sound)
          (λ base. no-standard e.was is.kind);
    } in
    record {
      puts = record { edits = edit; shows = value.stands (key_of f DATA name) old new can.sound can.apart edit };
      given_are = refl;
      taken_are = refl;
    }
