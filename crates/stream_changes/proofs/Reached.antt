-- BYTES GO OVER THOSE OF A STREAM, or right behind them: a run is taken where it needs one, they are put into its clusters, its record is
-- edited, and then the attributes of its file are set.
use Rattle.std.proofs.Common.{◌≡◌, ◌⊎◌, ◌+◌, ◌*◌, ◌-◌, ◌/◌, ◌%◌, ◌^◌, ◌<◌, ◌≤◌, ◌++◌, ℕ, Bool, true, List, [], ◌∷◌, Option, None, Some}
use Rattle.std.proofs.Common.{length, max, refl, sym, ap, subst, inl, inr, ◌∙◌, arith}
use Rattle.std.specs.List.{Contains, range_with_len}
use Rattle.std.specs.Option.{option_to_list}
use Rattle.std.specs.Prelude.{IfSome, IsSomeAnd, IsTrue, slice_get, sum_by}
use Rattle.std.proofs.lemmas.Bool.{and_parts, both_ways, cases_lt, or_left}
use Rattle.std.proofs.lemmas.Nat.{mod_below}
use Rattle.list_laws.proofs.MemberLaws.{Contains-flat_map, Contains-from_flat_map, Contains-nil, Contains-only}
use Rattle.vol_disk.specs.declared.Disk.{Ghosts}
use Rattle.ntfs_def.specs.Attribute.{ExtentHeader}
use Rattle.ntfs_def.specs.Rounded.{clusters_for}
use Rattle.ntfs_def.specs.Runs.{spot_of, total_clusters}
use Rattle.ntfs_def.specs.declared.kinds.TheConstants.{DATA}
use Rattle.ntfs_def.specs.declared.run_text.Run.{Run}
use Rattle.ntfs_def.specs.declared.run_text.Spot.{Spot}
use Rattle.ntfs_def.specs.declared.run_text.Spot.TheVariants.{At, Hole, Outside}
use Rattle.volume_def.specs.Blocks.{place_at}
use Rattle.volume_def.specs.Coverage.{IsApart, times_covered}
use Rattle.volume_def.specs.FileNames.{names_of}
use Rattle.volume_def.specs.Files.{Part, Records, content_runs, part_of, parts, parts_at, records_of}
use Rattle.volume_def.specs.OwnersClause.{times_owned}
use Rattle.volume_def.specs.Readable.{IsFile, WhereReadable}
use Rattle.volume_def.specs.Table.{TableLayout, cluster_bytes}
use Rattle.volume_def.specs.Values.{pieces_touched, spot_at}
use Rattle.volume_def.specs.View.{VolumeView}
use Rattle.volume_def.proofs.RunPieces.{spot_of-back, spot_of-front}
use Rattle.volume_def.proofs.RunPlaces.{times_in-spot_of}
use Rattle.volume_edits.specs.Clusters.{IsOwnStream, IsPlaced, WritesStream, stream_place}
use Rattle.mft_table.specs.declared.mft.Mft.{Mft}
use Rattle.mft_table.specs.InUse.{IsInUse, IsSoundVolume}
use Rattle.mft_table.specs.Mft.{KeepsDisk, mounted_of, view}
use Rattle.mft_table.specs.Staging.{record_places}
use Rattle.mft_table.specs.declared.mounted.Mounted.{Mounted}
use Rattle.file_record.specs.Held.{parts_held}
use Rattle.file_record.specs.Records.{IsRecordOf}
use Rattle.file_record.specs.Written.{PartHeld}
use Rattle.file_record.specs.declared.parts.FileParts.{FileParts}
use Rattle.edit_def.specs.Purses.{run_size}
use Rattle.record_edits.specs.Given.{TakesRuns}
use Rattle.extent_edits.specs.Extended.{ExtendsExtent}
use Rattle.sparse_io.specs.Overwritten.{touched_sectors}
use Rattle.sparse_io.specs.declared.find.FoundStream.{FoundStream}
use Rattle.tree_model.specs.StreamRoom.{new_clusters, touches}
use Rattle.tree_model.specs.Streams.{written}
use Rattle.tree_model.specs.Ways.{goes_behind, has_placed_bits}
use Rattle.stored_bits.specs.Given.{IsOfBits}
use Rattle.stored_bits.specs.Taken.{IsUnownedRun}
use Rattle.stored_bits.proofs.FreeRuns.{flags-kept}
use Rattle.tree_edit.specs.Below.{IsInitialized, SetsAttributes, StagesRecordOf}
use Rattle.tree_edit.specs.Links.{CanWriteFile}
use Rattle.tree_edit.specs.Staged.{IsOfFile, IsOfNames, IsOfStreams, StagesAttributes, StagesFew, TellsStored}
use Rattle.tree_edit.specs.Write.{can_go_behind, has_run_for}
use Rattle.tree_edit.proofs.StagedLaws.{few-more, few-standard, few-then}
use Rattle.value_edits.specs.ValueEdits.{NeedsRun, PutsBytes, PutsGiving, WritesBehind, gained_by_write}
use Rattle.value_edits.proofs.GivenBack.{none-covered, nothing-given}
use Rattle.value_edits.proofs.LongerStreams.{written-put}
use Rattle.stream_changes.specs.Reached.{CannotReach, NeedsFor, ReachesWith}
use Rattle.stream_changes.specs.Staged.{IsOfFree, IsOfGiving, StagesGiving}
use Rattle.stream_changes.specs.Streams.{CanGive, CanReach, ExtendsPart, ExtendsPartWhereItCan, FindsNamed}
use Rattle.stream_changes.proofs.BehindVolume as volume
use Rattle.stream_changes.proofs.Changed as changed
use Rattle.stream_changes.proofs.ExtentLaws.{alone, is-stream, runs-are}
use Rattle.stream_changes.proofs.Lengthened.{same-extent}
use Rattle.stream_changes.proofs.ReachLaws as reach

-- THE RUN, where there is one
if-all : {P Q : Run → Type 0} (run : Option Run) → ((r : Run) → P r → Q r) → IfSome run P → IfSome run Q
if-all None all its = tt
if-all (Some run) all its = all run its

run-inside : (v : VolumeView) (run : Option Run) → IfSome run (IsUnownedRun v) → (c : ℕ) → 1 ≤ times_covered (option_to_list run) c
    → (c < v.layout.clusters) × (times_owned (records_of v) c ≡ 0)
run-inside v None free c got = absurd (none-covered c got)
run-inside v (Some run) free c got = (free.inside c got, free.unowned c got)

run-needed : (v : VolumeView) (runs : List Run) (end : ℕ) (run : Option Run)
    → NeedsFor (total_clusters runs) (clusters_for end (cluster_bytes v.layout)) run → IfSome run (NeedsRun v runs end)
run-needed v runs end None needs = tt
run-needed v runs end (Some run) needs = record { placed = needs.placed; some = needs.new.some; len = needs.len }

-- A SECTOR of those that bytes touch lies in a cluster of the stream, or of the run.
place-cluster : (layout : TableLayout) (k : ℕ) (spot : Spot) (sector : ℕ) → Contains (option_to_list (place_at layout k spot)) sector
    → (c : ℕ) × (spot ≡ At c) × (sector ≡ c * layout.cluster_sectors + k % layout.cluster_sectors)
place-cluster layout k Outside sector c = absurd (Contains-nil sector c)
place-cluster layout k Hole sector c = absurd (Contains-nil sector c)
place-cluster layout k (At c) sector among =
    (c, refl, sym (Contains-only (c * layout.cluster_sectors + k % layout.cluster_sectors) sector among))

module _ (v : VolumeView) (found : FoundStream) (f : ℕ) (give : CanGive v found f) (run : Option Run) (free : IfSome run (IsUnownedRun v))
    (at len : ℕ) (sector : ℕ) where
  abbrev all : List Run
  all = give.runs ++ option_to_list run

  abbrev many : ℕ
  many = 512 * pieces_touched at len

  of-one : (k : ℕ) → Contains (range_with_len (at / 512) (many / 512)) k
      → Contains (option_to_list (stream_place v.layout (spot_of all) k)) sector → IsOfFree v sector ⊎ IsOfStreams v f sector
  of-one k among there = elim (cases_lt (k / v.layout.cluster_sectors) (total_clusters give.runs)) [
    | inl low ↦
        let same : spot_of all (k / v.layout.cluster_sectors) ≡ spot_at (parts_at v f DATA give.named.name) (k / v.layout.cluster_sectors) =
        spot_of-front give.runs (option_to_list run) (k / v.layout.cluster_sectors) low
        ∙ sym (reach.spots-are v found f give (k / v.layout.cluster_sectors)) in
        inr (
          give.named.name,
          at,
          many,
          Contains-flat_map (λ k. option_to_list (stream_place v.layout (spot_at (parts_at v f DATA give.named.name)) k))
              (range_with_len (at / 512) (many / 512)) k sector among
              (subst (λ s. Contains (option_to_list (place_at v.layout k s)) sector) same there),
        )
    | inr past ↦
        let its = place-cluster v.layout k (spot_of all (k / v.layout.cluster_sectors)) sector there in
        let covered = times_in-spot_of (option_to_list run) (k / v.layout.cluster_sectors - total_clusters give.runs) its.0
        (sym (spot_of-back give.runs (option_to_list run) (k / v.layout.cluster_sectors) past) ∙ its.1) in
        let out = run-inside v run free its.0 covered in
        let below = mod_below k v.layout.cluster_sectors give.named.can.can.apart.some in
        let is = its.2 in
        inl (record {
          cluster = its.0;
          inside = out.0;
          unowned = out.1;
          low = omega (arith, is);
          high = omega (arith, is, below);
        })
  ]

  touched-of : Contains (touched_sectors v.layout (spot_of (give.runs ++ option_to_list run)) at len) sector
      → IsOfFree v sector ⊎ IsOfStreams v f sector
  touched-of among =
      let its = Contains-from_flat_map (λ k. option_to_list (stream_place v.layout (spot_of all) k))
      (range_with_len (at / 512) (many / 512)) sector among in
      of-one its.0 its.1 its.2

-- WHAT THE CALLS SAY of the runs, by those of the part that is held
held-runs : (v : VolumeView) (found : FoundStream) (f : ℕ) (give : CanGive v found f) (held : FileParts)
    → parts_held held ≡ parts (records_of v) f → PartHeld held found.part (λ part. content_runs part.content ≡ Some give.runs)
held-runs v found f give held are =
    subst (λ (o : Option Part). IsSomeAnd o (λ part. content_runs part.content ≡ Some give.runs))
    (sym (ap (λ (ps : List Part). slice_get ps found.part) are ∙ give.at)) (runs-are v found f give)

pub reaches-held : (v : VolumeView) (found : FoundStream) (f end clusters : ℕ) (give : CanGive v found f) (held : FileParts)
    (flags : List Bool) (run : Option Run) (all : List Run) → parts_held held ≡ parts (records_of v) f
    → clusters ≡ clusters_for end (cluster_bytes v.layout)
    → ((runs : List Run) → PartHeld held found.part (λ part. content_runs part.content ≡ Some runs)
    → ReachesWith flags runs clusters run all) → ReachesWith flags give.runs (clusters_for end (cluster_bytes v.layout)) run all
reaches-held v found f end clusters give held flags run all are many tells =
    subst (λ n. ReachesWith flags give.runs n run all) many (tells give.runs (held-runs v found f give held are))

-- A RUN OF AS MANY AS IT NEEDS is always there, and they can be told.
pub reaches-never : (v : VolumeView) (found : FoundStream) (f at len clusters : ℕ) (can : CanReach v found f at len) (held : FileParts)
    (mounted : Mounted) → IsSoundVolume v mounted → 0 < len → at + len ≤ 2 ^ 40 → parts_held held ≡ parts (records_of v) f
    → clusters ≡ clusters_for (at + len) (cluster_bytes v.layout)
    → ((runs : List Run) → PartHeld held found.part (λ part. content_runs part.content ≡ Some runs)
    → CannotReach mounted.clusters runs clusters) → ⊥
reaches-never v found f at len clusters can held mounted sound some near are many tells = by
    (subst (λ n. CannotReach mounted.clusters can.give.runs n) many (tells can.give.runs (held-runs v found f can.give held are)))
  where
    goes : (goes_behind (cluster_bytes v.layout) (can.give.part ∷ []) at len ≡ true)
        × (has_run_for v f (new_clusters (cluster_bytes v.layout) (can.give.part ∷ []) at len) ≡ true)
    goes = and_parts _ _ (subst (λ (ps : List Part). can_go_behind v f ps at len ≡ true) can.give.alone can.goes)

    by : CannotReach mounted.clusters can.give.runs (clusters_for (at + len) (cluster_bytes v.layout)) → ⊥
    by (inl (fewer, none)) =
        let has = reach.reach-has v found f can.give at len goes.0 some fewer goes.1 in
        both_ways _ (none v (flags-kept v mounted sound)) has.1
    by (inr far) =
        let size = cluster_bytes v.layout in
        let positive = reach.positive v found f can.give in
        let most : clusters_for (at + len) size ≤ at + len = reach.few-clusters (at + len) size positive in
        absurd (omega (arith, most, near, far))

module _ {D : Type 0} (g : Ghosts D) (found : FoundStream) (f at : ℕ) (bytes : List ℕ) (run : Option Run) (all : List Run)
    (a back filled : Mft D g) (in_use : IsInUse g a) (near : at + length bytes ≤ 2 ^ 40)
    (can : IsTrue (view g a).told → CanReach (view g a) found f at (length bytes)) (some : IsTrue (view g a).told → 0 < length bytes)
    (reaches : (t : IsTrue (view g a).told) → ReachesWith (mounted_of g a).clusters (can t).give.runs
    (clusters_for (at + length bytes) (cluster_bytes (view g a).layout)) run all)
    (taken : IsTrue (view g a).told → has_placed_bits (view g a) ≡ true → IfSome run (IsUnownedRun (view g a))
    → TakesRuns (view g a) (view g back) (option_to_list run))
    (wrote : IsTrue (view g back).told → IsApart (view g back).layout → IsOwnStream (view g back).layout (spot_of all)
    → IsPlaced (cluster_bytes (view g back).layout) (spot_of all) at (length bytes)
    → WritesStream (view g back) (view g filled) (spot_of all) at bytes) where
  abbrev old : VolumeView
  old = view g a

  abbrev size : ℕ
  size = cluster_bytes (view g a).layout

  abbrev give : (t : IsTrue (view g a).told) → CanGive (view g a) found f
  give t = (can t).give

  unowned : (t : IsTrue (view g a).told) → IfSome run (IsUnownedRun (view g a))
  unowned t = if-all run (λ r free. free old (flags-kept old (mounted_of g a) (in_use t))) (reaches t).unowned

  takes : (t : IsTrue (view g a).told) → TakesRuns (view g a) (view g back) (option_to_list run)
  takes t = taken t (give t).placed (unowned t)

  goes : (t : IsTrue (view g a).told) → (goes_behind size ((give t).part ∷ []) at (length bytes) ≡ true)
      × (has_run_for old f (new_clusters size ((give t).part ∷ []) at (length bytes)) ≡ true)
  goes t = and_parts _ _ (subst (λ (ps : List Part). can_go_behind old f ps at (length bytes) ≡ true) (give t).alone (can t).goes)

  writes : (t : IsTrue (view g a).told)
      → WritesStream (view g back) (view g filled) (spot_of ((give t).runs ++ option_to_list run)) at bytes
  writes t =
      let r = reaches t in
      let layout = (takes t).writes.layout in
      let all_runs = (give t).runs ++ option_to_list run in
      subst (λ (runs : List Run). IsTrue (view g back).told → IsApart (view g back).layout → IsOwnStream (view g back).layout (spot_of runs)
      → IsPlaced (cluster_bytes (view g back).layout) (spot_of runs) at (length bytes)
      → WritesStream (view g back) (view g filled) (spot_of runs) at bytes) r.all_are wrote
      ((takes t).writes.told ∙ t) (subst IsApart (sym layout) (give t).named.can.write.apart)
      (subst (λ (l : TableLayout). IsOwnStream l (spot_of all_runs)) (sym layout) (reach.reach-own old found f (give t) run (unowned t)))
      (subst (λ (l : TableLayout). IsPlaced (cluster_bytes l) (spot_of all_runs) at (length bytes)) (sym layout)
      (reach.reach-placed old found f (give t) at (length bytes) (goes t).0 (some t) run r.needs))

  inside : (t : IsTrue (view g a).told) (c : ℕ) → 1 ≤ times_covered (option_to_list run) c → c < (view g a).layout.clusters
  inside t c got = (run-inside old run (unowned t) c got).0

  free : (t : IsTrue (view g a).told) (c : ℕ) → 1 ≤ times_covered (option_to_list run) c → times_owned (records_of (view g a)) c ≡ 0
  free t c got = (run-inside old run (unowned t) c got).1

  records : (t : IsTrue (view g a).told) → records_of (view g filled) ≡ records_of (view g a)
  records t = volume.records-mid old (view g back) (view g filled) f (give t).named.name (give t).named.can
      (give t).one.may (give t).runs run
      at bytes (reach.spots-are old found f (give t)) (takes t) (writes t) (inside t) (free t)

  layout : (t : IsTrue (view g a).told) → (view g filled).layout ≡ (view g a).layout
  layout t = (writes t).layout ∙ (takes t).writes.layout

  blocks : (t : IsTrue (view g a).told) (n : ℕ) → (view g filled).block n ≡ (view g a).block n
  blocks t n = (writes t).blocks n ∙ (takes t).writes.blocks n

  told-filled : IsTrue (view g a).told → IsTrue (view g filled).told
  told-filled t = (writes t).told ∙ (takes t).writes.told ∙ t

  behind : (t : IsTrue (view g a).told) → WritesBehind (view g a) (view g back) (view g filled) (give t).runs run at bytes
  behind t = record {
    takes = takes t;
    writes = writes t;
    needs = run-needed old (give t).runs (at + length bytes) run (reaches t).needs;
    inside = inside t;
    unowned = free t;
    some = some t;
    near = near;
    room = reach.reach-room old found f (give t) at (length bytes) (goes t).0 (some t) run (reaches t).needs;
  }

  module _ (m : Mft D g) (real initialized_then : ℕ) (kept : KeepsDisk g back filled) (then : KeepsDisk g filled m)
      (stored : IsTrue (view g a).told → has_placed_bits (view g a) ≡ true → IfSome run (IsUnownedRun (view g a)) → TellsStored g back)
      (same_told : (view g back).told ≡ (view g a).told)
      (real_is : (t : IsTrue (view g a).told) → real ≡ max (can t).give.extent.sizes.real (at + length bytes))
      (initialized_is : (t : IsTrue (view g a).told) → initialized_then ≡ max (can t).give.extent.sizes.initialized (at + length bytes))
      (done : Bool)
      (tells : WhereReadable (view g filled) (IsFile (view g filled) f → IsApart (view g filled).layout → IsInitialized (view g filled) f
      → (part : Part) → slice_get (parts (records_of (view g filled)) f) found.part ≡ Some part
      → ExtendsPartWhereItCan done (view g filled) (view g m) f part real initialized_then run)) where
    of-part : (t : IsTrue (view g a).told)
        → ExtendsPartWhereItCan done (view g filled) (view g m) f (give t).part real initialized_then run
    of-part t =
        let c = give t in
        let file = c.named.can in
        tells (told-filled t)
        (volume.readable-mid old (view g back) (view g filled) f c.named.name file c.one.may c.runs run at bytes
        (reach.spots-are old found f c) (takes t) (writes t) (inside t) (free t))
        (volume.file-still old (view g filled) f file (records t) (layout t) (blocks t))
        (volume.apart-still old (view g filled) f file (records t) (layout t) (blocks t))
        (volume.initialized-still old (view g filled) f file (records t) (layout t) (blocks t)) c.part
        (ap (λ (r : Records). slice_get (parts r f) found.part) (records t) ∙ c.at)

    own : (t : IsTrue (view g a).told) (n : ℕ) → IsRecordOf (view g filled) f n → n ≡ f
    own t n is = alone old found f (give t) n
        (volume.own-still old (view g filled) f (give t).named.can (records t) (layout t) (blocks t) n is)

    module _ (does : done ≡ true) where
      abbrev named : IsTrue (view g a).told → FindsNamed (view g a) f
      named t = (can t).give.named

      abbrev gains : ℕ → Bool
      gains = touches (cluster_bytes (view g a).layout) at (length bytes)

      puts : (t : IsTrue (view g a).told)
          → PutsGiving (view g a) (view g m) f (named t).name (Some (written at bytes (named t).held)) gains [] (option_to_list run)
      puts t =
          let c = give t in
          let r : ExtendsPart (view g filled) (view g m) f c.part real initialized_then run =
          subst (λ d. ExtendsPartWhereItCan d (view g filled) (view g m) f c.part real initialized_then run) does (of-part t) in
          subst (λ n. (e : ExtendsExtent (view g filled) (view g m) n r.i real initialized_then run) → part_of n e.was ≡ c.part
          → PutsGiving (view g a) (view g m) f c.named.name (Some (written at bytes c.named.held)) gains [] (option_to_list run))
          (sym (own t r.n r.own))
          (λ e is.
          let same = same-extent e.extended.can.extent c.extent e.extended.can.runs c.runs
          (sym e.extended.can.is ∙ ap (λ (p : Part). p.content) is ∙ c.is) in
          written-put old (view g back) (view g filled)
          (view g m) f r.i c.named.can.node c.named.asked c.named.name c.named.held run at real
          initialized_then bytes e c.named.can.can c.named.finds c.one (is-stream old found f c f e.was is)
          (c.alone ∙ ap (λ (p : Part). p ∷ []) (sym is))
          (subst (λ (runs : List Run). WritesBehind old (view g back) (view g filled) runs run at bytes) (sym same.1) (behind t))
          (subst (λ (h : ExtentHeader). at ≤ h.sizes.initialized) (sym same.0)
          (reach.low old found f c at (length bytes) (goes t).0))
          (real_is t ∙ ap (λ (h : ExtentHeader). max h.sizes.real (at + length bytes)) (sym same.0))
          (initialized_is t ∙ ap (λ (h : ExtentHeader). max h.sizes.initialized (at + length bytes)) (sym same.0)))
          r.extends r.is

      told-back : IsTrue (view g back).told → IsTrue (view g a).told
      told-back t = sym same_told ∙ t

      stored-back : TellsStored g back
      stored-back t = stored (told-back t) (give (told-back t)).placed (unowned (told-back t)) t

      same : (view g m).told ≡ (view g a).told
      same = then.goes_on.told_image ∙ kept.goes_on.told_image ∙ same_told

      mounted : mounted_of g m ≡ mounted_of g back
      mounted = then.mounted ∙ kept.mounted

      pub reach-in-use : IsInUse g m
      reach-in-use = changed.in-use g f a back m named (λ held. Some (written at bytes held)) gains (λ t. []) (λ t. option_to_list run)
          (λ t. view g a) (λ t. nothing-given (view g a)) takes stored-back mounted same puts

      pub reach-can-write : IsTrue (view g m).told → CanWriteFile (view g m) f
      reach-can-write = changed.can-write g f a back m named (λ held. Some (written at bytes held)) gains (λ t. [])
          (λ t. option_to_list run)
          (λ t. view g a) (λ t. nothing-given (view g a)) takes stored-back mounted same puts

      abbrev may_gain : IsTrue (view g a).told → ℕ → Bool
      may_gain t = gained_by_write (cluster_bytes (view g a).layout) (parts_at (view g a) f DATA (named t).name) at (length bytes)

      module _ (b : Mft D g) (times : List ℕ) (flags : ℕ)
          (sets : IsTrue (view g m).told → SetsAttributes (view g m) (view g b) f times flags) where
        pub reach-put : (t : IsTrue (view g a).told)
            → PutsBytes (view g a) (view g b) f (can t).give.named.name at bytes (can t).give.named.held times flags
        reach-put t = changed.put-of old (view g m) (view g b) f (named t).name (Some (written at bytes (named t).held)) (may_gain t) []
            (option_to_list run) (new_clusters size (parts_at old f DATA (named t).name) at (length bytes)) times flags
            (changed.put-gaining old (view g m) f (named t).name (Some (written at bytes (named t).held)) gains (may_gain t)
            (λ vcn is. or_left (gains vcn) _ is) [] (option_to_list run) (puts t))
            (subst (λ (ps : List Part). sum_by run_size (option_to_list run) ≤ new_clusters size ps at (length bytes)) (sym (give t).alone)
            (reach.reach-few old found f (give t) at (length bytes) (goes t).0 (some t) run (reaches t).needs))
            (sets (same ∙ t))

        pub reach-staged : StagesFew g (2 * sum_by run_size (option_to_list run)) (IsOfBits (view g a)) a back
            → StagesFew g (length bytes / 512 + 2) (λ s. Contains (touched_sectors (view g back).layout (spot_of all) at (length bytes)) s)
            back filled
            → StagesRecordOf g f filled m
            → (IsTrue (view g m).told → StagesAttributes g f (names_of (records_of (view g m)) f) m b)
            → IsTrue (view g a).told → StagesGiving g (10 + length bytes / 512) f (view g a) a b
        reach-staged bits over record_of later t =
            let size_of = sum_by run_size (option_to_list run) in
            let names = names_of (records_of old) f in
            let first = few-then g (2 * size_of) (length bytes / 512 + 2) (2 * size_of + (length bytes / 512 + 2)) (IsOfGiving old f)
            (IsOfBits old) (λ s. Contains (touched_sectors (view g back).layout (spot_of all) at (length bytes)) s) a back filled bits over
            (omega arith) (λ s of. inr (inl of)) (λ s of. of-touched t s of) in
            let next = few-then g (2 * size_of + (length bytes / 512 + 2)) 4 (2 * size_of + (length bytes / 512 + 6)) (IsOfGiving old f)
            (IsOfGiving old f) (IsOfFile (view g filled) f) a filled m first (few-standard g f filled m record_of (told-filled t))
            (omega arith) (λ s of. of) (λ s of. inr (inr (inr (inl (file-back t s of))))) in
            record {
              given = 0;
              freed = omega arith;
              taken = size_of;
              owned = changed.owned-then g f a back m named (λ held. Some (written at bytes held)) gains (λ t. []) (λ t. option_to_list run)
                  (λ t. view g a) (λ t. nothing-given (view g a)) takes stored-back mounted same puts b times flags sets t refl;
              stages = few-more g (2 * size_of + (length bytes / 512 + 6) + (4 + 12 * length names))
                  (10 + length bytes / 512 + 12 * length names + 2 * 0 + 2 * size_of) (IsOfGiving old f)
                  (λ s. IsOfGiving old f s ⊎ (IsOfFile old f s ⊎ IsOfNames old names s)) a b
                  (changed.staged-then g f a back m named (λ held. Some (written at bytes held)) gains (λ t. []) (λ t. option_to_list run)
                  (λ t. view g a) (λ t. nothing-given (view g a)) takes stored-back mounted same puts b
                  (2 * size_of + (length bytes / 512 + 6)) (IsOfGiving old f) next later t) (omega arith)
                  (λ s of. elim of [ inl own ↦ own | inr other ↦ inr (inr (inr other)) ]);
            }
          where
            of-touched : (t : IsTrue (view g a).told) (s : ℕ)
                → Contains (touched_sectors (view g back).layout (spot_of all) at (length bytes)) s → IsOfGiving (view g a) f s
            of-touched t s among =
                let here = subst (λ (runs : List Run). Contains (touched_sectors old.layout (spot_of runs) at (length bytes)) s)
                (reaches t).all_are
                (subst (λ (l : TableLayout). Contains (touched_sectors l (spot_of all) at (length bytes)) s)
                (takes t).writes.layout among) in
                elim (touched-of old found f (give t) run (unowned t) at (length bytes) s here) [
                  | inl none ↦ inl none
                  | inr its ↦ inr (inr (inl its))
                ]

            file-back : (t : IsTrue (view g a).told) (s : ℕ) → IsOfFile (view g filled) f s → IsOfFile (view g a) f s
            file-back t s (n, is, among) = (
              n,
              volume.own-still old (view g filled) f (give t).named.can (records t) (layout t) (blocks t) n is,
              subst (λ (l : TableLayout). Contains (record_places l n) s) (layout t) among,
            )
