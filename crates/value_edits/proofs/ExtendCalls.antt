-- A STREAM IN CLUSTERS THAT GETS LONGER: one run more, or none, and other sizes, after bytes were put into its clusters and the run's.
use Rattle.std.proofs.Common.{◌≡◌, ◌⊎◌, ◌+◌, ◌*◌, ◌-◌, ◌/◌, ◌%◌, ◌≤◌, ◌<◌, ◌^◌, ◌||◌, not, ℕ, Bool, true, false, cond, List, [], ◌∷◌, ◌++◌}
use Rattle.std.proofs.Common.{length, map, Some, Option}
use Rattle.std.proofs.Common.{refl, sym, ap, subst, inl, inr, ◌∙◌, arith}
use Rattle.std.specs.List.{range_with_len}
use Rattle.std.specs.Option.{option_to_list}
use Rattle.std.specs.Prelude.{IfSome, IsSome, nat_lt, slice_index, sum_by}
use Rattle.std.proofs.Math.Nat.{div-lt_iff_lt-mul}
use Rattle.std.proofs.lemmas.Bool.{both_ways, cases_lt, lt-ltb}
use Rattle.std.proofs.lemmas.List.{get_or_past}
use Rattle.list_laws.proofs.MemberLaws.{Contains-head}
use Rattle.list_laws.proofs.ReplacesLaws.{Replaces-stood}
use Rattle.list_laws.proofs.SameItemsLaws.{count-append}
use Rattle.ntfs_def.specs.Attribute.{ExtentHeader}
use Rattle.ntfs_def.specs.Fixup.{opened_of}
use Rattle.ntfs_def.specs.Flags.{is_packed, is_sparse}
use Rattle.ntfs_def.specs.Runs.{spot_of, total_clusters}
use Rattle.ntfs_def.specs.declared.kinds.TheConstants.{DATA}
use Rattle.ntfs_def.specs.declared.run_text.Run.{Run}
use Rattle.ntfs_def.specs.declared.run_text.Spot.{Spot}
use Rattle.ntfs_def.specs.declared.run_text.Spot.TheVariants.{At, Hole, Outside}
use Rattle.ntfs_def.specs.declared.sizes.Sizes.{Sizes}
use Rattle.volume_def.specs.AttributesClause.{is_kept_resident}
use Rattle.volume_def.specs.Coverage.{IsOutsideTable, has_cluster, times_covered}
use Rattle.volume_def.specs.ExtentsClause.{AreAttribute, FitExtents, is_bad_stream}
use Rattle.volume_def.specs.Files.{Content, Part, content_extent, part_of, parts_at, records_of}
use Rattle.volume_def.specs.LimitsClause.{IsInLimits}
use Rattle.volume_def.specs.Table.{TableLayout, cluster_bytes}
use Rattle.volume_def.specs.Values.{KeepsClusters, byte_there, first_part, spot_at, stored_byte}
use Rattle.volume_def.specs.View.{VolumeView}
use Rattle.volume_def.proofs.RunPieces.{spot_of-front}
use Rattle.volume_def.proofs.SoundLaws.{readable-sound}
use Rattle.tree_model.specs.StreamRoom.{is_cluster}
use Rattle.tree_model.specs.declared.tree.Node.{Node}
use Rattle.edit_def.specs.Kept.{Key, key_of}
use Rattle.edit_def.specs.Purses.{run_size}
use Rattle.session_def.specs.Nodes.{IsSpreadRight, IsSpreadSame, Spread, has_hole, spread_of}
use Rattle.record_edits.specs.Owners.{times_in}
use Rattle.record_edits.proofs.BlockEdits.{attribute-stays}
use Rattle.stream_overwrites.specs.Below.{IsInOneRecord}
use Rattle.stream_overwrites.specs.Overwritten.{FindsPlain}
use Rattle.stream_overwrites.proofs.Below.{right-put}
use Rattle.stream_overwrites.proofs.FoundStream as found
use Rattle.stream_overwrites.proofs.ShownFile.{file}
use Rattle.stream_overwrites.proofs.StreamParts as stream
use Rattle.stream_edits.specs.Streams.{ClusterStream, HasStream, ShowsBytes, ShowsList, byte_in, byte_of, extents_at, stream_of}
use Rattle.stream_edits.proofs.EditedStreams.{stream-held}
use Rattle.stream_edits.proofs.ShownLists.{list-shown}
use Rattle.stream_edits.proofs.ShownSteps.{past-init}
use Rattle.extent_edits.specs.Extended.{ExtendsExtent}
use Rattle.in_place_owed.specs.Below.{CanSet, LiesApart}
use Rattle.value_edits.specs.ValueEdits.{ComesInPlace, EditsAlone, IsStreamOf, PreparesEdit, PutsGiving}
use Rattle.value_edits.proofs.EditedRecord as value
use Rattle.value_edits.proofs.ExtendedExtent as longer
use Rattle.value_edits.proofs.ExtendedExtent.{IsPlacedRun}
use Rattle.value_edits.proofs.ExtentCalls.{good, header-kept, near, no-bits, no-table, right-mid, times-one}
use Rattle.value_edits.proofs.OneExtent.{fits-one}
use Rattle.value_edits.proofs.OnePart.{first-one}
use Rattle.value_edits.proofs.Prepared as before
use Rattle.value_edits.proofs.SparseSizes.{sparse-told}
use Rattle.value_edits.proofs.ValueCalls.{no-name, no-standard, plain-one}

-- A BYTE below the initialized size, and one of clusters that hold the same
pub below-init : (n k b : ℕ) → k < n → cond (nat_lt k n) b 0 ≡ b
below-init n k b h = ap (λ t. cond t b 0) (lt-ltb k n h)

byte-frame : (old new : ℕ → List ℕ) (spot : Spot) (k : ℕ) → ((c : ℕ) → spot ≡ At c → new c ≡ old c)
    → byte_there new spot k ≡ byte_there old spot k
byte-frame old new Outside k h = refl
byte-frame old new Hole k h = refl
byte-frame old new (At c) k h = ap (λ bytes. slice_index bytes k) (h c refl)

-- THE STREAM of such a file, which is one extent, was prepared, and got longer.
pub record ExtendsFound (old mid new : VolumeView) (f i real initialized : ℕ) (run : Option Run) (node : Node) (asked name held : List ℕ)
    : Type 0 where
  pub p : PreparesEdit (key_of f DATA name) old mid [] (option_to_list run)
  pub e : ExtendsExtent mid new f i real initialized run
  pub can : CanSet old f node
  pub finds : FindsPlain old f node asked name held
  pub one : IsInOneRecord old f
  pub is : IsStreamOf name e.was
  pub stood : parts_at old f DATA name ≡ part_of f e.was ∷ []

module _ {old mid new : VolumeView} {f i real initialized : ℕ} {run : Option Run} {node : Node} {asked name held : List ℕ}
    (x : ExtendsFound old mid new f i real initialized run node asked name held) where
  abbrev p : PreparesEdit (key_of f DATA name) old mid [] (option_to_list run)
  p = x.p

  abbrev pub e : ExtendsExtent mid new f i real initialized run
  e = x.e

  abbrev can : CanSet old f node
  can = x.can

  abbrev finds : FindsPlain old f node asked name held
  finds = x.finds

  abbrev is : IsStreamOf name e.was
  is = x.is

  abbrev stood : parts_at old f DATA name ≡ part_of f e.was ∷ []
  stood = x.stood

  abbrev key : Key
  key = key_of f DATA name

  abbrev was : Part
  was = part_of f e.was

  abbrev now : Part
  now = part_of f e.now

  abbrev bytes : ℕ
  bytes = cluster_bytes mid.layout

  -- the clusters that it had, and those that it gets
  abbrev pub covered : ℕ
  covered = total_clusters e.extended.can.runs

  abbrev more : List Run
  more = option_to_list run

  abbrev pub header : ExtentHeader
  header = e.extended.can.extent

  records : records_of mid ≡ records_of old
  records = before.records-mid key old mid [] more p

  pub bytes-same : bytes ≡ cluster_bytes old.layout
  bytes-same = ap cluster_bytes (before.layout-mid key old mid [] more p)

  kind-now : e.now.kind ≡ DATA
  kind-now = e.kind ∙ is.kind

  -- THE EXTENT BEFORE: its sizes fit its clusters, and are within the limit.
  first-stood : first_part (part_of f e.was ∷ []) ≡ Some was
  first-stood = first-one was (longer.first-was bytes real initialized run was now e.extended)

  plain-was : is_packed DATA e.was.flags ≡ false
  plain-was = plain-one old f node asked name held can finds was stood first-stood is.kind

  pub fits-was : FitExtents (covered * cluster_bytes old.layout) e.was.flags header.sizes
  fits-was =
      fits-one (cluster_bytes old.layout) was header e.extended.can.runs e.extended.can.is e.extended.can.first f
      (subst (AreAttribute (cluster_bytes old.layout) f) stood
      (stream.attribute old f name (readable-sound old can.sound) (file old f node can.there) finds.there))
      (ap (λ b. not (b || is_bad_stream f was)) (ap (λ k. is_packed k e.was.flags) is.kind ∙ plain-was)
      ∙ ap not (good old f node name can was))

  pub near-was : header.sizes.real ≤ 2 ^ 40
  near-was = near old f node name can was header e.extended.can.runs is.kind stood e.extended.can.is e.extended.can.first

  -- A SPARSE ONE tells the bytes of its clusters that are no hole.
  sparse-number : is_sparse e.now.flags ≡ true → IsSome header.compressed
  sparse-number sparse =
      sparse-told (opened_of (mid.block f)) e.was
      (Replaces-stood _ _ _ _ e.was e.edits.attributes_are (Contains-head e.was [])) header (Some e.extended.can.runs) e.extended.can.is
      e.extended.can.first (ap is_sparse (sym e.flags) ∙ sparse)

  module _ (gains : ℕ → Bool) (inside : initialized ≤ real) (limit : real ≤ 2 ^ 40)
      (room : real ≤ total_clusters (e.extended.can.runs ++ more) * cluster_bytes old.layout) (placed : IsPlacedRun run)
      (gained : (vcn : ℕ) → covered ≤ vcn → is_cluster (spot_of more (vcn - covered)) ≡ true → gains vcn ≡ true) where
    limits-now : IsInLimits f now
    limits-now kind good =
        let told = ap (λ (s : Sizes). s.real) e.extended.sizes in
        subst (λ (content : Content). IfSome (content_extent content) (λ extent. extent.sizes.first ≡ 0 → extent.sizes.real ≤ 2 ^ 40))
        (sym e.extended.is) (λ zero. omega (arith, told, limit))

    spots : (vcn : ℕ) → is_cluster (spot_at (now ∷ []) vcn) ≡ true → (is_cluster (spot_at (was ∷ []) vcn) ≡ true) ⊎ (gains vcn ≡ true)
    spots vcn lies = elim (cases_lt vcn covered) [
      | inl low ↦ inl (sym (ap is_cluster (longer.spot-inside bytes real initialized run was now e.extended vcn low)) ∙ lies)
      | inr past ↦ inr (gained vcn past
          (sym (ap is_cluster (longer.spot-behind bytes real initialized run was now e.extended vcn past)) ∙ lies))
    ]

    holes-now : has_hole (now ∷ []) ≡ true → has_hole (was ∷ []) ≡ true
    holes-now = longer.holes bytes real initialized run was now e.extended placed

    -- WHAT COMES
    comes : ComesInPlace old f gains (sum_by run_size more) e.was e.now
    comes = record {
      kind = e.kind;
      name = e.name;
      form = inl e.form;
      limits = limits-now;
      whole = subst (λ b. AreAttribute b f (now ∷ [])) bytes-same (longer.whole bytes real initialized run was now e.extended inside
          (subst (λ b. real ≤ total_clusters (e.extended.can.runs ++ more) * b) (sym bytes-same) room) f);
      size = let size = longer.size-more bytes real initialized run was now e.extended in omega (arith, size);
      spots = spots;
      holes = holes-now;
      keeps = record {
        flags = inl (longer.flags-kept bytes real initialized run was now e.extended e.flags);
        sizes = subst (λ b. IfSome (spread_of (now ∷ [])) (λ (s : Spread).
            IsSpreadSame (was ∷ []) (now ∷ []) ⊎ IsSpreadRight b (now ∷ []) s))
            bytes-same (longer.sizes-told bytes real initialized run was now e.extended sparse-number);
        sparse = λ holed none. absurd (both_ways _ none (holes-now holed));
      };
    }

    balance : (c : ℕ) → times_in (now ∷ []) c + times_covered [] c ≡ times_in (was ∷ []) c + times_covered more c
    balance c =
        let none : times_covered [] c ≡ 0 = refl in
        let all = ap (λ (runs : List Run). times_covered runs c) (longer.runs-now bytes real initialized run was now e.extended)
        ∙ count-append (has_cluster c) e.extended.can.runs more in
        let its = ap (λ (runs : List Run). times_covered runs c) (longer.runs-was bytes real initialized run was now e.extended) in
        omega (arith, none, all, its, times-one was c, times-one now c)

    pub extend-edit : EditsAlone key gains old new
    extend-edit = record {
      one = x.one;
      kind = refl;
      was = e.was;
      now = Some e.now;
      was_of = record { kind = is.kind; name = is.name_is };
      stood = stood;
      given = [];
      taken = more;
      mid = mid;
      prepares = p;
      comes = comes;
      balance = balance;
      stored = e.stored;
      block = e.edits;
      header = header-kept old mid f (before.blocks-mid key old mid [] more p f) records e.stored e.header;
      right = right-put mid new f e.stored e.was e.now e.edits
          (right-mid old mid f (before.blocks-mid key old mid [] more p f) records new e.stored (e.was ∷ []) (e.now ∷ []) e.edits can.sound)
          e.kind (inl e.id) (record {
            resident = λ kept. let never = sym (ap is_kept_resident kind-now) ∙ kept in cc;
            name = λ named. absurd (no-name e.now kind-now named);
          })
          (λ base standard. absurd (no-standard e.now kind-now standard));
    }

    -- WHERE IT LIES THEN
    stands : parts_at new f DATA name ≡ now ∷ []
    unfolding extend-edit
    stands = value.stands key old new can.sound can.apart extend-edit

    pub spot-new : (vcn : ℕ) → spot_at (extents_at new key) vcn ≡ spot_of (e.extended.can.runs ++ more) vcn
    spot-new vcn = ap (λ xs. spot_at xs vcn) stands ∙ longer.spot-now bytes real initialized run was now e.extended vcn

    pub spot-old : (vcn : ℕ) → spot_at (extents_at old key) vcn ≡ spot_of e.extended.can.runs vcn
    spot-old vcn = ap (λ xs. spot_at xs vcn) stood ∙ longer.spot-was bytes real initialized run was now e.extended vcn

    pub spot-kept : (vcn : ℕ) → vcn < covered → spot_at (extents_at new key) vcn ≡ spot_at (extents_at old key) vcn
    spot-kept vcn low =
        ap (λ xs. spot_at xs vcn) stands ∙ longer.spot-inside bytes real initialized run was now e.extended vcn low
        ∙ sym (ap (λ xs. spot_at xs vcn) stood)

    -- what its clusters hold: what was put into them before
    apart-new : LiesApart new
    unfolding extend-edit
    apart-new = value.apart-now key old new can.sound can.apart extend-edit

    -- the record was written elsewhere
    written-apart : KeepsClusters new mid (parts_at new f DATA name)
    written-apart = attribute-stays new mid (λ c outside. sym (e.edits.replaces.clusters c
        (subst (λ (l : TableLayout). IsOutsideTable l c) e.edits.replaces.layout outside)))
        apart-new.owners apart-new.some apart-new.unnamed f DATA name (no-table old f node name can)

    pub holds : (vcn c : ℕ) → spot_at (extents_at new key) vcn ≡ At c → new.cluster c ≡ mid.cluster c
    holds vcn c at = sym (written-apart vcn c at)

    -- and those that it had hold what they held where the flags of the run were set
    flags-apart : KeepsClusters old p.flagged (parts_at old f DATA name)
    unfolding extend-edit
    flags-apart = value.clusters-flagged key old new can.sound can.apart extend-edit f DATA name (no-bits old f node name can)

    -- AS A STREAM, before and after
    abbrev pub stream_was : ClusterStream
    stream_was = stream_of old (extents_at old key) header

    abbrev pub stream_now : ClusterStream
    stream_now = stream_of new (extents_at new key) e.extended.extent

    pub bytes-now : cluster_bytes new.layout ≡ cluster_bytes old.layout
    unfolding extend-edit
    bytes-now = ap cluster_bytes (value.layout key old new can.sound can.apart extend-edit)

    has-old : HasStream old key e.was.flags stream_was
    has-old = record {
      part = was;
      first = ap first_part stood ∙ first-stood;
      flags_are = refl;
      extent = header;
      runs = Some e.extended.can.runs;
      content = e.extended.can.is;
      is = refl;
    }

    pub has-new : HasStream new key e.now.flags stream_now
    has-new = record {
      part = now;
      first = ap first_part stands ∙ first-one now (longer.first-now bytes real initialized run was now e.extended);
      flags_are = refl;
      extent = e.extended.extent;
      runs = Some e.extended.runs;
      content = e.extended.is;
      is = refl;
    }

    pub held-old : ShowsList stream_was held
    held-old = subst (ShowsList stream_was)
        (found.value old f node asked name held (readable-sound old can.sound) (file old f node can.there) can.there finds)
        (list-shown old key e.was.flags stream_was has-old)

    pub plain-now : is_packed DATA e.now.flags ≡ false
    plain-now = ap (is_packed DATA) e.flags ∙ plain-was

    -- BYTE BY BYTE: it holds what was put into its clusters; and zeros are shown behind what was written.
    abbrev all_runs : List Run
    all_runs = e.extended.can.runs ++ more

    pub stored-now : (k : ℕ) → byte_in stream_now k ≡ stored_byte mid.cluster (cluster_bytes old.layout) (spot_of all_runs) k
    stored-now k =
        let size = cluster_bytes old.layout in
        ap (λ b. byte_there new.cluster (spot_at (extents_at new key) (k / b)) (k % b)) bytes-now
        ∙ byte-frame mid.cluster new.cluster (spot_at (extents_at new key) (k / size)) (k % size) (λ c at. holds (k / size) c at)
        ∙ ap (λ s. byte_there mid.cluster s (k % size)) (spot-new (k / size))

    pub stored-was : (k : ℕ) → k < covered * cluster_bytes old.layout
        → byte_in stream_was k ≡ stored_byte old.cluster (cluster_bytes old.layout) (spot_of all_runs) k
    stored-was k low =
        let size = cluster_bytes old.layout in
        let inside : k / size < covered = (div-lt_iff_lt-mul (omega (arith, can.apart.some))).1 low in
        ap (λ s. byte_there old.cluster s (k % size))
        (spot-old (k / size) ∙ sym (spot_of-front e.extended.can.runs more (k / size) inside))

    pub stored-flagged : (k : ℕ) → k < covered * cluster_bytes old.layout
        → stored_byte p.flagged.cluster (cluster_bytes old.layout) (spot_of all_runs) k ≡ byte_in stream_was k
    stored-flagged k low =
        let size = cluster_bytes old.layout in
        let inside : k / size < covered = (div-lt_iff_lt-mul (omega (arith, can.apart.some))).1 low in
        let spot = spot_of-front e.extended.can.runs more (k / size) inside ∙ sym (spot-old (k / size)) in
        byte-frame old.cluster p.flagged.cluster (spot_of all_runs (k / size)) (k % size)
        (λ c at. flags-apart (k / size) c (sym spot ∙ at))
        ∙ sym (stored-was k low)

    pub zero-behind : (k : ℕ) → header.sizes.initialized ≤ k → slice_index held k ≡ 0
    zero-behind k past = elim (cases_lt k (length held)) [
      | inl inside ↦ sym (held-old.bytes k inside) ∙ past-init header.sizes.initialized k (byte_in stream_was k) past
      | inr out ↦ get_or_past held k 0 out
    ]

    -- one that was written shows still, where its cluster holds what it held
    pub shown-still : (k : ℕ) → k < header.sizes.initialized → k < initialized → byte_in stream_now k ≡ byte_in stream_was k
        → byte_of stream_now k ≡ slice_index held k
    shown-still k low inside_now same =
        let told = ap (λ (s : Sizes). s.initialized) e.extended.sizes in
        let long = held-old.len in
        below-init stream_now.initialized k (byte_in stream_now k) (omega (arith, inside_now, told)) ∙ same
        ∙ sym (below-init header.sizes.initialized k (byte_in stream_was k) low)
        ∙ held-old.bytes k (omega (arith, low, long, fits-was.initialized))

    pub shown-zero : (k : ℕ) → initialized ≤ k → header.sizes.initialized ≤ k → byte_of stream_now k ≡ slice_index held k
    shown-zero k past_now past =
        let told = ap (λ (s : Sizes). s.initialized) e.extended.sizes in
        past-init stream_now.initialized k (byte_in stream_now k) (omega (arith, past_now, told)) ∙ sym (zero-behind k past)

    -- THE WHOLE, where each byte is told
    pub longer-put : (byte : ℕ → ℕ) (n : ℕ) (shown : List ℕ) → real ≡ n → map byte (range_with_len 0 n) ≡ shown
        → ((k : ℕ) → k < n → byte_of stream_now k ≡ byte k) → PutsGiving old new f name (Some shown) gains [] more
    unfolding extend-edit
    longer-put byte n shown long bytes_are each = record {
      puts = record {
        edits = extend-edit;
        shows = subst (ShowsBytes new key) bytes_are (stream-held new key e.now.flags stream_now byte n has-new (record {
          len = ap (λ (s : Sizes). s.real) e.extended.sizes ∙ long;
          bytes = each;
        }) plain-now);
      };
      given_are = refl;
      taken_are = refl;
    }
