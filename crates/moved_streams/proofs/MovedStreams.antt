-- A STREAM THAT MOVED INTO CLUSTERS: it was edited alone, and shows the bytes that were put into its run, and zeros behind them.
use Rattle.std.proofs.Common.{◌≡◌, ◌⊎◌, ◌+◌, ◌*◌, ◌-◌, ◌/◌, ◌%◌, ◌≤◌, ◌<◌, ◌^◌, ℕ, Bool, true, false, List, [], ◌∷◌}
use Rattle.std.proofs.Common.{length, Some, refl, sym, ap, subst, inl, inr, ◌∙◌, arith}
use Rattle.std.specs.Prelude.{IfSome, IsTrue, slice_index, sum_by}
use Rattle.std.proofs.lemmas.Bool.{cases_lt}
use Rattle.std.proofs.lemmas.List.{get_or_past}
use Rattle.ntfs_def.specs.Attribute.{ExtentHeader}
use Rattle.ntfs_def.specs.Flags.{is_packed}
use Rattle.ntfs_def.specs.Runs.{spot_of, total_clusters}
use Rattle.ntfs_def.specs.declared.kinds.TheConstants.{DATA}
use Rattle.ntfs_def.specs.declared.run_text.Run.{Run}
use Rattle.ntfs_def.specs.declared.run_text.Spot.{Spot}
use Rattle.ntfs_def.specs.declared.run_text.Spot.TheVariants.{At, Hole, Outside}
use Rattle.volume_def.specs.AttributesClause.{is_kept_resident}
use Rattle.volume_def.specs.Coverage.{IsOutsideTable, times_covered}
use Rattle.volume_def.specs.ExtentsClause.{AreAttribute}
use Rattle.volume_def.specs.Files.{Content, Part, content_extent, part_of, parts_at}
use Rattle.volume_def.specs.LimitsClause.{IsInLimits}
use Rattle.volume_def.specs.Table.{TableLayout, cluster_bytes}
use Rattle.volume_def.specs.Values.{KeepsClusters, byte_there, first_part, spot_at, stored_byte}
use Rattle.volume_def.specs.View.{VolumeView}
use Rattle.tree_model.specs.StreamRoom.{is_cluster}
use Rattle.tree_model.specs.Streams.{resized}
use Rattle.tree_model.specs.declared.tree.Node.{Node}
use Rattle.edit_def.specs.Kept.{Key, key_of}
use Rattle.edit_def.specs.Purses.{run_size}
use Rattle.session_def.specs.Nodes.{IsSpreadRight, IsSpreadSame, Spread, has_hole, spread_of}
use Rattle.record_edits.specs.Owners.{times_in}
use Rattle.record_edits.proofs.BlockEdits.{attribute-stays}
use Rattle.stream_overwrites.specs.Below.{IsInOneRecord}
use Rattle.stream_overwrites.proofs.Below.{right-put}
use Rattle.stream_edits.specs.Streams.{ClusterStream, HasStream, ShowsBytes, byte_in, byte_of, extents_at, stream_of}
use Rattle.stream_edits.proofs.ByteLists.{resized-list}
use Rattle.stream_edits.proofs.EditedStreams.{stream-held}
use Rattle.stream_edits.proofs.ShownSteps.{past-init}
use Rattle.in_place_owed.specs.Below.{CanSet, LiesApart}
use Rattle.value_moves.specs.Moved.{MovesValue}
use Rattle.value_edits.specs.ValueEdits.{ComesInPlace, EditsAlone, EndsBy, PreparesEdit, PutsGiving}
use Rattle.value_edits.proofs.EditedRecord as value
use Rattle.value_edits.proofs.ExtendCalls.{below-init}
use Rattle.value_edits.proofs.ExtentCalls.{header-kept, no-table, right-mid, times-one}
use Rattle.value_edits.proofs.LongerStreams.{begins-below}
use Rattle.value_edits.proofs.OnePart.{first-one}
use Rattle.value_edits.proofs.Prepared as before
use Rattle.value_edits.proofs.ValueCalls.{no-name, no-standard}
use Rattle.moved_streams.specs.MovedStreams.{MovesStream}
use Rattle.moved_streams.proofs.MovedExtent as moved
use Rattle.moved_streams.proofs.MovedPrepared.{moved-prepared}

-- a byte of clusters that hold the same
byte-same : (old new : ℕ → List ℕ) (spot : Spot) (k : ℕ) → ((c : ℕ) → spot ≡ At c → new c ≡ old c)
    → byte_there new spot k ≡ byte_there old spot k
byte-same old new Outside k h = refl
byte-same old new Hole k h = refl
byte-same old new (At c) k h = ap (λ bytes. slice_index bytes k) (h c refl)

module _ {old new : VolumeView} {f i : ℕ} {name : List ℕ} {run : Run} {real : ℕ} {put : List ℕ}
    (x : MovesStream old new f i name run real put) where
  abbrev e : MovesValue x.mid new f i run real (length put)
  e = x.moves

  abbrev mid : VolumeView
  mid = x.mid

  abbrev key : Key
  key = key_of f DATA name

  abbrev was : Part
  was = part_of f e.was

  abbrev now : Part
  now = part_of f e.now

  abbrev bytes : ℕ
  bytes = cluster_bytes mid.layout

  p : PreparesEdit key old mid [] (run ∷ [])
  p = moved-prepared old x.flagged mid f name run put x.fills

  bytes-same : bytes ≡ cluster_bytes old.layout
  bytes-same = ap cluster_bytes (before.layout-mid key old mid [] (run ∷ []) p)

  abbrev extent : ExtentHeader
  extent = moved.extent bytes run real (length put) e.was e.now e.becomes f

  no-flags : e.now.flags ≡ 0
  no-flags = e.flags ∙ e.becomes.can.flags

  kind-now : e.now.kind ≡ DATA
  kind-now = e.kind ∙ x.is.kind

  limits-now : IsInLimits f now
  limits-now kind good =
      subst (λ (content : Content). IfSome (content_extent content) (λ extent. extent.sizes.first ≡ 0 → extent.sizes.real ≤ 2 ^ 40))
      (sym e.becomes.content) (λ zero. x.near)

  never-holed : has_hole (now ∷ []) ≡ true → ⊥
  never-holed = moved.no-hole bytes run real (length put) e.was e.now e.becomes f x.fills.needs.placed

  -- a cluster of its run begins within the bytes that were put into it
  pub begins-inside : 0 < cluster_bytes old.layout → (vcn : ℕ) → vcn < run.len → vcn * cluster_bytes old.layout < length put
  begins-inside positive vcn low =
      let none : total_clusters [] ≡ 0 = refl in
      let inside = begins-below vcn (0 + length put) (cluster_bytes old.layout) positive (omega (arith, low, x.fills.needs.len, none)) in
      omega (arith, inside)

  module _ {node : Node} (can : CanSet old f node) (alone : IsInOneRecord old f) (gains : ℕ → Bool)
      (gained : (vcn : ℕ) → vcn < run.len → gains vcn ≡ true) where
    -- WHAT COMES
    comes : ComesInPlace old f gains (sum_by run_size (run ∷ [])) e.was e.now
    comes = record {
      kind = e.kind;
      name = e.name;
      form = inr (moved.form-new bytes run real (length put) e.was e.now e.becomes f x.is.kind);
      limits = limits-now;
      whole = subst (λ b. AreAttribute b f (now ∷ [])) bytes-same (moved.whole bytes run real (length put) e.was e.now e.becomes f x.more
          (subst (λ b. real ≤ run.len * b) (sym bytes-same) x.room));
      size = let size = moved.size-now bytes run real (length put) e.was e.now e.becomes f in omega (arith, size);
      spots = λ vcn lies. inr (gained vcn (moved.spot-inside bytes run real (length put) e.was e.now e.becomes f vcn lies));
      holes = λ holed. absurd (never-holed holed);
      keeps = record {
        flags = inl (moved.flags-kept bytes run real (length put) e.was e.now e.becomes f e.flags);
        sizes = subst (λ b. IfSome (spread_of (now ∷ [])) (λ (s : Spread).
            IsSpreadSame (was ∷ []) (now ∷ []) ⊎ IsSpreadRight b (now ∷ []) s))
            bytes-same (moved.sizes-told bytes run real (length put) e.was e.now e.becomes f no-flags);
        sparse = λ holed. absurd (never-holed holed);
      };
    }

    balance : (c : ℕ) → times_in (now ∷ []) c + times_covered [] c ≡ times_in (was ∷ []) c + times_covered (run ∷ []) c
    balance c =
        let none : times_covered [] c ≡ 0 = refl in
        let all = ap (λ (runs : List Run). times_covered runs c) (moved.runs-now bytes run real (length put) e.was e.now e.becomes f) in
        let its = ap (λ (runs : List Run). times_covered runs c) (moved.runs-was bytes run real (length put) e.was e.now e.becomes f) in
        omega (arith, none, all, its, times-one was c, times-one now c)

    moved-edit : EditsAlone key gains old new
    moved-edit = record {
      one = alone;
      kind = refl;
      was = e.was;
      now = Some e.now;
      was_of = record { kind = x.is.kind; name = x.is.name_is };
      stood = x.stood;
      given = [];
      taken = run ∷ [];
      mid = mid;
      prepares = p;
      comes = comes;
      balance = balance;
      stored = e.stored;
      block = e.edits;
      header = header-kept old mid f (before.blocks-mid key old mid [] (run ∷ []) p f) (before.records-mid key old mid [] (run ∷ []) p)
          e.stored e.header;
      right = right-put mid new f e.stored e.was e.now e.edits
          (right-mid old mid f (before.blocks-mid key old mid [] (run ∷ []) p f) (before.records-mid key old mid [] (run ∷ []) p)
          new e.stored (e.was ∷ []) (e.now ∷ []) e.edits can.sound)
          e.kind (inl e.id) (record {
            resident = λ kept. let never = sym (ap is_kept_resident kind-now) ∙ kept in cc;
            name = λ named. absurd (no-name e.now kind-now named);
          })
          (λ base standard. absurd (no-standard e.now kind-now standard));
    }

    -- WHERE IT LIES THEN
    stands : parts_at new f DATA name ≡ now ∷ []
    unfolding moved-edit
    stands = value.stands key old new can.sound can.apart moved-edit

    spot-new : (vcn : ℕ) → spot_at (extents_at new key) vcn ≡ spot_of (run ∷ []) vcn
    spot-new vcn = ap (λ xs. spot_at xs vcn) stands ∙ moved.spot-now bytes run real (length put) e.was e.now e.becomes f vcn

    bytes-now : cluster_bytes new.layout ≡ cluster_bytes old.layout
    unfolding moved-edit
    bytes-now = ap cluster_bytes (value.layout key old new can.sound can.apart moved-edit)

    -- the record was written elsewhere
    apart-new : LiesApart new
    unfolding moved-edit
    apart-new = value.apart-now key old new can.sound can.apart moved-edit

    written-apart : KeepsClusters new mid (parts_at new f DATA name)
    written-apart = attribute-stays new mid (λ c outside. sym (e.edits.replaces.clusters c
        (subst (λ (l : TableLayout). IsOutsideTable l c) e.edits.replaces.layout outside)))
        apart-new.owners apart-new.some apart-new.unnamed f DATA name (no-table old f node name can)

    -- AS A STREAM
    abbrev stream_now : ClusterStream
    stream_now = stream_of new (extents_at new key) extent

    has-new : HasStream new key e.now.flags stream_now
    has-new = record {
      part = now;
      first = ap first_part stands ∙ first-one now (moved.first-now bytes run real (length put) e.was e.now e.becomes f);
      flags_are = refl;
      extent = extent;
      runs = Some (run ∷ []);
      content = e.becomes.content;
      is = refl;
    }

    plain-now : is_packed DATA e.now.flags ≡ false
    plain-now = ap (is_packed DATA) no-flags

    stored-now : (k : ℕ) → byte_in stream_now k ≡ stored_byte mid.cluster (cluster_bytes old.layout) (spot_of (run ∷ [])) k
    stored-now k =
        let size = cluster_bytes old.layout in
        ap (λ b. byte_there new.cluster (spot_at (extents_at new key) (k / b)) (k % b)) bytes-now
        ∙ byte-same mid.cluster new.cluster (spot_at (extents_at new key) (k / size)) (k % size)
        (λ c at. sym (written-apart (k / size) c at))
        ∙ ap (λ s. byte_there mid.cluster s (k % size)) (spot-new (k / size))

    put-byte : (k : ℕ) → k < length put
        → stored_byte mid.cluster (cluster_bytes old.layout) (spot_of (run ∷ [])) k ≡ slice_index put k
    put-byte k low =
        let told : IsTrue x.flagged.told = sym x.fills.writes.told ∙ e.edits.told in
        subst (λ b. stored_byte mid.cluster b (spot_of (run ∷ [])) k ≡ slice_index put (k - 0))
        (ap cluster_bytes x.fills.takes.writes.layout) (x.fills.writes.here told k (omega arith, omega (arith, low)))
        ∙ ap (slice_index put) (omega arith)

    each : (k : ℕ) → k < real → byte_of stream_now k ≡ slice_index put k
    each k within = elim (cases_lt k (length put)) [
      | inl low ↦ below-init (length put) k (byte_in stream_now k) low ∙ stored-now k ∙ put-byte k low
      | inr past ↦ past-init (length put) k (byte_in stream_now k) past ∙ sym (get_or_past put k 0 past)
    ]

    -- IT SHOWS what was put into its run, and zeros behind that.
    pub moved-put : PutsGiving old new f name (Some (resized real put)) gains [] (run ∷ [])
    unfolding moved-edit
    moved-put = record {
      puts = record {
        edits = moved-edit;
        shows = subst (ShowsBytes new key) (resized-list put real)
            (stream-held new key e.now.flags stream_now (slice_index put) real has-new (record { len = refl; bytes = each }) plain-now);
      };
      given_are = refl;
      taken_are = refl;
    }

    -- each of its clusters holds some of the bytes that were put into it
    pub moved-ends : EndsBy new f name (length put)
    moved-ends vcn lies = elim (cases_lt vcn run.len) [
      | inl low ↦
          subst (λ b. vcn * b < length put) (sym bytes-now)
          (begins-inside (omega (arith, can.apart.some)) vcn low)
      | inr past ↦ absurd (let inside = moved.spot-inside bytes run real (length put) e.was e.now e.becomes f vcn
          (sym (ap (λ xs. is_cluster (spot_at xs vcn)) stands) ∙ lies) in omega (arith, inside, past))
    ]
