-- WHAT A STREAM IN CLUSTERS SHOWS that got longer: within its last cluster, what it had and zeros; where bytes were put behind what was
-- written, or over it, those that the machine writes.
use Rattle.std.proofs.Common.{◌≡◌, ◌⊎◌, ◌+◌, ◌*◌, ◌-◌, ◌/◌, ◌≤◌, ◌<◌, ◌^◌, ◌==◌, ◌&&◌, max, ℕ, Bool, true, List, [], ◌∷◌, ◌++◌, length}
use Rattle.std.proofs.Common.{Some, None, Option, filter, refl, sym, ap, subst, inl, inr, ◌∙◌, arith}
use Rattle.std.specs.Option.{option_to_list}
use Rattle.std.specs.Prelude.{IfSome, IsTrue, nat_lt, slice_index}
use Rattle.std.specs.Str.{bytes_eq}
use Rattle.std.proofs.Math.Nat.{div-mul-le_self, mul-le-mul_right}
use Rattle.std.proofs.lemmas.Bool.{and_from, cases_lt, eq-eqb, lt-ltb}
use Rattle.std.proofs.lemmas.List.{append-nil}
use Rattle.std.proofs.lemmas.List.Sums.{count_by-le-length}
use Rattle.std.proofs.lemmas.Slice.Eq.{bytes_eq-Decides}
use Rattle.ntfs_def.specs.Rounded.{clusters_for}
use Rattle.ntfs_def.specs.Runs.{spot_of, total_clusters}
use Rattle.ntfs_def.specs.declared.kinds.TheConstants.{DATA}
use Rattle.ntfs_def.specs.declared.run_text.Run.{Run}
use Rattle.ntfs_def.specs.declared.run_text.Spot.TheVariants.{At}
use Rattle.ntfs_def.specs.declared.sizes.Sizes.{Sizes}
use Rattle.ntfs_def.proofs.SpotLaws.{spot_of-none}
use Rattle.volume_def.specs.Coverage.{has_cluster, times_covered}
use Rattle.volume_def.specs.ExtentsClause.{FitExtents}
use Rattle.volume_def.specs.Files.{Records, is_of, part_of, parts, parts_at, records_of}
use Rattle.volume_def.specs.OwnersClause.{times_owned}
use Rattle.volume_def.specs.Table.{cluster_bytes}
use Rattle.volume_def.specs.Values.{spot_at, stored_byte}
use Rattle.volume_def.specs.View.{VolumeView}
use Rattle.volume_def.proofs.RunPieces.{spot_of-back, spot_of-behind, spot_of-front, total-cons}
use Rattle.volume_def.proofs.RunPlaces.{times_in-spot_of}
use Rattle.tree_model.specs.StreamRoom.{is_cluster, touches}
use Rattle.tree_model.specs.Streams.{resized, written}
use Rattle.tree_model.specs.declared.tree.Node.{Node}
use Rattle.edit_def.specs.Kept.{key_of, same_key}
use Rattle.record_edits.specs.InPlace.{IsUnnamed, is_bits_key}
use Rattle.record_edits.proofs.PlaceEdits.{same}
use Rattle.stream_edits.specs.Steps.{written_byte}
use Rattle.stream_edits.specs.Streams.{byte_in, byte_of}
use Rattle.stream_edits.proofs.ByteLists.{resized-list, written-list}
use Rattle.stream_edits.proofs.ByteRanges.{in-range, out-of-range}
use Rattle.extent_edits.specs.Extended.{ExtendsExtent}
use Rattle.in_place_owed.specs.Below.{CanSet}
use Rattle.stream_overwrites.specs.Below.{IsInOneRecord}
use Rattle.stream_overwrites.specs.Overwritten.{FindsPlain}
use Rattle.value_edits.specs.ValueEdits.{EndsBy, IsStreamOf, NeedsRun, PreparesEdit, PutsGiving, WritesBehind, no_gain}
use Rattle.value_edits.proofs.CutExtent.{room-for}
use Rattle.value_edits.proofs.ExtendCalls as longer
use Rattle.value_edits.proofs.ExtendCalls.{ExtendsFound, below-init}
use Rattle.value_edits.proofs.ExtendedExtent.{IsPlacedRun, total-append}
use Rattle.value_edits.proofs.GivenBack.{nothing-given}
use Rattle.value_edits.proofs.OneExtent as extent
use Rattle.value_edits.proofs.Prepared.{nothing-prepared}

-- a cluster below those that so many bytes fill begins below their end
pub begins-below : (vcn end size : ℕ) → 0 < size → vcn < clusters_for end size → vcn * size < end
begins-below vcn end size some low =
    let whole = div-mul-le_self (end + (size - 1)) size in
    let most : (vcn + 1) * size ≤ clusters_for end size * size = mul-le-mul_right size (omega (arith, low)) in
    let next : (vcn + 1) * size ≡ vcn * size + size = omega arith in
    omega (arith, whole, most, next, some)

-- IN ITS LAST CLUSTER STILL
module _ {old new : VolumeView} {f i size initialized : ℕ} {node : Node} {asked name held : List ℕ}
    (x : ExtendsFound old old new f i size initialized None node asked name held)
    (initialized_is : initialized ≡ x.e.extended.can.extent.sizes.initialized) (more : x.e.extended.can.extent.sizes.real ≤ size)
    (near : size ≤ 2 ^ 40) (ends : clusters_for size (cluster_bytes old.layout) ≡ total_clusters x.e.extended.can.runs) where
  abbrev bytes : ℕ
  bytes = cluster_bytes old.layout

  abbrev runs : List Run
  runs = x.e.extended.can.runs

  some : 0 < bytes
  some = omega (arith, x.can.apart.some)

  fits : FitExtents (total_clusters runs * bytes) x.e.was.flags x.e.extended.can.extent.sizes
  fits = longer.fits-was x

  inside : initialized ≤ size
  inside = let first = fits.initialized in omega (arith, initialized_is, more, first)

  room : size ≤ total_clusters (runs ++ []) * bytes
  room = subst (λ n. size ≤ n * bytes) (ends ∙ sym (ap total_clusters (append-nil runs))) (room-for size bytes some)

  nowhere : (vcn : ℕ) → total_clusters runs ≤ vcn → is_cluster (spot_of [] (vcn - total_clusters runs)) ≡ true → no_gain vcn ≡ true
  nowhere vcn past lies = let never = sym (ap is_cluster (spot_of-none (vcn - total_clusters runs))) ∙ lies in cc

  each : (k : ℕ) → k < size → byte_of (longer.stream_now x no_gain inside near room tt nowhere) k ≡ slice_index held k
  each k below = elim (cases_lt k x.e.extended.can.extent.sizes.initialized) [
    | inl low ↦
        let first = fits.initialized in
        let behind = fits.real in
        longer.shown-still x no_gain inside near room tt nowhere k low (omega (arith, low, initialized_is))
        (longer.stored-now x no_gain inside near room tt nowhere k
        ∙ sym (longer.stored-was x no_gain inside near room tt nowhere k (omega (arith, low, first, behind))))
    | inr past ↦ longer.shown-zero x no_gain inside near room tt nowhere k (omega (arith, past, initialized_is)) past
  ]

  lengthened : PutsGiving old new f name (Some (resized size held)) no_gain [] []
  lengthened = longer.longer-put x no_gain inside near room tt nowhere (slice_index held) size (resized size held) refl
      (resized-list held size) each

  -- each of its clusters holds some of its bytes
  ends-by : EndsBy new f name size
  ends-by vcn lies = elim (cases_lt vcn (total_clusters runs)) [
    | inl low ↦
        subst (λ b. vcn * b < size) (sym (longer.bytes-now x no_gain inside near room tt nowhere))
        (begins-below vcn size bytes some (omega (arith, low, ends)))
    | inr past ↦
        let outside = longer.spot-new x no_gain inside near room tt nowhere vcn ∙ spot_of-behind (runs ++ []) vcn
        (omega (arith, past, ap total_clusters (append-nil runs))) in
        let never = sym (ap is_cluster outside) ∙ lies in
        cc
  ]

pub lengthened-put : (old new : VolumeView) (f i size initialized : ℕ) (node : Node) (asked name held : List ℕ)
    → (e : ExtendsExtent old new f i size initialized None) → CanSet old f node → FindsPlain old f node asked name held
    → IsInOneRecord old f → IsStreamOf name e.was → parts_at old f DATA name ≡ part_of f e.was ∷ []
    → initialized ≡ e.extended.can.extent.sizes.initialized → e.extended.can.extent.sizes.real ≤ size → size ≤ 2 ^ 40
    → clusters_for size (cluster_bytes old.layout) ≡ total_clusters e.extended.can.runs
    → PutsGiving old new f name (Some (resized size held)) no_gain [] [] × EndsBy new f name size
lengthened-put old new f i size initialized node asked name held e can finds one is stood initialized_is more near ends =
    let x : ExtendsFound old old new f i size initialized None node asked name held = record {
      p = nothing-prepared (key_of f DATA name) old;
      e = e;
      can = can;
      finds = finds;
      one = one;
      is = is;
      stood = stood;
    } in
    (lengthened x initialized_is more near ends, ends-by x initialized_is more near ends)

-- BEHIND WHAT WAS WRITTEN, or over it
once-covered : (run : Option Run) (c : ℕ) → times_covered (option_to_list run) c ≤ 1
once-covered None c = omega arith
once-covered (Some run) c = count_by-le-length (has_cluster c) (run ∷ [])

module _ (old flagged mid : VolumeView) (f : ℕ) (name : List ℕ) (runs : List Run) (run : Option Run) (from : ℕ) (bytes : List ℕ)
    (w : WritesBehind old flagged mid runs run from bytes)
    (spots : (vcn : ℕ) → spot_at (parts_at old f DATA name) vcn ≡ spot_of runs vcn) where
  itself : same_key (key_of f DATA name) (key_of f DATA name) ≡ true
  itself = and_from (DATA == DATA) _ refl
      (and_from (f == f) (bytes_eq name name) (eq-eqb f f refl) ((bytes_eq-Decides name name).1 refl))

  records : records_of flagged ≡ records_of old
  records = same is_bits_key old flagged w.takes.writes

  -- where bytes were put no other attribute lies
  not-put : (c : ℕ) → 1 ≤ times_owned (records_of flagged) c → IsUnnamed (same_key (key_of f DATA name)) flagged c → (vcn : ℕ)
      → spot_of (runs ++ option_to_list run) vcn ≡ At c → ⊥
  not-put c owned free vcn at = elim (cases_lt vcn (total_clusters runs)) [
    | inl low ↦
        free f DATA name itself vcn (ap (λ (r : Records). spot_at (filter (is_of DATA name) (parts r f)) vcn) records ∙ spots vcn
        ∙ sym (spot_of-front runs (option_to_list run) vcn low) ∙ at)
    | inr past ↦
        let its = times_in-spot_of (option_to_list run) (vcn - total_clusters runs) c
        (sym (spot_of-back runs (option_to_list run) vcn past) ∙ at) in
        let none = ap (λ (r : Records). times_owned r c) records ∙ w.unowned c its in
        absurd (omega (arith, none, owned))
  ]

  prepared-behind : PreparesEdit (key_of f DATA name) old mid [] (option_to_list run)
  prepared-behind = record {
    freed = old;
    gives = nothing-given old;
    flagged = flagged;
    takes = w.takes;
    fills = record {
      told = w.writes.told;
      layout = w.writes.layout;
      blocks = w.writes.blocks;
      copies = w.writes.copies;
      rest = w.writes.rest;
      clusters = λ c owned free. w.writes.clusters c (λ k within. not-put c owned free (k / cluster_bytes flagged.layout));
    };
    inside = w.inside;
    unowned = w.unowned;
    once = once-covered run;
    differ = λ c got. refl;
  }

module _ {old mid new : VolumeView} {f i real initialized : ℕ} {run : Option Run} {node : Node} {asked name held : List ℕ}
    (x : ExtendsFound old mid new f i real initialized run node asked name held) (from : ℕ) (bytes : List ℕ)
    (w : WritesBehind old x.p.flagged mid x.e.extended.can.runs run from bytes)
    (begins : from ≤ x.e.extended.can.extent.sizes.initialized)
    (real_is : real ≡ max x.e.extended.can.extent.sizes.real (from + length bytes))
    (initialized_is : initialized ≡ max x.e.extended.can.extent.sizes.initialized (from + length bytes)) where
  abbrev size : ℕ
  size = cluster_bytes old.layout

  abbrev its_runs : List Run
  its_runs = x.e.extended.can.runs

  abbrev end : ℕ
  end = from + length bytes

  positive : 0 < size
  positive = omega (arith, x.can.apart.some)

  fits-then : FitExtents (total_clusters its_runs * size) x.e.was.flags x.e.extended.can.extent.sizes
  fits-then = longer.fits-was x

  within : initialized ≤ real
  within = let first = fits-then.initialized in omega (arith, real_is, initialized_is, first)

  limit : real ≤ 2 ^ 40
  limit = let was = longer.near-was x in omega (arith, real_is, was, w.near)

  large : real ≤ total_clusters (its_runs ++ option_to_list run) * size
  large =
      let was = fits-then.real in
      let all = total-append its_runs (option_to_list run) in
      let more : total_clusters its_runs * size ≤ total_clusters (its_runs ++ option_to_list run) * size =
      mul-le-mul_right size (omega (arith, all)) in
      omega (arith, real_is, was, more, w.room)

  -- THE RUN has a place, and each of its clusters is touched.
  placed : (o : Option Run) → IfSome o (NeedsRun old its_runs end) → IsPlacedRun o
  placed None needs = tt
  placed (Some r) needs = needs.placed

  touched : (o : Option Run) → IfSome o (NeedsRun old its_runs end) → (vcn : ℕ) → total_clusters its_runs ≤ vcn
      → is_cluster (spot_of (option_to_list o) (vcn - total_clusters its_runs)) ≡ true → touches size from (length bytes) vcn ≡ true
  touched None needs vcn past lies = let never = sym (ap is_cluster (spot_of-none (vcn - total_clusters its_runs))) ∙ lies in cc
  touched (Some r) needs vcn past lies = elim (cases_lt (vcn - total_clusters its_runs) r.len) [
    | inr out ↦
        let none = total-cons r [] in
        let outside = spot_of-behind (r ∷ []) (vcn - total_clusters its_runs) (omega (arith, out, none)) in
        let never = sym (ap is_cluster outside) ∙ lies in
        cc
    | inl low ↦
        let below = begins-below vcn end size positive (omega (arith, low, past, needs.len, needs.some)) in
        let was = fits-then.real in
        let first = fits-then.initialized in
        let front : total_clusters its_runs * size ≤ vcn * size = mul-le-mul_right size past in
        and_from (nat_lt 0 (length bytes) && nat_lt (vcn * size) end) (nat_lt from (vcn * size + size))
        (and_from (nat_lt 0 (length bytes)) (nat_lt (vcn * size) end) (lt-ltb 0 (length bytes) w.some) (lt-ltb (vcn * size) end below))
        (lt-ltb from (vcn * size + size) (omega (arith, begins, first, was, front, positive)))
  ]

  abbrev gains : ℕ → Bool
  gains = touches size from (length bytes)

  -- BYTE BY BYTE
  told : IsTrue x.p.flagged.told
  told = sym w.writes.told ∙ x.e.edits.told

  same-size : cluster_bytes x.p.flagged.layout ≡ size
  same-size = ap cluster_bytes w.takes.writes.layout

  put-byte : (k : ℕ) → from ≤ k → k < end
      → byte_of (longer.stream_now x gains within limit large (placed run w.needs) (touched run w.needs)) k ≡ slice_index bytes (k - from)
  put-byte k low high =
      let now = longer.stream_now x gains within limit large (placed run w.needs) (touched run w.needs) in
      let sizes = ap (λ (s : Sizes). s.initialized) x.e.extended.sizes in
      below-init now.initialized k (byte_in now k) (omega (arith, sizes, initialized_is, high))
      ∙ longer.stored-now x gains within limit large (placed run w.needs) (touched run w.needs) k
      ∙ subst (λ b. stored_byte mid.cluster b (spot_of (its_runs ++ option_to_list run)) k ≡ slice_index bytes (k - from)) same-size
      (w.writes.here told k (low, high))

  -- one beside them holds what it held where the flags of the run were set
  beside : (k : ℕ) → (k < from) ⊎ (end ≤ k) → stored_byte mid.cluster size (spot_of (its_runs ++ option_to_list run)) k
      ≡ stored_byte x.p.flagged.cluster size (spot_of (its_runs ++ option_to_list run)) k
  beside k out = subst (λ b. stored_byte mid.cluster b (spot_of (its_runs ++ option_to_list run)) k
      ≡ stored_byte x.p.flagged.cluster b (spot_of (its_runs ++ option_to_list run)) k) same-size (w.writes.others told k out)

  kept-byte : (k : ℕ) → (k < from) ⊎ (end ≤ k)
      → byte_of (longer.stream_now x gains within limit large (placed run w.needs) (touched run w.needs)) k ≡ slice_index held k
  kept-byte k out = elim (cases_lt k x.e.extended.can.extent.sizes.initialized) [
    | inl low ↦
        let first = fits-then.initialized in
        let was = fits-then.real in
        longer.shown-still x gains within limit large (placed run w.needs) (touched run w.needs) k low
        (omega (arith, low, initialized_is))
        (longer.stored-now x gains within limit large (placed run w.needs) (touched run w.needs) k ∙ beside k out
        ∙ longer.stored-flagged x gains within limit large (placed run w.needs) (touched run w.needs) k
        (omega (arith, low, first, was)))
    | inr past ↦
        let behind : end ≤ k = elim out [ inl front ↦ absurd (omega (arith, front, begins, past)) | inr le ↦ le ] in
        longer.shown-zero x gains within limit large (placed run w.needs) (touched run w.needs) k
        (omega (arith, past, behind, initialized_is)) past
  ]

  each-byte : (k : ℕ) → k < max (length held) end
      → byte_of (longer.stream_now x gains within limit large (placed run w.needs) (touched run w.needs)) k
      ≡ written_byte (slice_index held) from bytes k
  each-byte k below = elim (cases_lt k from) [
    | inl front ↦
        kept-byte k (inl front) ∙ sym (out-of-range from end k (slice_index bytes (k - from)) (slice_index held k) (inl front))
    | inr low ↦ elim (cases_lt k end) [
      | inl high ↦ put-byte k low high ∙ sym (in-range from end k (slice_index bytes (k - from)) (slice_index held k) low high)
      | inr past ↦
          kept-byte k (inr past) ∙ sym (out-of-range from end k (slice_index bytes (k - from)) (slice_index held k) (inr past))
    ]
  ]

  behind-put : PutsGiving old new f name (Some (written from bytes held)) gains [] (option_to_list run)
  behind-put =
      let long = (longer.held-old x gains within limit large (placed run w.needs) (touched run w.needs)).len in
      longer.longer-put x gains within limit large (placed run w.needs) (touched run w.needs) (written_byte (slice_index held) from bytes)
      (max (length held) end) (written from bytes held) (omega (arith, real_is, long)) (written-list held bytes from) each-byte

pub written-put : (old flagged mid new : VolumeView) (f i : ℕ) (node : Node) (asked name held : List ℕ) (run : Option Run)
    (from real initialized : ℕ) (bytes : List ℕ) → (e : ExtendsExtent mid new f i real initialized run) → CanSet old f node
    → FindsPlain old f node asked name held → IsInOneRecord old f → IsStreamOf name e.was → parts_at old f DATA name ≡ part_of f e.was ∷ []
    → WritesBehind old flagged mid e.extended.can.runs run from bytes → from ≤ e.extended.can.extent.sizes.initialized
    → real ≡ max e.extended.can.extent.sizes.real (from + length bytes)
    → initialized ≡ max e.extended.can.extent.sizes.initialized (from + length bytes)
    → PutsGiving old new f name (Some (written from bytes held)) (touches (cluster_bytes old.layout) from (length bytes)) []
    (option_to_list run)
unfolding prepared-behind
written-put old flagged mid new f i node asked name held run from real initialized bytes e can finds one is stood w begins real_is
    initialized_is =
    let runs = e.extended.can.runs in
    let spots : (vcn : ℕ) → spot_at (parts_at old f DATA name) vcn ≡ spot_of runs vcn = λ vcn. ap (λ xs. spot_at xs vcn) stood
    ∙ extent.spot-runs (cluster_bytes mid.layout) (part_of f e.was) e.extended.can.extent runs e.extended.can.is e.extended.can.first vcn in
    let x : ExtendsFound old mid new f i real initialized run node asked name held = record {
      p = prepared-behind old flagged mid f name runs run from bytes w spots;
      e = e;
      can = can;
      finds = finds;
      one = one;
      is = is;
      stood = stood;
    } in
    behind-put x from bytes w begins real_is initialized_is
