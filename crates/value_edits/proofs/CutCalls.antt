-- A STREAM IN CLUSTERS THAT IS CUT, after its clusters behind the new end were given back: it has the bytes up to there.
use Rattle.std.proofs.Common.{◌≡◌, ◌⊎◌, ◌+◌, ◌*◌, ◌-◌, ◌≤◌, ◌<◌, ◌^◌, ℕ, true, false, List, [], ◌∷◌, drop}
use Rattle.std.proofs.Common.{Some, filter, refl, sym, ap, subst, inl, inr, ◌∙◌, arith}
use Rattle.std.specs.Prelude.{IfSome, IsSome, count_by, min, nat_lt}
use Rattle.std.proofs.lemmas.Bool.{both_ways, cases_lt, le-ltb, lt-ltb}
use Rattle.std.proofs.lemmas.Nat.{le-div}
use Rattle.list_laws.proofs.MemberLaws.{Contains-head}
use Rattle.list_laws.proofs.ReplacesLaws.{Replaces-stood}
use Rattle.ntfs_def.specs.Fixup.{opened_of}
use Rattle.ntfs_def.specs.Flags.{is_packed, is_sparse}
use Rattle.ntfs_def.specs.Rounded.{clusters_for}
use Rattle.ntfs_def.specs.Runs.{IsRunListFrom, clusters_of}
use Rattle.ntfs_def.specs.declared.kinds.TheConstants.{DATA}
use Rattle.ntfs_def.specs.declared.run_text.Run.{Run}
use Rattle.ntfs_def.specs.declared.run_text.Spot.TheVariants.{At}
use Rattle.ntfs_def.specs.declared.sizes.Sizes.{Sizes}
use Rattle.volume_def.specs.AttributesClause.{is_kept_resident}
use Rattle.volume_def.specs.Coverage.{times_covered}
use Rattle.volume_def.specs.ExtentsClause.{AreAttribute}
use Rattle.volume_def.specs.Files.{Content, Part, Records, content_extent, is_of, part_of, part_runs, parts}
use Rattle.volume_def.specs.Files.{parts_at}
use Rattle.volume_def.specs.LimitsClause.{IsInLimits}
use Rattle.volume_def.specs.Table.{cluster_bytes}
use Rattle.volume_def.specs.Values.{first_part, spot_at}
use Rattle.volume_def.specs.View.{VolumeView}
use Rattle.volume_def.proofs.SoundLaws.{readable-sound}
use Rattle.tree_model.specs.StreamRoom.{is_cluster}
use Rattle.tree_model.specs.Streams.{resized}
use Rattle.tree_model.specs.declared.tree.Node.{Node}
use Rattle.edit_def.specs.Kept.{Key, key_of}
use Rattle.edit_def.proofs.Sums.{clusters_for-least}
use Rattle.session_def.specs.Nodes.{IsSpreadRight, IsSpreadSame, Spread, has_hole, spread_of}
use Rattle.record_edits.specs.Given.{GivesBack}
use Rattle.record_edits.specs.InPlace.{is_bits_key}
use Rattle.record_edits.specs.Owners.{is_at, times_in}
use Rattle.record_edits.proofs.BlockEdits.{attribute-stays}
use Rattle.record_edits.proofs.FillLaws.{times-cut}
use Rattle.record_edits.proofs.PlaceEdits.{clusters-kept, same}
use Rattle.record_edits.proofs.RunTimes.{times-clusters}
use Rattle.stream_overwrites.specs.Below.{IsInOneRecord}
use Rattle.stream_overwrites.proofs.Below.{right-put}
use Rattle.stream_edits.specs.Steps.{Cuts}
use Rattle.stream_edits.specs.Streams.{ClusterStream, HasStream, ShowsList, extents_at, stream_of}
use Rattle.stream_edits.proofs.ShownLists.{list-cut, list-held, list-shown}
use Rattle.in_place_owed.specs.Below.{CanSet, LiesApart}
use Rattle.extent_edits.specs.Cut.{CutsExtent}
use Rattle.stream_overwrites.specs.Overwritten.{FindsPlain}
use Rattle.stream_overwrites.proofs.FoundStream as found
use Rattle.stream_overwrites.proofs.ShownFile.{file}
use Rattle.value_edits.specs.ValueEdits.{ComesInPlace, EditsAlone, EndsBy, IsStreamOf, PutsGiving, PutsValue, no_gain}
use Rattle.value_edits.proofs.CutExtent as shorter
use Rattle.value_edits.proofs.EditedRecord as value
use Rattle.value_edits.proofs.ExtentCalls.{header-kept, near, no-bits, no-table, right-mid}
use Rattle.value_edits.proofs.OnePart.{first-one}
use Rattle.value_edits.proofs.Prepared.{given-prepared}
use Rattle.value_edits.proofs.RunHoles.{text-list}
use Rattle.value_edits.proofs.SparseSizes.{sparse-told}
use Rattle.value_edits.proofs.ValueCalls.{no-name, no-standard, plain-one}

-- so many clusters reach the byte
reaches : (vcn size bytes : ℕ) → 0 < bytes → vcn * bytes < size → vcn < clusters_for size bytes
reaches vcn size bytes some inside =
    let next : (vcn + 1) * bytes ≡ vcn * bytes + bytes = omega arith in
    let up = le-div (vcn + 1) (size + (bytes - 1)) bytes some (omega (arith, next, inside, some)) in
    omega (arith, up)

-- a lesser initialized size tells no other byte below the end
below-least : (i a size : ℕ) → i < size → nat_lt i (min a size) ≡ nat_lt i a
below-least i a size inside = elim (cases_lt i a) [
  | inl below ↦ lt-ltb i (min a size) (omega (arith, below, inside)) ∙ sym (lt-ltb i a below)
  | inr past ↦ le-ltb i (min a size) (omega (arith, past)) ∙ sym (le-ltb i a past)
]

module _ (old mid new : VolumeView) (f i size : ℕ) (node : Node) (name : List ℕ) (given : List Run) (gives : GivesBack old mid given)
    (e : CutsExtent mid new f i size) (can : CanSet old f node) (one : IsInOneRecord old f) (is : IsStreamOf name e.was)
    (stood : parts_at old f DATA name ≡ part_of f e.was ∷ [])
    (behind : clusters_of given ≡ drop (clusters_for size (cluster_bytes old.layout)) (clusters_of e.cut.can.runs)) where
  abbrev key : Key
  key = key_of f DATA name

  abbrev was : Part
  was = part_of f e.was

  abbrev now : Part
  now = part_of f e.now

  abbrev bytes : ℕ
  bytes = cluster_bytes mid.layout

  abbrev many : ℕ
  many = clusters_for size bytes

  bytes-same : bytes ≡ cluster_bytes old.layout
  bytes-same = ap cluster_bytes gives.writes.layout

  some : 0 < bytes
  some = omega (arith, can.apart.some, bytes-same)

  kind-now : e.now.kind ≡ DATA
  kind-now = e.kind ∙ is.kind

  -- IN LIMITS, as the longer one was
  limits-now : IsInLimits f now
  limits-now kind good =
      let real = ap (λ (s : Sizes). s.real) e.cut.sizes in
      let most = near old f node name can was e.cut.can.extent e.cut.can.runs is.kind stood e.cut.can.is e.cut.can.first in
      subst (λ (content : Content). IfSome (content_extent content) (λ extent. extent.sizes.first ≡ 0 → extent.sizes.real ≤ 2 ^ 40))
      (sym e.cut.is) (λ zero. omega (arith, real, most, e.cut.can.long))

  -- A SPARSE ONE tells the bytes of its clusters that are no hole.
  sparse-number : is_sparse e.now.flags ≡ true → IsSome e.cut.can.extent.compressed
  sparse-number sparse =
      sparse-told (opened_of (mid.block f)) e.was
      (Replaces-stood _ _ _ _ e.was e.edits.attributes_are (Contains-head e.was [])) e.cut.can.extent (Some e.cut.can.runs) e.cut.can.is
      e.cut.can.first (ap is_sparse (sym e.flags) ∙ sparse)

  holes-now : has_hole (now ∷ []) ≡ true → has_hole (was ∷ []) ≡ true
  holes-now =
      shorter.holes bytes size some was now e.cut
      (subst (IsRunListFrom 0) (sym (shorter.runs-now bytes size some was now e.cut))
      (text-list e.now.body e.cut.extent e.cut.runs e.cut.is))

  -- WHAT COMES
  comes : ComesInPlace old f no_gain 0 e.was e.now
  comes = record {
    kind = e.kind;
    name = e.name;
    form = inl e.form;
    limits = limits-now;
    whole = subst (λ b. AreAttribute b f (now ∷ [])) bytes-same (shorter.whole bytes size some was now e.cut f);
    size = let less = shorter.size-less bytes size some was now e.cut in omega (arith, less);
    spots = λ vcn lies. inl (shorter.spots bytes size some was now e.cut vcn lies);
    holes = holes-now;
    keeps = record {
      flags = inl (shorter.flags-kept bytes size some was now e.cut e.flags);
      sizes = subst (λ b. IfSome (spread_of (now ∷ [])) (λ (s : Spread). IsSpreadSame (was ∷ []) (now ∷ []) ⊎ IsSpreadRight b (now ∷ []) s))
          bytes-same (shorter.sizes-told bytes size some was now e.cut sparse-number);
      sparse = λ holed none. absurd (both_ways _ none (holes-now holed));
    };
  }

  balance : (c : ℕ) → times_in (now ∷ []) c + times_covered given c ≡ times_in (was ∷ []) c + times_covered [] c
  balance c =
      let less = times-cut was now many (shorter.clusters-now bytes size some was now e.cut) c in
      let its : clusters_of given ≡ drop many (clusters_of (part_runs was)) =
      behind ∙ ap (λ b. drop (clusters_for size b) (clusters_of e.cut.can.runs)) (sym bytes-same)
      ∙ ap (λ (runs : List Run). drop many (clusters_of runs)) (sym (shorter.runs-was bytes size some was now e.cut)) in
      let counted = times-clusters given c ∙ ap (count_by (is_at c)) its in
      let none : times_covered [] c ≡ 0 = refl in
      omega (arith, less, counted, none)

  cut-edit : EditsAlone key no_gain old new
  cut-edit = record {
    one = one;
    kind = refl;
    was = e.was;
    now = Some e.now;
    was_of = record { kind = is.kind; name = is.name_is };
    stood = stood;
    given = given;
    taken = [];
    mid = mid;
    prepares = given-prepared key old mid given gives;
    comes = comes;
    balance = balance;
    stored = e.stored;
    block = e.edits;
    header = header-kept old mid f (gives.writes.blocks f) (same is_bits_key old mid gives.writes) e.stored e.header;
    right = right-put mid new f e.stored e.was e.now e.edits
        (right-mid old mid f (gives.writes.blocks f) (same is_bits_key old mid gives.writes) new e.stored (e.was ∷ []) (e.now ∷ []) e.edits
        can.sound) e.kind (inl e.id) (record {
          resident = λ kept. let never = sym (ap is_kept_resident kind-now) ∙ kept in cc;
          name = λ named. absurd (no-name e.now kind-now named);
        })
        (λ base standard. absurd (no-standard e.now kind-now standard));
  }

  -- WHERE IT LIES THEN, and what its clusters hold
  apart-mid : LiesApart mid
  unfolding cut-edit
  apart-mid = value.apart-mid key old new can.sound can.apart cut-edit

  stands : parts_at new f DATA name ≡ now ∷ []
  unfolding cut-edit
  stands = value.stands key old new can.sound can.apart cut-edit

  spot-kept : (vcn : ℕ) → vcn < many → spot_at (extents_at new key) vcn ≡ spot_at (extents_at old key) vcn
  spot-kept vcn inside =
      ap (λ xs. spot_at xs vcn) stands ∙ shorter.spot-inside bytes size some was now e.cut vcn inside
      ∙ sym (ap (λ xs. spot_at xs vcn) stood)

  holds-still : (vcn c : ℕ) → spot_at (extents_at old key) vcn ≡ At c → new.cluster c ≡ old.cluster c
  holds-still vcn c at =
      let at_mid = ap (λ (r : Records). spot_at (filter (is_of DATA name) (parts r f)) vcn) (same is_bits_key old mid gives.writes) ∙ at in
      attribute-stays mid new e.edits.replaces.clusters apart-mid.owners apart-mid.some apart-mid.unnamed f DATA name
      (no-table old f node name can) vcn c at_mid
      ∙ clusters-kept is_bits_key old mid gives.writes can.apart.owners f DATA name (no-bits old f node name can) vcn c at

  kept : (vcn c : ℕ) → spot_at (extents_at new key) vcn ≡ At c → new.cluster c ≡ old.cluster c
  kept vcn c at = elim (cases_lt vcn many) [
    | inl inside ↦ holds-still vcn c (sym (spot-kept vcn inside) ∙ at)
    | inr past ↦
        let outside = ap (λ xs. spot_at xs vcn) stands ∙ shorter.spot-past bytes size some was now e.cut vcn past in
        let never = sym (ap is_cluster outside) ∙ ap is_cluster at in
        cc
  ]

  -- THE CUT, as a step of the stream
  abbrev before : ClusterStream
  before = stream_of old (extents_at old key) e.cut.can.extent

  abbrev after : ClusterStream
  after = stream_of new (extents_at new key) e.cut.extent

  bytes-now : cluster_bytes new.layout ≡ cluster_bytes old.layout
  bytes-now = ap cluster_bytes (value.layout key old new can.sound can.apart cut-edit)

  cuts : Cuts before after size
  cuts = record {
    size = bytes-now;
    spot = λ vcn inside. spot-kept vcn (reaches vcn size bytes some (subst (λ b. vcn * b < size) (sym bytes-same) inside));
    kept = kept;
    real = ap (λ (s : Sizes). s.real) e.cut.sizes;
    less = e.cut.can.long;
    initialized = λ k inside.
        ap (λ (s : Sizes). nat_lt k s.initialized) e.cut.sizes ∙ below-least k e.cut.can.extent.sizes.initialized size inside;
  }

  first-old : first_part (extents_at old key) ≡ Some was
  first-old = ap first_part stood ∙ first-one was (shorter.first-was bytes size some was now e.cut)

  has-old : HasStream old key e.was.flags before
  has-old = record {
    part = was;
    first = first-old;
    flags_are = refl;
    extent = e.cut.can.extent;
    runs = Some e.cut.can.runs;
    content = e.cut.can.is;
    is = refl;
  }

  has-new : HasStream new key e.now.flags after
  has-new = record {
    part = now;
    first = ap first_part stands ∙ first-one now (shorter.first-now bytes size some was now e.cut);
    flags_are = refl;
    extent = e.cut.extent;
    runs = Some e.cut.runs;
    content = e.cut.is;
    is = refl;
  }

  -- WHAT IT SHOWS
  module _ (asked held : List ℕ) (finds : FindsPlain old f node asked name held) where
    held-old : ShowsList before held
    held-old = subst (ShowsList before)
        (found.value old f node asked name held (readable-sound old can.sound) (file old f node can.there) can.there finds)
        (list-shown old key e.was.flags before has-old)

    plain-now : is_packed DATA e.now.flags ≡ false
    plain-now = ap (is_packed DATA) e.flags
        ∙ plain-one old f node asked name held can finds was stood (first-one was (shorter.first-was bytes size some was now e.cut)) is.kind

    cut-put : PutsValue old new f name (Some (resized size held)) no_gain
    cut-put = record {
      edits = cut-edit;
      shows = list-held new key e.now.flags after (resized size held) has-new (list-cut before after held size cuts held-old) plain-now;
    }

  -- its last cluster holds some of its bytes
  cut-ends : EndsBy new f name size
  cut-ends vcn lies = elim (cases_lt (vcn * bytes) size) [
    | inl below ↦ subst (λ b. vcn * b < size) (bytes-same ∙ sym bytes-now) below
    | inr past ↦
        let never = sym (ap (λ xs. is_cluster (spot_at xs vcn)) stands
        ∙ ap is_cluster (shorter.spot-past bytes size some was now e.cut vcn (clusters_for-least vcn size bytes some past))) ∙ lies in
        cc
  ]

pub cut-given : (old mid new : VolumeView) (f i size : ℕ) (node : Node) (asked name held : List ℕ) (given : List Run)
    → GivesBack old mid given → (e : CutsExtent mid new f i size) → CanSet old f node → FindsPlain old f node asked name held
    → IsInOneRecord old f → IsStreamOf name e.was → parts_at old f DATA name ≡ part_of f e.was ∷ []
    → clusters_of given ≡ drop (clusters_for size (cluster_bytes old.layout)) (clusters_of e.cut.can.runs)
    → PutsGiving old new f name (Some (resized size held)) no_gain given [] × EndsBy new f name size
unfolding cut-put cut-edit
cut-given old mid new f i size node asked name held given gives e can finds one is stood behind = (
  record {
    puts = cut-put old mid new f i size node name given gives e can one is stood behind asked held finds;
    given_are = refl;
    taken_are = refl;
  },
  cut-ends old mid new f i size node name given gives e can one is stood behind,
)
