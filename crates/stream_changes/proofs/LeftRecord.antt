-- A VALUE THAT CAN LEAVE ITS RECORD: what is known of its attribute, and of a run that it may take.
use Rattle.std.proofs.Common.{◌≡◌, ◌==◌, ◌+◌, ◌*◌, ◌-◌, ◌/◌, ◌%◌, ◌^◌, ◌<◌, ◌≤◌, ℕ, List, [], ◌∷◌, Option, None, Some, length}
use Rattle.std.proofs.Common.{refl, sym, ap, subst, ◌∙◌, arith}
use Rattle.std.specs.List.{Contains, range_with_len}
use Rattle.std.specs.Option.{option_to_list}
use Rattle.std.specs.Prelude.{IfSome, IsSome, IsSomeAnd, IsTrue}
use Rattle.std.specs.Str.{bytes_eq}
use Rattle.std.proofs.Math.Nat.{div-lt_iff_lt-mul, le-div_iff_mul-le, mul-le-mul_right}
use Rattle.std.proofs.lemmas.Bool.{and_parts, eqb-true}
use Rattle.std.proofs.lemmas.Nat.{mod_below}
use Rattle.std.proofs.lemmas.Slice.Eq.{bytes_eq-Decides}
use Rattle.list_laws.proofs.MemberLaws.{Contains-from_filter, Contains-from_flat_map, Contains-head, Contains-nil, Contains-only}
use Rattle.list_laws.proofs.OptionLaws.{some-value}
use Rattle.ntfs_def.specs.Attribute.{Attribute}
use Rattle.ntfs_def.specs.Fixup.{opened_of}
use Rattle.ntfs_def.specs.Record.{used_size}
use Rattle.ntfs_def.specs.Rounded.{clusters_for}
use Rattle.ntfs_def.specs.Runs.{EndsInReach, spot_of, total_clusters}
use Rattle.ntfs_def.specs.declared.kinds.TheConstants.{DATA}
use Rattle.ntfs_def.specs.declared.run_text.Run.{Run}
use Rattle.ntfs_def.specs.declared.run_text.Spot.{Spot}
use Rattle.ntfs_def.specs.declared.run_text.Spot.TheVariants.{At, Hole, Outside}
use Rattle.ntfs_def.proofs.SpotLaws.{spot_of-none}
use Rattle.volume_def.specs.Blocks.{place_at}
use Rattle.volume_def.specs.Coverage.{times_covered}
use Rattle.volume_def.specs.Files.{Part, Record, content_value, file_of, is_base, is_of, part_of, parts, parts_at, record_on, records_of}
use Rattle.volume_def.specs.ListsClause.{HasRightList}
use Rattle.volume_def.specs.Room.{free_bytes}
use Rattle.volume_def.specs.Sound as clauses
use Rattle.volume_def.specs.Table.{TableLayout, cluster_bytes}
use Rattle.volume_def.specs.Values.{pieces_touched}
use Rattle.volume_def.specs.View.{VolumeView}
use Rattle.volume_def.proofs.RunPieces.{total-cons}
use Rattle.volume_def.proofs.RunPlaces.{times_in-spot_of}
use Rattle.volume_edits.specs.Clusters.{IsOwnStream, IsPlaced, stream_place}
use Rattle.file_record.specs.Records.{IsRecordOf}
use Rattle.sparse_io.specs.Overwritten.{touched_sectors}
use Rattle.sparse_io.specs.declared.find.FoundStream.{FoundStream}
use Rattle.stored_bits.specs.Taken.{IsUnownedRun}
use Rattle.value_edits.specs.ValueEdits.{IsStreamOf}
use Rattle.value_edits.proofs.Below.{body-value}
use Rattle.value_edits.proofs.CutExtent.{room-for}
use Rattle.tree_edit.proofs.Below.{node-file}
use Rattle.stream_changes.specs.Staged.{IsOfFree}
use Rattle.stream_changes.proofs.OwnRuns.{longer-own, run-placed}
use Rattle.stream_changes.specs.Moving.{CanLeave, CannotMovePart}
use Rattle.stream_changes.proofs.ValueBytes.{value-long}

-- NUMBERS: some bytes need a cluster, and few enough can be told.
pub some-clusters : (bytes size : ℕ) → 0 < bytes → 0 < size → 0 < clusters_for bytes size
some-clusters bytes size some positive =
    let one : 1 ≤ (bytes + (size - 1)) / size = (le-div_iff_mul-le positive).1 (omega (arith, some, positive)) in
    omega (arith, one)

pub told-clusters : (bytes sectors len : ℕ) → bytes ≤ 2 ^ 40 → 0 < sectors → sectors ≤ 8 → len ≤ bytes → len * (512 * sectors) < 2 ^ 64
told-clusters bytes sectors len near some few low =
    let most : len * (512 * sectors) ≤ 2 ^ 40 * (512 * sectors) = mul-le-mul_right (512 * sectors) (omega (arith, near, low)) in
    omega (arith, most, few)

-- a run with a place is short enough to be told
pub few-placed : (len : ℕ) (lcn : Option ℕ) → IsSome lcn → EndsInReach len lcn → len ≤ 2 ^ 62
few-placed len None is reach = cc
few-placed len (Some place) is reach = omega (arith, reach)

-- THE ATTRIBUTE of the only part of a stream is a stream of its name.
pub stream-of : (v : VolumeView) (f : ℕ) (name : List ℕ) (part : Part) → parts_at v f DATA name ≡ part ∷ [] → (n : ℕ) (was : Attribute)
    → part_of n was ≡ part → IsStreamOf name was
stream-of v f name part alone n was is =
    let itself = (Contains-from_filter (is_of DATA name) (parts (records_of v) f) part
    (subst (λ (ps : List Part). Contains ps part) (sym alone) (Contains-head part []))).1 in
    let both = and_parts (part.kind == DATA) (bytes_eq part.name name) itself in
    record {
      kind = ap (λ (p : Part). p.kind) is ∙ eqb-true part.kind DATA both.0;
      name_is = ap (λ (p : Part). p.name) is ∙ (bytes_eq-Decides part.name name).0 both.1;
    }

module _ (v : VolumeView) (found : FoundStream) (f size : ℕ) (can : CanLeave v found f size) where
  pub positive : 0 < cluster_bytes v.layout
  positive = let some = can.named.can.can.apart.some in omega (arith, some)

  -- all parts of the file stand in its base record
  pub alone : (n : ℕ) → IsRecordOf v f n → n ≡ f
  alone n is =
      let own = some-value (record_on v n) (λ r. file_of n r ≡ f) is.belongs in
      let right = listed (record_on v f) (node-file v f can.named.can.node can.named.can.can.there)
      (can.named.can.can.sound clauses.Lists f) in
      subst (λ (o : Option Record). IfSome o (λ r. file_of n r ≡ f → n ≡ f)) own.1 (right.alone can.one.no_list n) own.2
    where
      listed : (o : Option Record) → IsSomeAnd o (λ r. IsTrue (is_base r))
          → IfSome o (λ r. IsTrue (is_base r) → HasRightList v f (parts (records_of v) f)) → HasRightList v f (parts (records_of v) f)
      listed None is lists = absurd is
      listed (Some r) is lists = lists is

  -- THE RECORD HAS ROOM for the extent, so long as no byte of it changed.
  pub moves-always : (mid : VolumeView) → ((n : ℕ) → mid.block n ≡ v.block n) → ((n : ℕ) → IsRecordOf mid f n → IsRecordOf v f n)
      → CannotMovePart mid f can.part → ⊥
  moves-always mid blocks own r =
      let content = ap (λ (p : Part). p.content) r.is ∙ can.is in
      let lacks = r.lacks (record {
        value = can.named.held;
        is = content;
        flags = ap (λ (p : Part). p.flags) r.is ∙ can.flags;
      }) in
      let long = (value-long mid f r.n r.i r.own r.was can.named.held r.there (sym (body-value r.was.body) ∙ ap content_value content)).0 in
      let free : free_bytes mid r.n ≡ free_bytes v f =
      ap (λ (n : ℕ). free_bytes mid n) (alone r.n (own r.n r.own)) ∙ free-same mid blocks in
      let name = ap (λ (p : Part). length p.name) r.is in
      omega (arith, lacks, long, free, name, can.fits)
    where
      free-same : (mid : VolumeView) → ((n : ℕ) → mid.block n ≡ v.block n) → free_bytes mid f ≡ free_bytes v f
      free-same mid blocks = ap (λ (block : List ℕ). 1024 - used_size (opened_of block)) (blocks f)

  -- A RUN for so many bytes
  module _ (run : Run) (len : run.len ≡ clusters_for size (cluster_bytes v.layout)) where
    pub run-room : size ≤ run.len * cluster_bytes v.layout
    run-room =
        let room = room-for size (cluster_bytes v.layout) positive in
        let scaled = ap (λ n. n * cluster_bytes v.layout) len in
        omega (arith, room, scaled)

    pub run-total : total_clusters (run ∷ []) ≡ run.len
    run-total = let one = total-cons run [] in let none : total_clusters [] ≡ 0 = refl in omega (arith, one, none)

    -- .. has them at their places
    pub run-placed-all : IsSome run.lcn → (put : ℕ) → put ≤ size → IsPlaced (cluster_bytes v.layout) (spot_of (run ∷ [])) 0 put
    run-placed-all placed put fits i within =
        let inside : i / cluster_bytes v.layout < run.len =
        (div-lt_iff_lt-mul positive).1 (let room = run-room in omega (arith, within.1, fits, room)) in
        run-placed run (i / cluster_bytes v.layout) placed inside

  -- .. and its clusters are its own
  pub run-own : (run : Run) → IsUnownedRun v run → IsOwnStream v.layout (spot_of (run ∷ []))
  run-own run free =
      longer-own v can.named.can.can.apart.owners can.named.can.can.apart.some [] (Some run)
      (record {
        inside = λ vcn c at. absurd (nowhere vcn c at);
        outside = λ vcn c at. absurd (nowhere vcn c at);
        once = λ vcn other c at there. absurd (nowhere vcn c at);
      })
      (λ c. let none : times_covered [] c ≡ 0 = refl in omega (arith, none)) free
    where
      nowhere : (vcn c : ℕ) → spot_of [] vcn ≡ At c → ⊥
      nowhere vcn c at = let none = spot_of-none vcn in cc

  -- A SECTOR of it that bytes touch lies in a cluster without an owner.
  place-cluster : (layout : TableLayout) (k : ℕ) (spot : Spot) (sector : ℕ) → Contains (option_to_list (place_at layout k spot)) sector
      → (c : ℕ) × (spot ≡ At c) × (sector ≡ c * layout.cluster_sectors + k % layout.cluster_sectors)
  place-cluster layout k Outside sector c = absurd (Contains-nil sector c)
  place-cluster layout k Hole sector c = absurd (Contains-nil sector c)
  place-cluster layout k (At c) sector among =
      (c, refl, sym (Contains-only (c * layout.cluster_sectors + k % layout.cluster_sectors) sector among))

  pub run-touched : (run : Run) → IsUnownedRun v run → (at len sector : ℕ)
      → Contains (touched_sectors v.layout (spot_of (run ∷ [])) at len) sector → IsOfFree v sector
  run-touched run free at len sector among =
      let spot : ℕ → Spot = spot_of (run ∷ []) in
      let many = 512 * pieces_touched at len in
      let its = Contains-from_flat_map (λ k. option_to_list (stream_place v.layout spot k)) (range_with_len (at / 512) (many / 512))
      sector among in
      let k = its.0 in
      let lies = place-cluster v.layout k (spot (k / v.layout.cluster_sectors)) sector its.2 in
      let covered = times_in-spot_of (run ∷ []) (k / v.layout.cluster_sectors) lies.0 lies.1 in
      let below = mod_below k v.layout.cluster_sectors can.named.can.can.apart.some in
      let is = lies.2 in
      record {
        cluster = lies.0;
        inside = free.inside lies.0 covered;
        unowned = free.unowned lies.0 covered;
        low = omega (arith, is);
        high = omega (arith, is, below);
      }
