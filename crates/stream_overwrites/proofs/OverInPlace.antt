-- BYTES THAT GO OVER BYTES of a stream lie in clusters that it has for itself, below its initialized size.
use Rattle.std.proofs.Common.{◌≡◌, ◌+◌, ◌-◌, ◌*◌, ◌/◌, ◌<◌, ◌≤◌, ◌==◌, ◌&&◌, ◌||◌, max, ℕ, Bool, true, false, not, List, Option, Some}
use Rattle.std.proofs.Common.{None, refl, ap, subst, inr, ◌∙◌, arith}
use Rattle.std.specs.List.{count_by, range_with_len}
use Rattle.std.specs.Option.{option_map_or}
use Rattle.std.specs.Prelude.{is_some, nat_le}
use Rattle.std.proofs.Math.Nat.{div-lt_iff_lt-mul}
use Rattle.std.proofs.lemmas.Bool.{and_parts, eqb-true, leb-true, lt-ltb}
use Rattle.std.proofs.lemmas.Nat.{div-add-mod', mod_below}
use Rattle.ntfs_def.specs.Rounded.{clusters_for}
use Rattle.ntfs_def.specs.declared.kinds.TheConstants.{DATA}
use Rattle.ntfs_def.specs.declared.run_text.Spot.{Spot}
use Rattle.ntfs_def.specs.declared.run_text.Spot.TheVariants.{At, Hole, Outside}
use Rattle.list_laws.proofs.FindLaws.{count-some}
use Rattle.list_laws.proofs.MemberLaws.{Contains-range}
use Rattle.volume_def.specs.BitmapClauses.{written_by}
use Rattle.volume_def.specs.Coverage.{IsApart}
use Rattle.volume_def.specs.Files.{Clusters, Content, Part, Value, parts_at}
use Rattle.volume_def.specs.StreamSize.{told_size}
use Rattle.volume_def.specs.Table.{cluster_bytes}
use Rattle.volume_def.specs.Values.{first_part, spot_at}
use Rattle.volume_def.specs.View.{VolumeView}
use Rattle.volume_def.proofs.SoundLaws.{readable-sound}
use Rattle.volume_edits.specs.Clusters.{IsInRange, IsWritable}
use Rattle.volume_edits.proofs.StreamClusters.{stream-own}
use Rattle.tree_model.specs.StreamRoom.{goes_over, initialized_in, initialized_size, is_cluster, is_in_place, new_clusters, parts_named}
use Rattle.tree_model.specs.StreamRoom.{stream_value_len, touches}
use Rattle.tree_model.specs.declared.tree.Node.{Node}
use Rattle.in_place.specs.Unnamed.{CanSet}
use Rattle.stream_overwrites.specs.Overwritten.{FindsPlain}
use Rattle.stream_overwrites.proofs.ShownFile.{file, not-mirror, not-table}
use Rattle.stream_overwrites.proofs.StreamParts as stream

-- the place is a cluster
placed-at : (spot : Spot) → is_cluster spot ≡ true → (c : ℕ) × (spot ≡ At c)
placed-at Outside e = cc
placed-at Hole e = cc
placed-at (At c) e = (c, refl)

-- a test that fails where its first part holds
second-fails : (a b c : Bool) → ((a || b) && not c) ≡ false → a ≡ true → c ≡ true
second-fails true b true e t = refl
second-fails true b false e t = cc
second-fails false b c e t = cc

-- each byte of so many lies in one of the clusters that are asked for them
in-rounded : (size m i : ℕ) → 0 < size → i < m → i / size < clusters_for m size
in-rounded size m i some inside =
    let whole = div-add-mod' (m + (size - 1)) size in
    let less = mod_below (m + (size - 1)) size some in
    (div-lt_iff_lt-mul some).1 (omega (arith, whole, less, inside, some))

-- the range touches the cluster of each of its bytes
touched : (size at len i : ℕ) → 0 < size → IsInRange at len i → touches size at len (i / size) ≡ true
touched size at len i some inside =
    let whole = div-add-mod' i size in
    let less = mod_below i size some in
    rw (
      lt-ltb 0 len (omega (arith, inside.0, inside.1)),
      lt-ltb (i / size * size) (at + len) (omega (arith, whole, inside.1)),
      lt-ltb at (i / size * size + size) (omega (arith, whole, less, inside.0)),
    ) refl

-- the bytes of a stream that were written, in either word
initialized-same : (o : Option Part) → option_map_or initialized_in o 0 ≡ written_by o
initialized-same None = refl
initialized-same (Some part) = by part.content
  where
    by : (content : Content) → initialized_in (record part { content = content }) ≡ written_by (Some (record part { content = content }))
    by (Value v) = refl
    by (Clusters extent runs) = refl

-- What is said of bytes that go over bytes.
record GoesOver (size : ℕ) (extents : List Part) (at len : ℕ) : Type 0 where
  placed : new_clusters size extents at len ≡ 0
  below : at + len ≤ initialized_size extents

goes-over : (size : ℕ) (extents : List Part) (at len : ℕ) → goes_over size extents at len ≡ true → GoesOver size extents at len
goes-over size extents at len e =
    let a = and_parts (is_some (first_part extents)) (is_in_place size extents at len && nat_le (at + len) (initialized_size extents)) e in
    let b = and_parts (is_in_place size extents at len) (nat_le (at + len) (initialized_size extents)) a.1 in
    let c = and_parts ((new_clusters size extents at len == 0) && nat_le at (initialized_size extents)) (nat_le (at + len) (told_size
    (first_part extents))) b.0 in
    let d = and_parts (new_clusters size extents at len == 0) (nat_le at (initialized_size extents)) c.0 in
    record {
      placed = eqb-true (new_clusters size extents at len) 0 d.0;
      below = leb-true (at + len) (initialized_size extents) b.1;
    }

-- whether a cluster of the stream is wanted, and how many are asked for
abbrev wanted : ℕ → List Part → ℕ → ℕ → ℕ → Bool
wanted size extents at len vcn =
    (touches size at len vcn || touches size 0 (stream_value_len extents) vcn) && not (is_cluster (spot_at extents vcn))

abbrev many : ℕ → List Part → ℕ → ℕ → ℕ
many size extents at len = clusters_for (max (at + len) (stream_value_len extents)) size

-- Where none is wanted each byte of the range lies in one.
each-placed : (size : ℕ) (extents : List Part) (at len : ℕ) → 0 < size → new_clusters size extents at len ≡ 0 → (i : ℕ)
    → IsInRange at len i → (c : ℕ) × (spot_at extents (i / size) ≡ At c)
each-placed size extents at len some none i inside =
    placed-at (spot_at extents (i / size)) (by (wanted size extents at len (i / size)) refl)
  where
    by : (b : Bool) → wanted size extents at len (i / size) ≡ b → is_cluster (spot_at extents (i / size)) ≡ true
    by true e =
        let below : i / size < many size extents at len =
        in-rounded size (max (at + len) (stream_value_len extents)) i some (omega (arith, inside.1)) in
        let among = Contains-range 0 (many size extents at len) (i / size) (omega arith) (omega (arith, below)) in
        let counted = count-some (wanted size extents at len) (range_with_len 0 (many size extents at len)) (i / size) among e in
        let nothing : count_by (wanted size extents at len) (range_with_len 0 (many size extents at len)) ≡ 0 = none in
        absurd (omega (arith, counted, nothing))
    by false e =
        second-fails (touches size at len (i / size)) (touches size 0 (stream_value_len extents) (i / size))
        (is_cluster (spot_at extents (i / size))) e (touched size at len i some inside)

pub over-in-place : (view : VolumeView) (f : ℕ) (node : Node) (asked name held : List ℕ) (at len : ℕ) → IsApart view.layout
    → CanSet view f node → (finds : FindsPlain view f node asked name held)
    → goes_over (cluster_bytes view.layout) (parts_named view f finds.stream.name) at len ≡ true
    → IsWritable view (parts_at view f DATA name) at len
over-in-place view f node asked name held at len apart can finds goes =
    let readable = readable-sound view can.sound in
    let size = cluster_bytes view.layout in
    let parts_same : parts_named view f finds.stream.name ≡ parts_at view f DATA name =
    ap (parts_named view f) finds.spelt
    ∙ stream.named-same view f name readable (file view f node can.there) finds.there finds.tellable in
    let over = goes-over size (parts_at view f DATA name) at len
    (subst (λ extents. goes_over size extents at len ≡ true) parts_same goes) in
    let some : 0 < size = (let s = can.apart.some in omega (arith, s)) in
    record {
      apart = apart;
      own = stream-own view f DATA name can.apart.owners can.apart.some
          (inr (not-table view f node can.there, not-mirror view f node can.there));
      placed = each-placed size (parts_at view f DATA name) at len some over.placed;
      below = subst (λ n. at + len ≤ n) (initialized-same (first_part (parts_at view f DATA name))) over.below;
    }
