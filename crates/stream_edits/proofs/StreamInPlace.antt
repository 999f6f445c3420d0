-- BYTES WRITTEN INTO THE CLUSTERS OF A STREAM are put into it.
use Rattle.std.proofs.Common.{◌≡◌, ◌≤◌, ◌+◌, ℕ, List, length, filter, refl, sym, ap, subst, ◌∙◌, arith}
use Rattle.std.specs.Prelude.{IsTrue}
use Rattle.volume_def.specs.Files.{Part, is_of, parts}
use Rattle.volume_def.specs.Table.{TableLayout, cluster_bytes}
use Rattle.volume_def.specs.Values.{first_part, spot_at, stored_byte}
use Rattle.volume_def.specs.View.{VolumeView}
use Rattle.volume_edits.specs.Clusters.{WritesStream}
use Rattle.volume_edits.proofs.StreamClusters.{records-written}
use Rattle.edit_def.specs.Kept.{Key}
use Rattle.stream_edits.specs.Steps.{Patches}
use Rattle.stream_edits.specs.Streams.{ClusterStream, HasStream, byte_in, extents_at, stream_of}

pub stream-put : (old new : VolumeView) (key : Key) (flags : ℕ) (s : ClusterStream) (at : ℕ) (bytes : List ℕ) → HasStream old key flags s
    → WritesStream old new (spot_at (extents_at old key)) at bytes → IsTrue old.told → at + length bytes ≤ s.initialized
    → (t : ClusterStream) × HasStream new key flags t × Patches s t at bytes
stream-put old new key flags s at bytes has w told below = (now, holds, subst (λ z. Patches z now at bytes) (sym has.is) patched)
  where
    now : ClusterStream
    now = stream_of new (extents_at new key) has.extent

    before : ClusterStream
    before = stream_of old (extents_at old key) has.extent

    same : extents_at new key ≡ extents_at old key
    same = ap (λ r. filter (is_of key.kind key.name) (parts r key.file)) (records-written old new (spot_at (extents_at old key)) at bytes w)

    holds : HasStream new key flags now
    holds = record {
      part = has.part;
      first = ap first_part same ∙ has.first;
      flags_are = has.flags_are;
      extent = has.extent;
      runs = has.runs;
      content = has.content;
      is = refl;
    }

    stored : (i : ℕ) → byte_in now i ≡ stored_byte new.cluster (cluster_bytes old.layout) (spot_at (extents_at old key)) i
    stored i =
        ap (λ (l : TableLayout). stored_byte new.cluster (cluster_bytes l) (spot_at (extents_at new key)) i) w.layout
        ∙ ap (λ (all : List Part). stored_byte new.cluster (cluster_bytes old.layout) (spot_at all) i) same

    patched : Patches before now at bytes
    patched = record {
      sizes = record { size = ap (λ (l : TableLayout). cluster_bytes l) w.layout; initialized = refl; real = refl };
      spot = λ vcn. ap (λ (all : List Part). spot_at all vcn) same;
      below = λ i low high. omega (arith, high, subst (λ z. at + length bytes ≤ z.initialized) has.is below);
      inside = λ i low high. stored i ∙ w.here told i (low, high);
      outside = λ i out. stored i ∙ w.others told i out;
    }
