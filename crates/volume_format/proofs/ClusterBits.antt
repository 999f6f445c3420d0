-- The clause on the cluster bitmap holds of a new volume: the bits of its items are set.
use Rattle.std.proofs.Common.{◌≡◌, ℕ, ◌*◌, ◌-◌, ◌/◌, ◌%◌, min, ◌<◌, ◌≤◌, List, [], ◌∷◌, Some, inl, inr, refl, ap, ◌∙◌, arith}
use Rattle.std.specs.Prelude.{All, IsSome, ◌↔◌}
use Rattle.std.specs.Int.{bit_at}
use Rattle.std.proofs.lemmas.Bool.{cases_lt}
use Rattle.std.proofs.lemmas.List.Elements.{All-from_recursion}
use Rattle.std.proofs.lemmas.List.FromFn.{length-map-range_with_len, get_or-map-range_with_len}
use Rattle.std.proofs.lemmas.Nat.Bits.{bit_at_ones, bit_at_ones_above}
use Rattle.ntfs_def.specs.declared.run_text.Run.{Run}
use Rattle.list_laws.specs.Bits.{bit_in}
use Rattle.volume_def.specs.BitmapClauses.{HasNoHole, MeetsClusterBits, cluster_bits}
use Rattle.volume_def.specs.Files.{Part, part_runs, records_of}
use Rattle.volume_def.specs.OwnersClause.{times_owned}
use Rattle.volume_def.specs.Values.{value_on}
use Rattle.volume_def.specs.View.{VolumeView}
use Rattle.volume_format.specs.Items.{ones_byte}
use Rattle.volume_format.specs.Plan.{Plan, bits_len, clusters_needed, items_end, planned_records, stream_part}
use Rattle.volume_format.specs.Planned.{IsPlanned}
use Rattle.volume_format.proofs.Contents.{cluster_bits-planned, cluster_bits-value}
use Rattle.volume_format.proofs.Owners.{times_owned-behind, times_owned-below}
use Rattle.volume_format.proofs.Records.{records_of-planned}

-- bit k of a bitmap whose first n bits are set
ones-below : (n k : ℕ) → k < n → bit_at (ones_byte n (k / 8)) (k % 8) ≡ 1
ones-below n k lt = bit_at_ones (min 8 (n - 8 * (k / 8))) (k % 8) (omega arith)

ones-behind : (n k : ℕ) → n ≤ k → bit_at (ones_byte n (k / 8)) (k % 8) ≡ 0
ones-behind n k le = bit_at_ones_above (min 8 (n - 8 * (k / 8))) (k % 8) (omega arith)

-- a stream of the plan lies in one run, which is no hole
pub HasNoHole-stream : (p : Plan) (n kind : ℕ) (name : List ℕ) (id at bytes : ℕ) → HasNoHole (stream_part p n kind name id at bytes ∷ [])
HasNoHole-stream p n kind name id at bytes =
    All-from_recursion (λ (a : Part). All (λ (run : Run). IsSome run.lcn) (part_runs a)) (stream_part p n kind name id at bytes ∷ [])
    (All-from_recursion (λ (run : Run). IsSome run.lcn) (record { len = clusters_needed p bytes; lcn = Some at } ∷ []) (refl, tt), tt)

module _ (p : Plan) (view : VolumeView) (is : IsPlanned p view) (some : 0 < p.size) where
  -- the bitmap has a bit for each cluster
  enough : (n : ℕ) → n < p.clusters → n / 8 < bits_len p
  enough n lt = omega arith

  bit-value : (n : ℕ) → n < p.clusters → bit_in (value_on view (cluster_bits view)) n ≡ bit_at (ones_byte (items_end p) (n / 8)) (n % 8)
  bit-value n lt =
      ap (λ bytes. bit_in bytes n) (cluster_bits-value p view is some)
      ∙ ap (λ k. bit_at k (n % 8))
      (get_or-map-range_with_len (ones_byte (items_end p)) 0 (bits_len p) (n / 8) (n / 8) 0 (enough n lt) (omega arith))

  owned : (n : ℕ) → times_owned (records_of view) n ≡ times_owned (planned_records p) n
  owned n = ap (λ records. times_owned records n) (records_of-planned p view is)

  bits-owned : (n : ℕ) → n < view.layout.clusters
      → (bit_in (value_on view (cluster_bits view)) n ≡ 1) ↔ (1 ≤ times_owned (records_of view) n)
  bits-owned n inside = elim (cases_lt n (items_end p)) [
    | inl lt ↦ (
      (λ set. omega (arith, owned n, times_owned-below p n lt)),
      (λ yes. bit-value n within ∙ ones-below (items_end p) n lt),
    )
    | inr ge ↦ (
      (λ set. absurd (omega (arith, set, bit-value n within, ones-behind (items_end p) n ge))),
      (λ yes. absurd (omega (arith, yes, owned n, times_owned-behind p n ge))),
    )
  ]
    where
      within : n < p.clusters
      within = omega (arith, is.clusters)

  pub MeetsClusterBits-planned : (n : ℕ) → MeetsClusterBits view n
  MeetsClusterBits-planned n = record {
    plain = rw (cluster_bits-planned p view is) refl;
    placed = rw (cluster_bits-planned p view is) (HasNoHole-stream p _ _ _ _ _ _);
    long = λ inside. rw (cluster_bits-value p view is some)
        (omega (arith, length-map-range_with_len (ones_byte (items_end p)) 0 (bits_len p), is.clusters));
    written = λ inside. rw (cluster_bits-planned p view is) (omega (arith, is.clusters));
    bit = bits-owned n;
  }
