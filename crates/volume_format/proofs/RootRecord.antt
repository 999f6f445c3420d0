-- The index record of a new volume's root stands where its index has it.
use Rattle.std.proofs.Common.{◌≡◌, ◌≢◌, ℕ, ◌+◌, ◌*◌, ◌/◌, ◌%◌, ◌<◌, List, length, map, sym, ap, subst, ◌∙◌, arith}
use Rattle.std.specs.Prelude.{slice_index, slice_range}
use Rattle.std.specs.List.{range_with_len}
use Rattle.std.proofs.lemmas.List.{take_all}
use Rattle.ntfs_def.specs.declared.run_text.Spot.TheVariants.{At, Hole}
use Rattle.list_laws.specs.Bits.{bit_in}
use Rattle.ntfs_def.specs.Fixup.{IsSealed, opened_of}
use Rattle.ntfs_def.specs.Node.{own_vcn}
use Rattle.volume_def.specs.IndexesClause.{IndexParts, IsIndexRecordAt, stored_index_record}
use Rattle.volume_def.specs.Table.{cluster_bytes}
use Rattle.volume_def.specs.Values.{spot_at, value_on}
use Rattle.volume_def.specs.View.{VolumeView}
use Rattle.volume_format.specs.Plan.{node_len}
use Rattle.volume_format.specs.Planned.{IsRootRecord}
use Rattle.list_laws.proofs.RangeLaws.{by_places}

at-not-hole : (c : ℕ) → At c ≢ Hole
at-not-hole c e = cc

-- An index whose records have the value `stored`, all of it at places, and whose first bit is set.
module _ (view : VolumeView) (index : IndexParts) (stored : List ℕ) (root : IsRootRecord stored)
    (value : value_on view index.records ≡ map (slice_index stored) (range_with_len 0 node_len))
    (at : ℕ) (placed : (k : ℕ) → k * cluster_bytes view.layout < node_len → spot_at index.records k ≡ At (at + k))
    (bit : bit_in (value_on view index.bits) 0 ≡ 1) where
  is-value : value_on view index.records ≡ stored
  is-value = value ∙ ap (λ n. map (slice_index stored) (range_with_len 0 n)) (sym root.len) ∙ by_places stored

  from-0 : 0 * cluster_bytes view.layout ≡ 0
  from-0 = omega arith

  pub stored-is : stored_index_record view index 0 ≡ stored
  stored-is =
      ap (λ n. slice_range (value_on view index.records) n (n + 4096)) from-0
      ∙ ap (λ bytes. slice_range bytes 0 4096) is-value
      ∙ take_all 4096 stored (omega (arith, root.len))

  pub IsIndexRecordAt-root : IsIndexRecordAt view index 0
  IsIndexRecordAt-root = record {
    aligned = ap (λ n. n % 4096) from-0;
    whole = omega (arith, from-0, ap length is-value, root.len);
    placed = λ k lt e. at-not-hole (at + k) (sym (placed k lt) ∙ ap (spot_at index.records) (omega arith) ∙ e);
    sealed = subst IsSealed (sym stored-is) root.sealed;
    own = ap (λ bytes. own_vcn (opened_of bytes)) stored-is ∙ root.own;
    bit = ap (λ n. bit_in (value_on view index.bits) (n / 4096)) from-0 ∙ bit;
  }
