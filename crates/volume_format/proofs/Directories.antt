-- The directories of a new volume: the root, whose names stand in one index record, and $Extend, whose names stand in its root.
use Rattle.std.proofs.Common.{◌≡◌, ℕ, ◌+◌, ◌*◌, ◌<◌, [], ◌∷◌, filter, inl, inr, map, Some, refl, sym, ap, subst, ◌∙◌, arith}
use Rattle.std.specs.Prelude.{replicate, slice_index}
use Rattle.std.specs.List.{range_with_len}
use Rattle.std.proofs.Math.Nat.{mul-le-mul_left}
use Rattle.std.proofs.lemmas.Bool.{cases_lt}
use Rattle.ntfs_def.specs.declared.index.NodeForm.TheVariants.{Names}
use Rattle.ntfs_def.specs.declared.kinds.TheConstants.{BITMAP, INDEX_ALLOCATION, INDEX_ROOT}
use Rattle.ntfs_def.specs.declared.records.TheConstants.{EXTEND, ROOT}
use Rattle.ntfs_def.specs.declared.run_text.Spot.TheVariants.{At}
use Rattle.list_laws.specs.Bits.{bit_in}
use Rattle.ntfs_def.specs.FileName.{is_name_key, link_of}
use Rattle.ntfs_def.specs.Fixup.{opened_of}
use Rattle.ntfs_def.specs.Node.{Item, short_node}
use Rattle.volume_def.specs.CaseClause.{volume_fold}
use Rattle.volume_def.specs.FileNames.{is_in_directory, links}
use Rattle.volume_def.specs.Files.{Value, content_value}
use Rattle.volume_def.specs.IndexesClause.{HasIndex, IndexParts, IsDirectoryIndex, IsIndexRecordAt, index_nodes, index_parts, name_rule}
use Rattle.list_laws.specs.SameItems.{SameItems}
use Rattle.volume_def.specs.Table.{cluster_bytes}
use Rattle.volume_def.specs.Values.{spot_at, value_of_parts, value_on}
use Rattle.volume_def.specs.View.{VolumeView}
use Rattle.volume_format.specs.Items.{case_of}
use Rattle.volume_format.specs.Plan.{Plan, clusters_needed, extend_entries, index_name, node_at, node_len, root_value, stream_part}
use Rattle.record_bytes.specs.Entries.{last_above}
use Rattle.record_bytes.specs.AttributeBytes.{part}
use Rattle.volume_format.specs.Planned.{IsPlanned}
use Rattle.volume_format.proofs.CaseTable.{volume_fold-planned}
use Rattle.volume_format.proofs.Contents.{value_on-stream}
use Rattle.volume_format.specs.IndexItems.{extend_items, root_items}
use Rattle.volume_format.proofs.Leaves.{above, leaf, root_spread}
use Rattle.volume_format.proofs.IndexLinks.{extend-names, root-names}
use Rattle.volume_format.proofs.IndexNodes.{extend-says, root-record, root-says}
use Rattle.volume_format.proofs.IndexOrder.{AgreeOnAscii, extend-by, root-by}
use Rattle.volume_format.proofs.IndexTrees.{HasIndex-leaf, root-holds, root-only, root-walk}
use Rattle.volume_format.proofs.Needed.{clusters_needed-covers}
use Rattle.volume_format.proofs.Records.{parts_at-planned, records_of-planned}
use Rattle.volume_format.proofs.RootRecord.{IsIndexRecordAt-root, stored-is}
use Rattle.list_laws.proofs.PieceLaws.{All-tested}
use Rattle.volume_format.proofs.Values.{spot-stream}

module _ (p : Plan) (view : VolumeView) (is : IsPlanned p view) (some : 0 < p.size) where
  -- the volume's own table of case
  pub fold-planned : AgreeOnAscii (volume_fold view) case_of
  fold-planned unit small = volume_fold-planned p view is some unit (omega arith)

  pub IsDirectoryIndex-extend : IsDirectoryIndex view EXTEND
  unfolding HasIndex-leaf
  IsDirectoryIndex-extend =
      let has = λ (kind : ℕ). parts_at-planned p view is EXTEND kind index_name (omega arith) in
      record {
        items = extend_items;
        index = HasIndex-leaf Names (name_rule view) view (index_parts view EXTEND index_name)
            (root_value p 0x30 1 0 extend_entries) extend_items
            (ap (map (λ part. content_value part.content)) (has INDEX_ROOT)) (has INDEX_ALLOCATION) (has BITMAP)
            refl refl (extend-says p)
            (All-tested (λ (item : Item). is_name_key item.key) extend_items refl)
            (extend-by (volume_fold view) fold-planned);
        kind = refl;
        names = subst (λ records. SameItems (map link_of extend_items) (filter (is_in_directory EXTEND) (links records)))
            (sym (records_of-planned p view is)) (extend-names p);
      }

  -- The root.
  root : IndexParts
  root = index_parts view ROOT index_name

  root-of : root.root ≡ part ROOT INDEX_ROOT index_name 2 (Value (root_value p 0x30 1 1 last_above)) ∷ []
  unfolding root
  root-of = parts_at-planned p view is ROOT INDEX_ROOT index_name (omega arith)

  records-of : root.records ≡ stream_part p ROOT INDEX_ALLOCATION index_name 3 (node_at p) node_len ∷ []
  unfolding root
  records-of = parts_at-planned p view is ROOT INDEX_ALLOCATION index_name (omega arith)

  bits-of : root.bits ≡ part ROOT BITMAP index_name 4 (Value (1 ∷ replicate 7 0)) ∷ []
  unfolding root
  bits-of = parts_at-planned p view is ROOT BITMAP index_name (omega arith)

  root-value : value_on view root.records ≡ map (slice_index is.root.stored) (range_with_len 0 node_len)
  root-value = value_on-stream p view is some root.records ROOT INDEX_ALLOCATION index_name 3 (node_at p) node_len
      (slice_index is.root.stored) records-of is.root.held

  few : (k : ℕ) → k * cluster_bytes view.layout < node_len → k < clusters_needed p node_len
  few k inside = elim (cases_lt k (clusters_needed p node_len)) [
    | inl lt ↦ lt
    | inr ge ↦
        let size : k * cluster_bytes view.layout ≡ k * p.size = ap (λ n. k * n) is.size in
        let covers = clusters_needed-covers p some node_len in
        absurd (omega (arith, size, covers, inside, mul-le-mul_left p.size ge))
  ]

  root-placed : (k : ℕ) → k * cluster_bytes view.layout < node_len → spot_at root.records k ≡ At (node_at p + k)
  root-placed k inside =
      ap (λ all. spot_at all k) records-of
      ∙ spot-stream p some ROOT INDEX_ALLOCATION index_name 3 (node_at p) node_len k (few k inside)

  root-bit : bit_in (value_on view root.bits) 0 ≡ 1
  unfolding value_of_parts
  root-bit = ap (λ all. bit_in (value_on view all) 0) bits-of

  root-nodes : index_nodes Names view root 0 ≡ Some (leaf root_items)
  unfolding index_nodes
  root-nodes =
      ap (λ bytes. short_node Names (opened_of bytes))
      (stored-is view root is.root.stored is.root.is root-value (node_at p) root-placed root-bit)
      ∙ is.root.is.says ∙ ap Some root-record

  HasIndex-root : HasIndex Names (name_rule view) view root root_items
  HasIndex-root = record {
    root = root_value p 0x30 1 1 last_above;
    is_root = ap (map (λ part. content_value part.content)) root-of;
    collation = refl;
    record_size = refl;
    plain = rw records-of refl;
    plain_bits = rw bits-of refl;
    written = rw records-of refl;
    root_node = above;
    says = root-says p;
    walks = record {
      depth = 1;
      small = omega arith;
      s = root_spread;
      holds = root-holds (index_nodes Names view root) root-nodes;
      is = root-walk;
    };
    each = λ vcn times. subst (IsIndexRecordAt view root) (sym (root-only vcn times))
        (IsIndexRecordAt-root view root is.root.stored is.root.is root-value (node_at p) root-placed root-bit);
    keys = All-tested (λ (item : Item). is_name_key item.key) root_items refl;
    ascending = root-by (volume_fold view) fold-planned;
  }

  pub IsDirectoryIndex-root : IsDirectoryIndex view ROOT
  unfolding root HasIndex-root
  IsDirectoryIndex-root = record {
    items = root_items;
    index = HasIndex-root;
    kind = refl;
    names = subst (λ records. SameItems (map link_of root_items) (filter (is_in_directory ROOT) (links records)))
        (sym (records_of-planned p view is)) (root-names p);
  }
