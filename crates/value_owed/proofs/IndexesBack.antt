-- BACK OVER THE EDIT OF THE STREAM: directories have the items that they had, indexes their headers, depths, records and bits, and the
-- indexes in $Extend their keys.
use Rattle.std.proofs.Common.{◌≡◌, ◌≢◌, ◌+◌, ◌*◌, ◌/◌, ◌≤◌, ◌==◌, ◌&&◌, ◌||◌, ℕ, suc, Bool, false, List, [], codes, length}
use Rattle.std.proofs.Common.{Some, None, refl, sym, ap, subst, ◌∙◌, arith, if◌then◌else◌}
use mathlib.Core.Path.{fun_ext}
use Rattle.std.specs.List.{find, list_any, range_with_len}
use Rattle.std.specs.Option.{option_and_then, option_map_or}
use Rattle.std.specs.Prelude.{IfSome, is_some, nat_le, slice_range}
use Rattle.ntfs_def.specs.Fixup.{opened_of}
use Rattle.ntfs_def.specs.Node.{Node, short_node}
use Rattle.ntfs_def.specs.IndexTree.{Nodes, most_depth}
use Rattle.ntfs_def.specs.Units.{wide}
use Rattle.ntfs_def.specs.declared.index.NodeForm.TheVariants.{View}
use Rattle.ntfs_def.specs.declared.kinds.TheConstants.{BITMAP, DATA, INDEX_ALLOCATION, INDEX_ROOT}
use Rattle.ntfs_def.specs.declared.lengths.TheConstants.{INDEX_RECORD}
use Rattle.ntfs_def.specs.declared.records.TheConstants.{FIRST_ORDINARY, MFT, UPCASE}
use Rattle.ntfs_def.specs.KeyOrder.{fold_of}
use Rattle.volume_def.specs.CaseClause.{volume_fold}
use Rattle.volume_def.specs.FileNames.{names_of}
use Rattle.volume_def.specs.Files.{Part, content_value, parts_at, records_of}
use Rattle.volume_def.specs.IndexesClause.{HasIndex, index_nodes, index_parts, is_in_extend, word_rule}
use Rattle.volume_def.specs.Sound as clauses
use Rattle.volume_def.specs.Sound.{IsSound}
use Rattle.volume_def.specs.StreamSize.{told_size}
use Rattle.volume_def.specs.Table.{TableLayout, cluster_bytes}
use Rattle.volume_def.specs.Values.{first_part, value_on}
use Rattle.volume_def.specs.View.{VolumeView}
use Rattle.volume_def.proofs.SoundLaws.{readable-sound}
use Rattle.tree_model.specs.Bill.{Change}
use Rattle.tree_model.specs.IndexRoom.{Index, extend_file, extend_index, if_there, index_depth, levels_below, other_nodes, root_of}
use Rattle.edit_def.specs.Edited.{is_room_key}
use Rattle.edit_def.specs.Items.{KeepsItems}
use Rattle.edit_def.specs.Kept.{Key, either, key_of, same_key}
use Rattle.edit_def.specs.Places.{flags_of}
use Rattle.edit_def.proofs.IndexLaws.{index-same, items-kept}
use Rattle.edit_def.proofs.NamesLaws.{bases-of}
use Rattle.session_def.specs.Indexes.{KeepsFlagsOf, KeepsIndexIfThere, bits_set, index_bits, index_records}
use Rattle.session_def.specs.Kept.{KeepsKeys}
use Rattle.value_edits.specs.Unnamed.{LiesApart}
use Rattle.value_edits.proofs.IndexesSet.{index-named}
use Rattle.value_edits.specs.ValueEdits.{EditsAlone}
use Rattle.value_owed.proofs.ValueSame as same

root-no-data : INDEX_ROOT ≢ DATA
root-no-data q = omega (arith, q)

bits-no-data : BITMAP ≢ DATA
bits-no-data q = omega (arith, q)

records-no-data : INDEX_ALLOCATION ≢ DATA
records-no-data q = omega (arith, q)

module _ (key : Key) (old mid : VolumeView) (sound : IsSound old) (apart : LiesApart old) {gains : ℕ → Bool}
    (e : EditsAlone key gains old mid) (no_case : key.file ≢ UPCASE) (sound_mid : IsSound mid) where
  abbrev changed : Key → Bool
  changed = either is_room_key (same_key key)

  -- THE TABLE OF CASE
  case-free : same_key key (key_of UPCASE DATA []) ≡ false
  case-free = same.other-file key old mid sound apart e UPCASE DATA [] no_case

  pub fold-same : volume_fold mid ≡ volume_fold old
  fold-same = ap fold_of (same.value-same key old mid sound apart e UPCASE DATA [] case-free refl refl)

  free : (g kind : ℕ) (name : List ℕ) → kind ≢ DATA → same_key key (key_of g kind name) ≡ false
  free = same.other-kind key old mid sound apart e

  -- ITEMS of directories
  pub items-still : (dir : ℕ) → KeepsItems old mid dir
  items-still dir =
      items-kept changed old mid (same.edited key old mid sound apart e).kept
      (same.size key old mid sound apart e) (bases-of (records_of old) (sound clauses.References)) (readable-sound old sound)
      (readable-sound mid sound_mid) case-free dir
      (free dir INDEX_ROOT (wide (codes "$I30")) root-no-data) (free dir INDEX_ALLOCATION (wide (codes "$I30")) records-no-data)
      (free dir BITMAP (wide (codes "$I30")) bits-no-data)

  -- AN INDEX: its parts, nodes and bits
  at : (index : Index) (kind : ℕ) → kind ≢ DATA → parts_at mid index.file kind index.name ≡ parts_at old index.file kind index.name
  at index kind other = same.at-kind key old mid sound apart e index.file kind index.name other

  nodes-same : (index : Index) → other_nodes mid index ≡ other_nodes old index
  unfolding index_nodes
  nodes-same index =
      ap {B = Nodes} (λ value vcn. short_node index.form (opened_of (slice_range value (vcn * cluster_bytes mid.layout)
      (vcn * cluster_bytes mid.layout + INDEX_RECORD))))
      (same.value-same key old mid sound apart e index.file INDEX_ALLOCATION index.name
      (free index.file INDEX_ALLOCATION index.name records-no-data) refl refl)
      ∙ ap {B = Nodes} (λ s vcn. short_node index.form (opened_of (slice_range
      (value_on old (index_parts old index.file index.name).records) (vcn * s) (vcn * s + INDEX_RECORD))))
      (same.size key old mid sound apart e)

  depth-same : (index : Index) → index_depth mid index ≡ index_depth old index
  unfolding index_depth
  depth-same index =
      ap (λ xs. option_map_or (λ (root : Node). suc (levels_below most_depth (other_nodes mid index) root.last))
      (option_and_then (λ (part : Part). option_and_then (short_node index.form) (content_value part.content)) (first_part xs)) 0)
      (at index INDEX_ROOT root-no-data)
      ∙ ap (λ (nodes : Nodes). option_map_or (λ (root : Node). suc (levels_below most_depth nodes root.last)) (root_of old index) 0)
      (nodes-same index)

  -- .. of an index that has a name, as each has; what has none is the bitmap of records
  bits-same : (index : Index) → (length index.name == 0) ≡ false → index_bits mid index ≡ index_bits old index
  bits-same index long =
      same.value-same key old mid sound apart e index.file BITMAP index.name (free index.file BITMAP index.name bits-no-data) refl
      (ap (λ b. (b && (index.file == MFT)) || false) long)

  records-same : (index : Index) → index_records mid index ≡ index_records old index
  records-same index = ap (λ xs. told_size (first_part xs) / INDEX_RECORD) (at index INDEX_ALLOCATION records-no-data)

  flags-back : (next : VolumeView) (kind : ℕ) (index : Index) → kind ≢ DATA → KeepsFlagsOf kind mid next index
      → KeepsFlagsOf kind old next index
  flags-back next kind index other rest =
      subst (λ xs. IfSome (first_part (parts_at next index.file kind index.name)) (λ part. part.flags ≡ flags_of (first_part xs)))
      (at index kind other) rest

  -- what was kept behind the edit with no change of an index, both keep, whatever changes
  pub index-back : (next : VolumeView) (changes : List Change) (index : Index) → (length index.name == 0) ≡ false
      → KeepsIndexIfThere mid next [] index → KeepsIndexIfThere old next changes index
  index-back next changes index long rest was now was_at now_at =
      let kept = rest was now (ap first_part (at index INDEX_ROOT root-no-data) ∙ was_at) now_at in
      let depth = depth-same index in
      let records = records-same index in
      let bits = bits-same index long in
      let set : bits_set (index_bits mid index) ≡ bits_set (index_bits old index) = ap bits_set bits in
      let deep : index_depth next index ≤ index_depth mid index + 0 = kept.depth in
      let many : index_records next index ≤ index_records mid index + 0 = kept.records in
      let count : bits_set (index_bits next index) ≤ bits_set (index_bits mid index) + 0 = kept.set in
      record {
        head = kept.head;
        root_flags = kept.root_flags;
        record_flags = flags-back next INDEX_ALLOCATION index records-no-data kept.record_flags;
        bit_flags = flags-back next BITMAP index bits-no-data kept.bit_flags;
        depth = omega (arith, deep, depth);
        records = omega (arith, many, records);
        same = λ none. kept.same refl ∙ bits;
        set = omega (arith, count, set);
      }

  -- THE INDEX of a name in $Extend
  module _ (units name : List ℕ) where
    file-found : extend_file mid units ≡ extend_file old units
    file-found =
        ap (λ (l : TableLayout). find (λ f. nat_le FIRST_ORDINARY f && list_any (is_in_extend units) (names_of (records_of mid) f))
        (range_with_len 0 l.count)) (same.layout key old mid sound apart e)
        ∙ ap (λ p. find p (range_with_len 0 old.layout.count)) (fun_ext (λ f.
        ap (λ all. nat_le FIRST_ORDINARY f && list_any (is_in_extend units) all) (same.names-same key old mid sound apart e f)))

    there-same : (f : ℕ) → if_there mid (record { file = f; form = View; name = wide name })
        ≡ if_there old (record { file = f; form = View; name = wide name })
    there-same f =
        ap (λ xs. if is_some (option_and_then (λ (part : Part). option_and_then (short_node View) (content_value part.content))
        (first_part xs))
        then Some (record { file = f; form = View; name = wide name }) else None)
        (at (record { file = f; form = View; name = wide name }) INDEX_ROOT root-no-data)

    pub index-found : extend_index mid units name ≡ extend_index old units name
    index-found =
        ap (option_and_then (λ f. if_there mid (record { file = f; form = View; name = wide name }))) file-found
        ∙ ap (λ g. option_and_then g (extend_file old units)) (fun_ext there-same)

    -- its keys
    pub keys-back : (next : VolumeView) → (length (wide name) == 0) ≡ false
        → KeepsKeys mid (extend_index mid units name) next (extend_index next units name) [] None
        → KeepsKeys old (extend_index old units name) next (extend_index next units name) [] None
    keys-back next long rest was has =
        let called = index-named old units name has.at has.there in
        rest was (record {
          at = has.at;
          there = index-found ∙ has.there;
          has = subst (λ n. HasIndex View word_rule mid (index_parts mid has.at.file n) was) (sym called)
              (index-same changed old mid (same.edited key old mid sound apart e).kept
              (same.size key old mid sound apart e) (bases-of (records_of old) (sound clauses.References)) (readable-sound old sound)
              (readable-sound mid sound_mid) has.at.file (wide name)
              (free has.at.file INDEX_ROOT (wide name) root-no-data) (free has.at.file INDEX_ALLOCATION (wide name) records-no-data)
              (bits-free has.at.file) View word_rule was
              (subst (λ n. HasIndex View word_rule old (index_parts old has.at.file n) was) called has.has));
        })
      where
        bits-free : (f : ℕ) → changed (key_of f BITMAP (wide name)) ≡ false
        bits-free f =
            let room : is_room_key (key_of f BITMAP (wide name)) ≡ false = ap (λ b. (b && (f == MFT)) || false) long in
            ap (λ r. r || same_key key (key_of f BITMAP (wide name))) room ∙ free f BITMAP (wide name) bits-no-data
