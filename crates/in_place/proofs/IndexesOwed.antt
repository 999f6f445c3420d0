-- INDEXES after a rewrite: their headers, records and bits are as they were.
use Rattle.std.proofs.Common.{◌≡◌, ◌≢◌, ◌+◌, ◌*◌, ◌/◌, ◌≤◌, ℕ, Bool, false, List, [], length, take, Option, Some, None, inl}
use Rattle.std.proofs.Common.{refl, suc, sym, ap, ◌∙◌, arith}
use Rattle.std.proofs.lemmas.List.{length-replicate}
use Rattle.std.specs.Option.{option_and_then, option_map, option_map_or}
use Rattle.std.specs.Prelude.{IfSome, slice_range, unwrap_or}
use Rattle.ntfs_def.specs.Fixup.{opened_of}
use Rattle.ntfs_def.specs.Node.{Node, short_node}
use Rattle.ntfs_def.specs.IndexTree.{Nodes, most_depth}
use Rattle.ntfs_def.specs.declared.kinds.TheConstants.{BITMAP, DATA, INDEX_ALLOCATION, INDEX_ROOT}
use Rattle.ntfs_def.specs.declared.lengths.TheConstants.{INDEX_RECORD}
use Rattle.volume_def.specs.Files.{Clusters, Content, Part, Value, content_value, parts_at}
use Rattle.volume_def.specs.IndexesClause.{index_nodes, index_parts}
use Rattle.volume_def.specs.StreamSize.{real_size, told_size}
use Rattle.volume_def.specs.Table.{TableLayout, cluster_bytes}
use Rattle.volume_def.specs.Values.{first_part, value_on}
use Rattle.volume_def.specs.View.{VolumeView}
use Rattle.session_def.specs.Bill.{Change}
use Rattle.session_def.specs.IndexRoom.{Index, index_depth, levels_below, other_nodes, root_of}
use Rattle.session_def.specs.EditDefKept.{Key, key_of}
use Rattle.session_def.specs.Places.{flags_of}
use Rattle.session_def.specs.Indexes.{KeepsFlagsOf, KeepsIndexIfThere, bits_set, index_bits, index_records, keys_changed}
use Rattle.in_place.specs.Blank.{blank_content, blank_part}
use Rattle.in_place.specs.InPlace.{Rewrites}
use Rattle.in_place.specs.Unnamed.{LiesApart}
use Rattle.in_place.proofs.OtherClusters.{clusters-kept}
use Rattle.in_place.proofs.OtherParts.{at-other}
use Rattle.in_place.proofs.PlacesSame.{value-other}
use Rattle.in_place.proofs.SameRecords.{at-same}
use Rattle.in_place.proofs.BlankLaws.{first-blank}

bits-no-data : BITMAP ≢ DATA
bits-no-data q = omega (arith, q)

records-no-data : INDEX_ALLOCATION ≢ DATA
records-no-data q = omega (arith, q)

-- flags and sizes are told without the bytes of a value
pub flags-blank : (o : Option Part) → flags_of (option_map blank_part o) ≡ flags_of o
flags-blank None = refl
flags-blank (Some part) = refl

pub size-blank : (o : Option Part) → told_size (option_map blank_part o) ≡ told_size o
size-blank None = refl
size-blank (Some part) = by part.content
  where
    by : (content : Content) → real_size (blank_content content) ≡ real_size content
    by (Value value) = length-replicate (length value) 0
    by (Clusters extent runs) = refl

module _ (changed : Key → Bool) (old new : VolumeView) (w : Rewrites changed old new) where
  -- the first part of an attribute, without the bytes of its value
  first-same : (f kind : ℕ) (name : List ℕ)
      → option_map blank_part (first_part (parts_at new f kind name)) ≡ option_map blank_part (first_part (parts_at old f kind name))
  first-same f kind name =
      sym (first-blank (parts_at new f kind name)) ∙ ap first_part (at-same changed old new w f kind name)
      ∙ first-blank (parts_at old f kind name)

  pub flags-same : (f kind : ℕ) (name : List ℕ) → flags_of (first_part (parts_at new f kind name))
      ≡ flags_of (first_part (parts_at old f kind name))
  flags-same f kind name =
      sym (flags-blank (first_part (parts_at new f kind name))) ∙ ap flags_of (first-same f kind name)
      ∙ flags-blank (first_part (parts_at old f kind name))

  pub told_size-same : (f kind : ℕ) (name : List ℕ) → told_size (first_part (parts_at new f kind name))
      ≡ told_size (first_part (parts_at old f kind name))
  told_size-same f kind name =
      sym (size-blank (first_part (parts_at new f kind name))) ∙ ap told_size (first-same f kind name)
      ∙ size-blank (first_part (parts_at old f kind name))

  flags-kept : (kind : ℕ) (index : Index) → KeepsFlagsOf kind old new index
  flags-kept kind index = by (first_part (parts_at new index.file kind index.name)) refl
    where
      by : (o : Option Part) → first_part (parts_at new index.file kind index.name) ≡ o
          → IfSome o (λ part. part.flags ≡ flags_of (first_part (parts_at old index.file kind index.name)))
      by None e = tt
      by (Some part) e = sym (ap flags_of e) ∙ flags-same index.file kind index.name

  module _ (apart : LiesApart old) where
    bits-same : (index : Index) → changed (key_of index.file BITMAP index.name) ≡ false → index_bits new index ≡ index_bits old index
    bits-same index free =
        value-other changed old new w index.file BITMAP index.name free
        (clusters-kept changed old new w apart.owners apart.some index.file BITMAP index.name free (inl bits-no-data))

    -- AN INDEX of which the bits are not named, by its head and its depth
    pub index-by : (changes : List Change) (index : Index) → changed (key_of index.file BITMAP index.name) ≡ false
        → ((was now : Part) → first_part (parts_at old index.file INDEX_ROOT index.name) ≡ Some was
        → first_part (parts_at new index.file INDEX_ROOT index.name) ≡ Some now
        → take 16 (unwrap_or (content_value now.content) []) ≡ take 16 (unwrap_or (content_value was.content) []))
        → index_depth new index ≤ index_depth old index + keys_changed old changes index → KeepsIndexIfThere old new changes index
    index-by changes index free heads deep was now at bt =
        let bits = bits-same index free in
        let records : index_records new index ≡ index_records old index =
        ap (λ n. n / INDEX_RECORD) (told_size-same index.file INDEX_ALLOCATION index.name) in
        let count : bits_set (index_bits new index) ≡ bits_set (index_bits old index) = ap bits_set bits in
        record {
          head = heads was now at bt;
          root_flags = sym (ap flags_of bt) ∙ flags-same index.file INDEX_ROOT index.name ∙ ap flags_of at;
          record_flags = flags-kept INDEX_ALLOCATION index;
          bit_flags = flags-kept BITMAP index;
          depth = deep;
          records = omega (arith, records);
          same = λ none. bits;
          set = omega (arith, count);
        }

    -- ONE THAT IS NOT NAMED
    values-same : (index : Index) → changed (key_of index.file INDEX_ALLOCATION index.name) ≡ false
        → value_on new (index_parts new index.file index.name).records ≡ value_on old (index_parts old index.file index.name).records
    values-same index free =
        value-other changed old new w index.file INDEX_ALLOCATION index.name free
        (clusters-kept changed old new w apart.owners apart.some index.file INDEX_ALLOCATION index.name free (inl records-no-data))

    pub nodes-same : (index : Index) → changed (key_of index.file INDEX_ALLOCATION index.name) ≡ false
        → other_nodes new index ≡ other_nodes old index
    unfolding index_nodes
    nodes-same index free =
        ap {B = Nodes} (λ value vcn. short_node index.form (opened_of (slice_range value (vcn * cluster_bytes new.layout)
        (vcn * cluster_bytes new.layout + INDEX_RECORD)))) (values-same index free)
        ∙ ap {B = Nodes} (λ (l : TableLayout) vcn. short_node index.form (opened_of (slice_range (value_on old
        (index_parts old index.file index.name).records)
        (vcn * cluster_bytes l) (vcn * cluster_bytes l + INDEX_RECORD)))) w.layout

    pub depth-same : (index : Index) → changed (key_of index.file INDEX_ROOT index.name) ≡ false
        → changed (key_of index.file INDEX_ALLOCATION index.name) ≡ false → index_depth new index ≡ index_depth old index
    unfolding index_depth
    depth-same index root records =
        ap (λ xs. option_map_or (λ (root : Node). suc (levels_below most_depth (other_nodes new index) root.last))
        (option_and_then (λ (part : Part). option_and_then (short_node index.form) (content_value part.content)) (first_part xs)) 0)
        (at-other changed old new w index.file INDEX_ROOT index.name root)
        ∙ ap (λ (nodes : Nodes). option_map_or (λ (root : Node). suc (levels_below most_depth nodes root.last)) (root_of old index) 0)
        (nodes-same index records)

    pub index-other : (changes : List Change) (index : Index) → changed (key_of index.file INDEX_ROOT index.name) ≡ false
        → changed (key_of index.file INDEX_ALLOCATION index.name) ≡ false → changed (key_of index.file BITMAP index.name) ≡ false
        → KeepsIndexIfThere old new changes index
    index-other changes index root records bits =
        let deep = depth-same index root records in
        index-by changes index bits (λ was now at bt.
        ap (λ o. take 16 (unwrap_or (option_and_then (λ (part : Part). content_value part.content) o) []))
        (sym bt ∙ ap first_part (at-other changed old new w index.file INDEX_ROOT index.name root) ∙ at)) (omega (arith, deep))
