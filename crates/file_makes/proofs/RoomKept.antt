-- THE ROOM FOR AN ENTRY in a directory is what it was where a file came that has no name in it yet.
use Rattle.std.proofs.Common.{Bool, ◌≡◌, ◌≢◌, ◌<◌, ◌||◌, ℕ, List, codes, Option, Some, None, inl, refl, sym, ap, ◌∙◌, arith}
use Rattle.std.specs.Prelude.{Contains, IfSome, filter}
use Rattle.list_laws.proofs.FindLaws.{find-found}
use Rattle.list_laws.proofs.MemberLaws.{Contains-from_filter}
use Rattle.list_laws.proofs.OptionLaws.{none_other}
use Rattle.ntfs_def.specs.Units.{wide}
use Rattle.ntfs_def.specs.declared.kinds.TheConstants.{BITMAP, INDEX_ALLOCATION, INDEX_ROOT}
use Rattle.volume_def.specs.Files.{Part, is_of, parts, record_on, records_of}
use Rattle.volume_def.specs.IndexesClause.{IndexParts}
use Rattle.volume_def.specs.Table.{TableLayout, cluster_bytes}
use Rattle.volume_def.specs.Values.{first_part, is_first, value_on}
use Rattle.volume_def.specs.View.{VolumeView}
use Rattle.volume_def.proofs.PartLaws.{IsPart-Contains, NameHolders-view}
use Rattle.volume_edits.specs.Owners.{HasOwners}
use Rattle.edit_def.specs.Marks.{Marks}
use Rattle.tree_model.specs.LeafRoom.{has_leaf_room, names_of_directory}
use Rattle.tree_model.specs.RootRoom.{has_root_room}
use Rattle.made_edits.proofs.RoomStays.{leaf-stays, root-stays}
use Rattle.made_edits.specs.Between.{HasNewFile}
use Rattle.made_edits.specs.Left.{is_row_key}
use Rattle.made_edits.proofs.LeftLaws.{value-kept}

abbrev names : List ℕ
names = wide (codes "$I30")

module _ (directory : Bool) (old new : VolumeView) (marks : Marks) (n dir : ℕ) (standard key : List ℕ)
    (file : HasNewFile directory old new marks n dir standard key)
    (owners : HasOwners old) (some : 0 < old.layout.cluster_sectors) (none : record_on old n ≡ None) where
  -- the records of its index
  index-same : names_of_directory new dir ≡ names_of_directory old dir
  index-same =
      ap (λ (all : List Part). let index : IndexParts = record {
        root = filter (is_of INDEX_ROOT names) all;
        records = filter (is_of INDEX_ALLOCATION names) all;
        bits = filter (is_of BITMAP names) all;
      } in index) file.parent

  value-same : value_on new (names_of_directory old dir).records ≡ value_on old (names_of_directory old dir).records
  value-same =
      ap (λ (index : IndexParts). value_on new index.records) (sym index-same)
      ∙ value-kept is_row_key n old new file.leaves owners some dir INDEX_ALLOCATION names file.other refl
      (inl (λ e. absurd (omega (arith, e))))

  leaf-room : (sought : List ℕ) (len : ℕ) → has_leaf_room new dir sought len ≡ has_leaf_room old dir sought len
  leaf-room sought len =
      leaf-stays old new dir sought len index-same value-same (ap (λ (l : TableLayout). cluster_bytes l) file.leaves.layout) file.fold

  -- .. and the record that holds its root, which is not that of the file
  holder-other : (part : Part) → Contains (parts (records_of old) dir) part → part.holder ≢ n
  holder-other part among same =
      let its = IsPart-Contains (records_of old) dir part (NameHolders-view old) among in
      none_other (sym none ∙ sym (ap (record_on old) same) ∙ its.held)

  holder-same : IfSome (first_part (names_of_directory old dir).root) (λ part. new.block part.holder ≡ old.block part.holder)
  holder-same = by (first_part (names_of_directory old dir).root) refl
    where
      by : (o : Option Part) → first_part (names_of_directory old dir).root ≡ o
          → IfSome o (λ part. new.block part.holder ≡ old.block part.holder)
      by None e = tt
      by (Some part) e =
          let found = find-found is_first (names_of_directory old dir).root part e in
          let among = Contains-from_filter (is_of INDEX_ROOT names) (parts (records_of old) dir) part found.0 in
          file.leaves.blocks part.holder (holder-other part among.0)

  -- THE ROOM
  pub room-kept : (sought : List ℕ) (len : ℕ)
      → (has_leaf_room new dir sought len || has_root_room new dir len) ≡ (has_leaf_room old dir sought len || has_root_room old dir len)
  room-kept sought len =
      ap (λ leaf. leaf || has_root_room new dir len) (leaf-room sought len)
      ∙ ap (λ root. has_leaf_room old dir sought len || root) (root-stays old new dir len file.parent holder-same)
