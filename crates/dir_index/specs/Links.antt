-- The links of a directory, as the entries of its index say them.
use Rattle.std.specs.Prelude.{◌≡◌, ℕ, List, [], ◌∷◌, codes, map, Option, Some, None, if◌then◌else◌}
use Rattle.ntfs_def.specs.FileName.{is_name_key, link_of, name_in}
use Rattle.ntfs_def.specs.Fixup.{opened_of}
use Rattle.ntfs_def.specs.Node.{Item, item_in}
use Rattle.ntfs_def.specs.Units.{wide}
use Rattle.volume_def.specs.CaseClause.{case_parts}
use Rattle.volume_def.specs.Files.{content_value}
use Rattle.volume_def.specs.IndexesClause.{IndexParts, IsDirectoryIndex, IsIndexRecordAt, index_parts, stored_index_record}
use Rattle.volume_def.specs.Values.{value_on}
use Rattle.volume_def.specs.View.{VolumeView}
use Rattle.tree_model.specs.Reading.{link_by, link_for}
use Rattle.tree_model.specs.declared.tree.Link.{Link}

-- what an entry says, as a link of the tree
abbrev pub link_of_item : Item → Link
link_of_item item = link_by (link_of item)

-- the same of the bytes of an entry; none where its key is no name
abbrev pub link_in : List ℕ → Option Link
link_in entry = if is_name_key (item_in entry).key then Some (link_of_item (item_in entry)) else None

-- what the value of a $FILE_NAME says of a file; none where it is no whole name
abbrev pub key_link : ℕ → List ℕ → Option Link
key_link file key = if is_name_key key then Some (link_for file (name_in key)) else None

-- the index of a directory, by its parts
abbrev pub names_index : VolumeView → ℕ → IndexParts
names_index view dir = index_parts view dir (wide (codes "$I30"))

-- The index of a directory as it is held while it is read: the table of case by which its names are compared, its root, and
-- the opened record at each number at which it has one.
pub record IsHeldIndex (view : VolumeView) (dir : ℕ) (table root : List ℕ) (records : ℕ → Option (List ℕ)) : Type 0 where
  pub directory : IsDirectoryIndex view dir
  pub case : table ≡ value_on view (case_parts view)
  pub is_root : map (λ part. content_value part.content) (names_index view dir).root ≡ Some root ∷ []
  pub there : (vcn : ℕ) → IsIndexRecordAt view (names_index view dir) vcn
      → records vcn ≡ Some (opened_of (stored_index_record view (names_index view dir) vcn))
