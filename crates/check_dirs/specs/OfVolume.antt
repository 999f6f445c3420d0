-- The index of a directory of a volume, and the names that stand in it.
use Rattle.std.specs.Prelude.{ℕ, List, codes, filter, map}
use Rattle.ntfs_def.specs.declared.index.NodeForm.TheVariants.{Names}
use Rattle.ntfs_def.specs.FileName.{Link, link_of}
use Rattle.ntfs_def.specs.IndexTree.{Nodes}
use Rattle.ntfs_def.specs.Node.{Item}
use Rattle.ntfs_def.specs.Units.{wide}
use Rattle.volume_def.specs.FileNames.{is_in_directory, links}
use Rattle.volume_def.specs.Files.{records_of}
use Rattle.volume_def.specs.IndexesClause.{IndexParts, index_parts, name_rule}
use Rattle.list_laws.specs.SameItems.{SameItems}
use Rattle.volume_def.specs.View.{VolumeView}
use Rattle.check_dirs.specs.OrderedIndex.{IsOrderedIndex}

-- the index of a directory, and the names that stand in it
abbrev pub directory_parts : VolumeView → ℕ → IndexParts
directory_parts view f = index_parts view f (wide (codes "$I30"))

abbrev pub links_in : VolumeView → ℕ → List Link
links_in view f = filter (is_in_directory f) (links (records_of view))

-- Such an index of names has exactly those names.
pub record HasNames (view : VolumeView) (f : ℕ) (nodes : Nodes) (root : List ℕ) : Type 0 where
  pub items : List Item
  pub index : IsOrderedIndex Names (name_rule view) nodes root items
  pub names : SameItems (map link_of items) (links_in view f)
