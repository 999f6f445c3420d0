-- A directory that can be read, and one that is held while its index is read.
use Rattle.std.specs.Prelude.{◌≡◌, ℕ, List, [], Option}
use Rattle.std.specs.declared.cmp.Ordering.{Ordering}
use Rattle.ntfs_def.specs.IndexTree.{Nodes}
use Rattle.ntfs_def.specs.Node.{Node, node_in}
use Rattle.ntfs_def.specs.declared.index.NodeForm.TheVariants.{Names}
use Rattle.volume_def.specs.CaseClause.{case_parts}
use Rattle.volume_def.specs.IndexesClause.{IsDirectoryIndex}
use Rattle.volume_def.specs.Readable.{IsFile, IsReadableVolume}
use Rattle.volume_def.specs.Values.{value_on}
use Rattle.volume_def.specs.View.{VolumeView}
use Rattle.index_store.specs.Search.{nodes_of}
use Rattle.index_store.specs.FileParts.{FileParts}
use Rattle.index_store.specs.Held.{IsHeldFile, file_number}
use Rattle.index_store.specs.declared.index.FoundIndex.{FoundIndex}
use Rattle.index_store.specs.IndexBlocks.{records_found}

-- The volume's files can be read, this is the number of one, the index of that directory is right, and this is the volume's table
-- of case.
pub record IsReadableDirectory (view : VolumeView) (dir : ℕ) (table : List ℕ) : Type 0 where
  pub readable : IsReadableVolume view
  pub is_file : IsFile view dir
  pub directory : IsDirectoryIndex view dir
  pub case : table ≡ value_on view (case_parts view)

-- The directory is held as the volume has it, its index is right, and this is the volume's table of case.
pub record IsHeldDirectory (view : VolumeView) (file : FileParts) (table : List ℕ) : Type 0 where
  pub held : IsHeldFile view file
  pub directory : IsDirectoryIndex view (file_number file)
  pub case : table ≡ value_on view (case_parts view)

-- the nodes that the records of an index say that was found in a file, and the node that its root says
abbrev pub nodes_found : VolumeView → FileParts → FoundIndex → Nodes
nodes_found view file index = nodes_of Names (records_found view file index)

abbrev pub root_found : FoundIndex → Option Node
root_found index = node_in Names index.root.now

-- on which side of the empty key, which stands for what is sought, a key is
abbrev pub side_of : (List ℕ → List ℕ → Ordering) → List ℕ → Ordering
side_of order key = order key []
