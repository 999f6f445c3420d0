-- A view index that is held while it is read.
use Rattle.std.specs.Prelude.{Option}
use Rattle.ntfs_def.specs.IndexTree.{Nodes}
use Rattle.ntfs_def.specs.Node.{Node, node_in}
use Rattle.ntfs_def.specs.declared.index.NodeForm.TheVariants.{View}
use Rattle.volume_def.specs.View.{VolumeView}
use Rattle.index_tree.specs.Search.{nodes_of}
use Rattle.file_record.specs.declared.parts.FileParts.{FileParts}
use Rattle.index_store.specs.declared.index.FoundIndex.{FoundIndex}
use Rattle.index_store.specs.IndexBlocks.{records_found}

-- the nodes that the records of an index say that was found in a file, and the node that its root says
abbrev pub nodes_found : VolumeView → FileParts → FoundIndex → Nodes
nodes_found view file index = nodes_of View (records_found view file index)

abbrev pub root_found : FoundIndex → Option Node
root_found index = node_in View index.root.now
