pub mod Search
pub mod Walk
pub mod Index
pub mod Edit
pub mod Remove
pub mod Replace
-- Words of the crates below, passed on to those above.
pub use Rattle.index_node.specs.Edit as IndexNodeEdit
pub use Rattle.index_node.specs.Sealed
pub use Rattle.index_node.specs.declared.blocks.BlockNo
pub use Rattle.index_node.specs.EditBlocks
