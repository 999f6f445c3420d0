pub mod Held
pub mod Links
pub mod Sought
pub mod SoughtLaws
pub mod Replaced
pub mod Standard
pub mod Refreshed
pub mod Below
-- Words of the crates below, passed on to those above.
pub use Rattle.index_store.specs.FileRecordWritten
pub use Rattle.index_store.specs.Edit
pub use Rattle.index_store.specs.Replace
pub use Rattle.tree_model.specs.Reading
pub use Rattle.tree_model.specs.declared.tree
pub use Rattle.tree_model.specs.Hidden
pub use Rattle.tree_model.specs.Tree
pub use Rattle.tree_model.specs.declared.tree.Link
pub use Rattle.tree_model.specs.declared.tree.Node
pub use Rattle.index_store.specs.Index
pub use Rattle.index_store.specs.IndexBlocks
pub use Rattle.index_store.specs.Below as IndexStoreBelow
pub use Rattle.index_store.specs.IndexRecords
pub use Rattle.index_store.specs.declared.index.FoundIndex
pub use Rattle.index_store.specs.First
pub use Rattle.index_store.specs.FirstPart
pub use Rattle.index_store.specs.Values
