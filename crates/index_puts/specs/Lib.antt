pub mod Leaf
pub mod Held
pub mod PutsItem
pub mod RecordRoom
pub mod PutsRoot
pub mod Depth
-- Words of the crates below, passed on to those above.
pub use Rattle.entry_edits.specs.Attributes
pub use Rattle.entry_edits.specs.Replaced
pub use Rattle.entry_edits.specs.Index
pub use Rattle.file_record.specs.Attributes as FileRecordAttributes
pub use Rattle.file_record.specs.Extensions
pub use Rattle.index_tree.specs.Edit
