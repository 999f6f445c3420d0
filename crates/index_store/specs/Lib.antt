pub mod Index
pub mod PartsMet
pub mod IndexRecords
pub mod IndexBlocks
pub mod IndexBlocksLaws
pub mod RecordWrites
pub mod IndexBlocksMut
pub mod IndexBlocksMutLaws
pub mod Below
-- Words of the crates below, passed on to those above.
pub use Rattle.attr_store.specs.First
pub use Rattle.attr_store.specs.declared.first.FirstPart
pub use Rattle.attr_store.specs.FileNos
pub use Rattle.attr_store.specs.Held
pub use Rattle.attr_store.specs.Records
pub use Rattle.attr_store.specs.FileRecordWritten
pub use Rattle.attr_store.specs.FileParts
pub use Rattle.attr_store.specs.HeldType as HeldType
pub use Rattle.attr_store.specs.FileNo
pub use Rattle.attr_store.specs.declared.stored.Stored
pub use Rattle.index_tree.specs.Search
pub use Rattle.index_tree.specs.Walk
pub use Rattle.index_tree.specs.Edit
pub use Rattle.index_tree.specs.Replace
pub use Rattle.index_tree.specs.Index as IndexTreeIndex
pub use Rattle.attr_store.specs.Mft
pub use Rattle.attr_store.specs.MirrorClusters
pub use Rattle.attr_store.specs.MftType as MftType
pub use Rattle.attr_store.specs.Staging
pub use Rattle.attr_store.specs.MountedType
pub use Rattle.attr_store.specs.Mounted
pub use Rattle.attr_store.specs.InUse
pub use Rattle.attr_store.specs.Owners
pub use Rattle.attr_store.specs.Clusters
pub use Rattle.attr_view.specs.Values
