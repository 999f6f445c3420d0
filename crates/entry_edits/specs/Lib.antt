pub mod Refreshable
pub mod Told
pub mod Attributes
pub mod Below
-- Words of the crates below, passed on to those above.
pub use Rattle.dir_index.specs.Replaced
pub use Rattle.volume_mark.specs.Written
pub use Rattle.volume_mark.specs.Standard
pub use Rattle.dir_index.specs.Edit
pub use Rattle.dir_index.specs.Replace
pub use Rattle.dir_index.specs.Index
pub use Rattle.dir_index.specs.IndexBlocks
pub use Rattle.dir_index.specs.IndexStoreBelow as IndexStoreBelow
pub use Rattle.dir_index.specs.IndexRecords
pub use Rattle.dir_index.specs.FoundIndex
pub use Rattle.dir_index.specs.First
pub use Rattle.dir_index.specs.FirstPart
