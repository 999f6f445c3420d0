pub mod Base
pub mod Held
pub mod Left
pub mod Records
pub mod Numbers
pub mod Holds
pub mod FileNos
pub mod Written
pub mod Links
pub mod Sizes
pub mod Attributes
pub mod Extensions
-- Words of the crates below, passed on to those above.
pub use Rattle.mft_table.specs.Mft
pub use Rattle.mft_table.specs.Streams
pub use Rattle.mft_table.specs.declared.mft.Mft as MftType
pub use Rattle.mft_table.specs.Mounted
pub use Rattle.mft_table.specs.declared.mounted.Mounted as MountedType
pub use Rattle.volume_edits.specs.Clusters
pub use Rattle.mft_table.specs.Changes
pub use Rattle.mft_table.specs.FreeRecords
pub use Rattle.record_bytes.specs.AttributeBytes
pub use Rattle.attr_view.specs.Values
pub use Rattle.mft_table.specs.MirrorClusters
pub use Rattle.mft_table.specs.Staging
pub use Rattle.mft_table.specs.InUse
pub use Rattle.volume_edits.specs.Owners
