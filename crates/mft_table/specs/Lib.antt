pub mod Tables
pub mod StageCauses
pub mod TableNos
pub mod Mounted
pub mod Changes
pub mod MirrorClusters
pub mod Mft
pub mod Staging
pub mod MftNos
pub mod Streams
pub mod MountNos
pub mod HeldTables
pub mod InUse
pub mod FreeRecords
-- Words of the crates below, passed on to those above.
pub use Rattle.cluster_bitmap.specs.Flags
pub use Rattle.vol_stage.specs.Staged
