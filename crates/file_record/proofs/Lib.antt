pub mod HeldLaws
pub mod OpenedRecords
pub mod RecordLaws
pub mod NamedLaws
pub mod ListValues
pub mod ListParts
pub mod ListedLaws
pub mod RiseLaws
pub mod CoverLaws
pub mod NumbersLaws
pub mod BaseLaws
pub mod HoldLaws
pub mod ReadLaws
pub mod HeldKept
mod SealedRecords
mod HeldParts
mod OverwriteLaws
mod SizeLaws
mod EditLaws
mod WriteLaws
mod LinkLaws
mod FreshRecords
mod HeldInserts
mod HeldRemovals
mod ExtensionLaws
mod CreateLaws
mod PutLaws
mod AttributeLaws
mod RecordEdits
pub mod Below
-- Laws of the crates below, passed on to those above.
pub use Rattle.mft_table.proofs.StageTwice
pub use Rattle.mft_table.proofs.StagedRecord
pub use Rattle.mft_table.proofs.StreamBytes
pub use Rattle.mft_table.proofs.StreamReads
pub use Rattle.mft_table.proofs.DiskKept
pub use Rattle.volume_edits.proofs.ClusterWrites
pub use Rattle.volume_edits.proofs.ChangedStream
pub use Rattle.volume_edits.proofs.StreamClusters
pub use Rattle.volume_edits.proofs.WithBytes
pub use Rattle.volume_edits.proofs.OwnerLaws
