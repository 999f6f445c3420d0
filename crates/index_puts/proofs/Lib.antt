pub mod BytesLaws
pub mod LeafLaws
pub mod LeafSteps
pub mod RoomLaws
pub mod PutLaws
pub mod PutSteps
pub mod HeldLaws
pub mod PutItems
pub mod PutWhole
pub mod PutVolume
pub mod RecordLaws
pub mod RootLaws
pub mod RootPut
pub mod RoomStays
mod DepthLaws
-- Laws of the crates below, passed on to those above.
pub use Rattle.entry_edits.proofs.FewStaged
pub use Rattle.file_record.proofs.RecordLaws as FileRecordRecordLaws
pub use Rattle.index_tree.proofs.IndexTreeLaws
