pub mod SettableLaws
pub mod FoundLaws
pub mod StreamToWrite
pub mod EditableLaws
pub mod OverLaws
mod FoundOver
mod FoundPunch
pub mod PunchLaws
mod SecureFound
mod SecureLaws
pub mod RoomFound
pub mod ExtentFound
pub mod AloneFound
pub mod WriteFound
pub mod AskedLaws
pub mod WayLaws
pub mod ValueRoom
pub mod ChangePart
pub mod Below
mod RoomFree
pub mod RoomThere
pub mod ReachFound
pub mod MovableLaws
pub mod MovableFound
-- Laws of the crates below, passed on to those above.
pub use Rattle.file_changes.proofs.LinkLaws
pub use Rattle.file_changes.proofs.StagedLaws
pub use Rattle.attribute_edits.proofs.ItemLaws
pub use Rattle.stream_overwrites.proofs.Rows
pub use Rattle.view_index.proofs.SoundLaws
pub use Rattle.file_room.proofs.AnsweredLaws
pub use Rattle.file_room.proofs.GivesLaws
pub use Rattle.file_room.proofs.OutlineLaws
