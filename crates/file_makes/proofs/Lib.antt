pub mod FieldsKept
pub mod KeyLaws
pub mod EntryLaws
pub mod RecordSteps
pub mod FreeParts
pub mod FlaggedLaws
pub mod EnterLaws
pub mod UnderLaws
pub mod RoomKept
pub mod MadeUnder
pub mod MakeLaws
pub mod StandardLaws
-- Laws of the crates below, passed on to those above.
pub use Rattle.made_edits.proofs.BetweenMade
pub use Rattle.made_edits.proofs.LeftMade
pub use Rattle.made_edits.proofs.SoundMade
