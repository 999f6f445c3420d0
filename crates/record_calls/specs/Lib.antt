pub mod Marks
pub mod Edits
pub mod Rising
pub mod Calls
-- Words of the crates below, passed on to those above.
pub use Rattle.file_record.specs.Written
pub use Rattle.file_edits.specs.Files
pub use Rattle.file_edits.specs.Steps
pub use Rattle.file_edits.specs.Links
pub use Rattle.file_edits.specs.Between
pub use Rattle.file_edits.specs.RecordEdit
