pub mod Behind
pub mod Blank
pub mod InPlace
pub mod Unnamed
-- Words of the crates below, passed on to those above.
pub use Rattle.record_edits.specs.InPlace as RecordEditsInPlace
pub use Rattle.file_record.specs.Written
pub use Rattle.session_def.specs.Indexes
pub use Rattle.session_def.specs.Kept
pub use Rattle.session_def.specs.Nodes
pub use Rattle.session_def.specs.Named
pub use Rattle.session_def.specs.Room
