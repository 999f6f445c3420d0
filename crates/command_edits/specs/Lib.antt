pub mod Allowed
pub mod Between
pub mod Calls
pub mod Commands
pub mod KeptBy
pub mod Keys
-- Words of the crates below, passed on to those above.
pub use Rattle.reading_edits.specs.Steps
pub use Rattle.reading_edits.specs.NewFiles
