pub mod Steps
pub mod Links
pub mod Files
-- Words of the crates below, passed on to those above.
pub use Rattle.record_edits.specs.Between
pub use Rattle.record_edits.specs.Pending
pub use Rattle.record_edits.specs.Owners
pub use Rattle.record_edits.specs.RecordEdit
