pub mod Finished
pub mod LeavesAlone
pub mod Below
-- Words of the crates below, passed on to those above.
pub use Rattle.value_owed.specs.Marks
pub use Rattle.value_owed.specs.Allowed
pub use Rattle.first_mark.specs.LogSpans
pub use Rattle.first_mark.specs.Beside
pub use Rattle.value_owed.specs.Steps
