pub mod Written
pub mod Below
-- Words of the crates below, passed on to those above.
pub use Rattle.edit_written.specs.Finished
pub use Rattle.edit_written.specs.LeavesAlone
pub use Rattle.edit_written.specs.Marks
pub use Rattle.in_place_owed.specs.SetsInPlace
pub use Rattle.edit_written.specs.LogSpans
pub use Rattle.edit_written.specs.Beside
pub use Rattle.in_place.specs.Behind
pub use Rattle.in_place.specs.Unnamed
pub use Rattle.edit_written.specs.Steps
