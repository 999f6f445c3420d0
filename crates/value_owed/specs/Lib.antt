pub mod ValueOwed
pub mod Below
-- Words of the crates below, passed on to those above.
pub use Rattle.value_edits.specs.Marks
pub use Rattle.value_edits.specs.Allowed
pub use Rattle.value_edits.specs.Behind
pub use Rattle.value_edits.specs.InPlace
pub use Rattle.value_edits.specs.Unnamed
pub use Rattle.value_edits.specs.Steps
