pub mod Overwritten
pub mod Below
-- Words of the crates below, passed on to those above.
pub use Rattle.record_calls.specs.Marks
pub use Rattle.command_edits.specs.Allowed
pub use Rattle.in_place.specs.Behind
pub use Rattle.in_place.specs.InPlace
pub use Rattle.in_place.specs.Unnamed
pub use Rattle.in_place.specs.Blank
pub use Rattle.command_edits.specs.Steps
