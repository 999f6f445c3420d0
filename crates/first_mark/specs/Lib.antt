pub mod Written
pub mod Below
-- Words of the crates below, passed on to those above.
pub use Rattle.mark_place.specs.LogSpans
pub use Rattle.mark_place.specs.Beside
