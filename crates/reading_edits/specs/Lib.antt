pub mod NewFiles
pub mod Steps
-- Words of the crates below, passed on to those above.
pub use Rattle.name_edits.specs.Dropped
