pub mod GoneOwed
pub mod Drops
-- Words of the crates below, passed on to those above.
pub use Rattle.gone_edits.specs.Goes
pub use Rattle.gone_edits.specs.Left
pub use Rattle.gone_edits.specs.Gone
