pub mod GoneDone
-- Words of the crates below, passed on to those above.
pub use Rattle.gone_owed.specs.GoneOwed
pub use Rattle.gone_owed.specs.Drops
