pub mod MadeDone
-- Words of the crates below, passed on to those above.
pub use Rattle.made_owed.specs.MadeOwed
pub use Rattle.in_place_done.specs.Written
pub use Rattle.in_place_done.specs.Below
pub use Rattle.in_place_done.specs.LogSpans
pub use Rattle.in_place_done.specs.Beside
