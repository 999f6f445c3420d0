-- WORDS OF THE CRATES BELOW, passed on to those above, which so name this crate alone.
pub use Rattle.entry_edits.specs.Attributes.{RefreshesNames, SetsAttributes}
pub use Rattle.entry_edits.specs.Refreshable.{index_name}
pub use Rattle.entry_edits.specs.Told.{IsToldOf}
