pub mod MadeOwed
-- Words of the crates below, passed on to those above.
pub use Rattle.made_edits.specs.Comes
pub use Rattle.made_edits.specs.Makes
pub use Rattle.made_edits.specs.Left
pub use Rattle.made_edits.specs.Made
pub use Rattle.made_edits.specs.Wants
pub use Rattle.attribute_edits.specs.Attributes
