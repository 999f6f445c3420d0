pub mod Makes
-- Words of the crates below, passed on to those above.
pub use Rattle.made_owed.specs.MadeOwed
pub use Rattle.file_makes.specs.Steps
pub use Rattle.file_makes.specs.Under
pub use Rattle.tree_edit.specs.Below
pub use Rattle.tree_edit.specs.Links
pub use Rattle.tree_edit.specs.Staged
pub use Rattle.tree_edit.specs.Alone
pub use Rattle.file_makes.specs.Comes
pub use Rattle.file_makes.specs.Makes as MadeEditsMakes
pub use Rattle.file_makes.specs.Left
pub use Rattle.file_makes.specs.Made
pub use Rattle.name_places.specs.declared.place.NewPlace
pub use Rattle.name_places.specs.Places
pub use Rattle.tree_edit.specs.Standings
pub use Rattle.tree_edit.specs.Nodes
pub use Rattle.file_makes.specs.HeldRecordBits
pub use Rattle.tree_edit.specs.Marks
pub use Rattle.tree_edit.specs.Security
