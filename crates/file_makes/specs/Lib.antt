pub mod NewBytes
pub mod Steps
pub mod Enters
pub mod Under
-- Words of the crates below, passed on to those above.
pub use Rattle.made_edits.specs.Comes
pub use Rattle.made_edits.specs.Makes
pub use Rattle.made_edits.specs.Left
pub use Rattle.made_edits.specs.Made
pub use Rattle.made_edits.specs.Held
pub use Rattle.made_edits.specs.HeldRecordBits
