pub mod Asked
pub mod Made
-- Words of the crates below, passed on to those above.
pub use Rattle.tree_read.specs.Answered
pub use Rattle.tree_read.specs.Nodes
pub use Rattle.tree_read.specs.Standings
pub use Rattle.tree_read.specs.FileLinks
pub use Rattle.tree_read.specs.Parts
pub use Rattle.tree_read.specs.Walks
pub use Rattle.tree_read.specs.declared.stop.Stop
pub use Rattle.tree_read.specs.declared.walk.Reached
