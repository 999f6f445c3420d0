mod ListLaws
mod AskLaws
mod ValueLaws
-- Laws of the crates below, passed on to those above.
pub use Rattle.tree_read.proofs.NodeLaws
pub use Rattle.tree_read.proofs.StreamLaws
pub use Rattle.tree_read.proofs.OutlineLaws
pub use Rattle.tree_read.proofs.AnsweredLaws
pub use Rattle.tree_read.proofs.GivesLaws
pub use Rattle.tree_read.proofs.RoomLaws
