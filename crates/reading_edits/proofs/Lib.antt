pub mod LinksRead
pub mod NodesRead
pub mod CallsRead
pub mod EffectSteps
pub mod NewNodes
-- Laws of the crates below, passed on to those above.
pub use Rattle.name_edits.proofs.CommandLinks
pub use Rattle.name_edits.proofs.GoneNames
pub use Rattle.name_edits.proofs.HiddenFiles
pub use Rattle.name_edits.proofs.NamesInTurn
pub use Rattle.name_edits.proofs.NoNames
pub use Rattle.name_edits.proofs.OnceNames
pub use Rattle.name_edits.proofs.TreeNames
pub use Rattle.name_edits.proofs.ReferencesAfter
pub use Rattle.name_edits.proofs.LinksAfter
pub use Rattle.name_edits.proofs.CommandSteps
pub use Rattle.name_edits.proofs.ListTests
pub use Rattle.name_edits.proofs.SameLink
