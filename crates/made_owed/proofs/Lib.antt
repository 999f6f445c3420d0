pub mod MadeBill
pub mod MadeTree
pub mod MadeBase
pub mod EitherCommand
pub mod NewRoot
pub mod MadeCalls
pub mod MadeRecords
pub mod MadeCost
pub mod MadeItems
pub mod MadeIndexes
pub mod MadeNodes
pub mod MadeOwes
-- Laws of the crates below, passed on to those above.
pub use Rattle.made_edits.proofs.BetweenMade
pub use Rattle.made_edits.proofs.LeftMade
pub use Rattle.made_edits.proofs.SoundMade
pub use Rattle.attribute_edits.proofs.AttributesSet
