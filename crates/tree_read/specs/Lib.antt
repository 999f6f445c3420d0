pub mod Answered
pub mod Kinds
pub mod FileLinks
pub mod Above
pub mod Lines
pub mod Nodes
pub mod Shown
pub mod Parts
pub mod Walks
pub mod Below
pub mod Standings
-- Words of the crates below, passed on to those above.
pub use Rattle.file_record.specs.Held
pub use Rattle.file_record.specs.declared.parts.FileParts
pub use Rattle.file_record.specs.declared.held.Held as HeldType
pub use Rattle.file_record.specs.Left
