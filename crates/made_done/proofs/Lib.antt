mod LeftAlone
mod NewLink
mod FileMade
mod MadeWritten
pub mod Leaves
-- Laws of the crates below, passed on to those above.
pub use Rattle.in_place_done.proofs.Below
pub use Rattle.in_place_done.proofs.Leaves as InPlaceDoneLeaves
pub use Rattle.in_place_done.proofs.PlacesApart
