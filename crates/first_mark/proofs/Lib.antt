pub mod LogStays
pub mod MarkedBlocks
pub mod VersionLaws
pub mod MarkedVolume
pub mod BehindLaws
pub mod FinishedLaws
pub mod Below
-- Laws of the crates below, passed on to those above.
pub use Rattle.mark_place.proofs.PlacesApart
