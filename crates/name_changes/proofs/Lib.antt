pub mod FileBetween
pub mod StagedBoth
pub mod FoundMade
-- Laws of the crates below, passed on to those above.
pub use Rattle.make_places.proofs.OutcomeLaws
pub use Rattle.make_places.proofs.SoundLaws
