pub mod KeptLaws
pub mod NamesApart
pub mod OverLaws
pub mod PatchLaws
pub mod OverwriteLaws
pub mod BehindLaws
pub mod RunWrites
-- Laws of the crates below, passed on to those above.
pub use Rattle.attr_store.proofs.StoredLaws
pub use Rattle.attr_store.proofs.FirstLaws
pub use Rattle.attr_store.proofs.PutLaws
pub use Rattle.attr_store.proofs.StageLaws
pub use Rattle.attr_store.proofs.ReadLaws
