-- LAWS OF THE CRATES BELOW that those above cite, passed on.
pub use Rattle.mark_place.proofs.EmptyLaws.{outside-log}
