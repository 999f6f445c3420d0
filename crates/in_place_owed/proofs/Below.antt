-- LAWS OF THE CRATES BELOW that those above cite, passed on.
pub use Rattle.in_place.proofs.RewriteLaws.{Rewrites-then}
pub use Rattle.in_place.proofs.RoomSame.{times-same}
pub use Rattle.in_place.proofs.EditedInPlace.{editable-sound}
