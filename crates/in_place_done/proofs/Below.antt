-- LAWS OF THE CRATES BELOW that those above cite, passed on.
pub use Rattle.in_place_owed.proofs.CallsOwed.{apart-of}
pub use Rattle.in_place_owed.proofs.EmptyBill.{has-room}
pub use Rattle.edit_written.proofs.AgreesLaws.{none-within}
pub use Rattle.edit_written.proofs.Below.{value-room}
