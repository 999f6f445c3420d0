-- WORDS OF THE CRATES BELOW, passed on to those above, which so name this crate alone.
pub use Rattle.extent_edits.specs.Cut.{KeepsRecord}
pub use Rattle.stream_overwrites.specs.Overwritten.{FindsPlain, GoesOverValue, IsOverwritten, PunchesValue, WritesOver, node_over, zeros_in}
pub use Rattle.stream_overwrites.specs.Below.{IsInOneRecord, record_there}
pub use Rattle.in_place_owed.specs.Below.{CanSet}
