-- WORDS OF THE CRATES BELOW, passed on to those above, which so name this crate alone.
pub use Rattle.value_owed.specs.Below.{EndsBy, FindsPlain, GoesOverValue, IsEdited, IsOverwritten, PunchesValue, PutsBytes, PutsStream}
pub use Rattle.value_owed.specs.Below.{ResizesStream, WritesOver, count_by_length, gained_by_length, gained_by_write, no_gain, node_over}
pub use Rattle.value_owed.specs.Below.{node_with, zeros_in}
pub use Rattle.value_owed.specs.ValueOwed.{SetsBehindValue, between, clusters_asked, clusters_to_write, edits_value}
