-- WORDS OF THE CRATES BELOW, passed on to those above, which so name this crate alone.
pub use Rattle.value_edits.specs.ValueEdits.{EditsAlone, EndsBy, IsEdited, PutsBytes, PutsStream, ResizesStream, count_by_length}
pub use Rattle.value_edits.specs.ValueEdits.{gained_by_length, gained_by_write, no_gain, node_with}
pub use Rattle.value_edits.specs.Below.{FindsPlain, GoesOverValue, IsOverwritten, PunchesValue, WritesOver, node_over, zeros_in}
