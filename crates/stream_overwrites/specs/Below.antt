-- WORDS OF THE CRATES BELOW, passed on to those above, which so name this crate alone.
pub use Rattle.record_calls.specs.Calls.{IsInOneRecord}
pub use Rattle.record_calls.specs.Edits.{record_there}
pub use Rattle.command_edits.specs.Steps.{LeavesOthers, with_node}
pub use Rattle.stream_edits.specs.Streams.{IsThere}
pub use Rattle.command_edits.specs.Between.{IsBetween}
pub use Rattle.command_edits.specs.Keys.{NamesNoIndex}
pub use Rattle.entry_edits.specs.Attributes.{SetsAttributes}
pub use Rattle.in_place.specs.Unnamed.{CanSet, LiesApart}
pub use Rattle.in_place.specs.Blank.{blank_record}
pub use Rattle.in_place.specs.InPlace.{Rewrites}
