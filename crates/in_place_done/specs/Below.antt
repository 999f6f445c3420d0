-- WORDS OF THE CRATES BELOW in which the edits are told, passed on to those above, which so name this crate alone.
pub use Rattle.stream_edits.specs.Streams.{IsThere}
pub use Rattle.in_place.specs.Unnamed.{CanSet, LiesApart}
pub use Rattle.attribute_edits.specs.Attributes.{SetsSecurity}
pub use Rattle.attribute_edits.specs.Below.{SetsAttributes}
pub use Rattle.edit_written.specs.Finished.{IsFinished, IsPlaceOf}
pub use Rattle.edit_written.specs.Below.{PunchesValue, PutsBytes, PutsStream, ResizesStream, WritesOver, no_gain}
