-- WORDS OF THE CRATES BELOW, passed on to those above, which so name this crate alone.
pub use Rattle.mark_place.specs.LogSpans.{AreLogSpans, AreSpansOf, log_sectors}
