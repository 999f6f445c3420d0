-- WORDS OF THE CRATES BELOW, passed on to those above, which so name this crate alone.
pub use Rattle.in_place.specs.Unnamed.{CanSet, LiesApart}
