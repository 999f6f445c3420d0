-- WORDS OF THE CRATES BELOW, passed on to those above, which so name this crate alone.
pub use Rattle.attr_store.specs.First.{TellsSizes, attribute_held}
pub use Rattle.attr_store.specs.declared.first.FirstPart.{FirstPart}
