-- A word of the crates below in which `apply` is told, passed on to those above.
pub use Rattle.made_done.specs.Written.{SetsShown}
