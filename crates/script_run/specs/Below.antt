-- A VOLUME IN USE, in the words of the crate that has it, passed on to those above.
pub use Rattle.tree_ops.specs.Runs.{Ready}
pub use Rattle.tree_ops.specs.Volumes.{disk_under, mark_of, moment_of, opens_of, view_under}
pub use Rattle.tree_ops.specs.Wanted.{machine_on}
pub use Rattle.tree_ops.specs.declared.volume.Volume.{Volume}
