-- WORDS OF THE CRATES BELOW, passed on to those above, which so name this crate alone.
pub use Rattle.tree_edit.specs.Settable.{IsSettable, settable}
pub use Rattle.tree_edit.specs.Staged.{IsOfDirectory, IsOfEdit, IsOfFile, IsOfNames, IsOfStreams, StagesAttributes, StagesFew, TellsStored}
pub use Rattle.tree_edit.specs.Securable.{IsSecurable, secure_in, secure_wanted}
pub use Rattle.tree_edit.specs.Values.{IsOfValue, StagesValue}
pub use Rattle.tree_edit.specs.Movable.{can_move_there}
pub use Rattle.tree_edit.specs.Write.{IsWritable, can_go_behind, can_lie_there, can_reach_there, can_write, hwrite_in, hwrite_wanted}
pub use Rattle.tree_edit.specs.Write.{room_to_reach, room_to_write, write_in, write_wanted}
pub use Rattle.tree_edit.specs.Alone.{IsResizable, can_drop, can_end, can_end_there, can_get, can_give, can_go, can_resize, drop_in}
pub use Rattle.tree_edit.specs.Alone.{drop_wanted, if_room, resize_in, resize_wanted, room_to_resize}
pub use Rattle.tree_edit.specs.Writable.{IsFoundToEdit, can_write_over, content_to_write, named_in}
pub use Rattle.tree_edit.specs.Punchable.{CanPunch, can_punch, punch_in, punch_wanted}
pub use Rattle.tree_edit.specs.Over.{CanWriteOver, StagesOver}
pub use Rattle.tree_edit.specs.declared.writable.Writable.{Writable}
pub use Rattle.tree_edit.specs.Change.{CanChange, has_room_for}
pub use Rattle.tree_edit.specs.declared.writable.Way.{Way}
pub use Rattle.tree_edit.specs.declared.writable.Way.TheVariants.{InClusters, InPlace, InRecord, IntoClusters}
pub use Rattle.tree_edit.specs.declared.securable.Securable.{Securable}
pub use Rattle.tree_edit.specs.declared.settable.Settable.{Settable}
