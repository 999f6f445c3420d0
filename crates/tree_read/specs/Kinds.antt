-- What a link leads to, as a walk of a path asks it.
use Rattle.std.specs.Prelude.{Option, Some, None, is_some, if◌then◌else◌}
use Rattle.tree_model.specs.declared.tree.Node.{Node}

-- A directory with a reparse point is a point.
pub data Kind : Type 0 where
  Hidden : Kind
  File : Kind
  Directory : Kind
  Point : Kind

-- by the node that the link shows
abbrev pub kind_of : Option Node → Kind
kind_of None = Hidden
kind_of (Some node) = if node.dir then (if is_some node.point then Point else Directory) else File
