-- What a link leads to, loaded where it is shown.
use Rattle.std.specs.Prelude.{◌≡◌, Option, Some, None, IfSome}
use Rattle.volume_def.specs.View.{VolumeView}
use Rattle.file_record.specs.declared.base.BaseFile.{BaseFile}
use Rattle.tree_model.specs.Reading.{read}
use Rattle.tree_model.specs.Tree.{shown_node}
use Rattle.tree_model.specs.declared.tree.Link.{Link}
use Rattle.tree_read.specs.Kinds.{Kind, kind_of}
use Rattle.tree_read.specs.Kinds as kind
use Rattle.tree_read.specs.Nodes.{IsFileHeld}
use Rattle.tree_read.specs.declared.below.Below.{Below}
use Rattle.tree_read.specs.declared.below.Below.TheVariants as below

-- its kind, and its file
abbrev pub kind_below : Below → Kind
kind_below below.Hidden = kind.Hidden
kind_below (below.File held) = kind.File
kind_below (below.Directory held) = kind.Directory
kind_below (below.Point held) = kind.Point

abbrev pub held_below : Below → Option BaseFile
held_below below.Hidden = None
held_below (below.File held) = Some held
held_below (below.Directory held) = Some held
held_below (below.Point held) = Some held

-- It is what the link leads to: of that kind, and that file.
pub record IsBelow (view : VolumeView) (link : Link) (to : Below) : Type 0 where
  pub kind : kind_of (shown_node (read view) link) ≡ kind_below to
  pub held : IfSome (held_below to) (IsFileHeld view link.child)
