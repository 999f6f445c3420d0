-- The steps of a walk along a path: a name is sought, and what its link leads to says whether the walk goes on.
use Rattle.std.specs.Prelude.{◌≡◌, ℕ, List, Option, Some, None, Result, Ok, Err, true, false}
use Rattle.volume_def.specs.Files.{records_of}
use Rattle.volume_def.specs.View.{VolumeView}
use Rattle.volume_def.specs.Readable.{IsDirectory}
use Rattle.tree_model.specs.Hidden.{is_hidden}
use Rattle.tree_model.specs.Paths.{lookup}
use Rattle.tree_model.specs.Tree.{Tree}
use Rattle.tree_model.specs.declared.reply.Listed.{Listed}
use Rattle.tree_model.specs.declared.reply.No.{No}
use Rattle.tree_model.specs.declared.reply.No.TheVariants as no
use Rattle.tree_model.specs.declared.tree.Found.{Found}
use Rattle.tree_model.specs.declared.tree.Found.TheVariants as found
use Rattle.tree_model.specs.declared.tree.Link.{Link}
use Rattle.file_record.specs.declared.base.BaseFile.{BaseFile}
use Rattle.tree_read.specs.Kinds.{Kind}
use Rattle.tree_read.specs.Kinds as kind
use Rattle.tree_read.specs.Nodes.{IsFileHeld, number_of}
use Rattle.tree_read.specs.declared.below.Below.{Below}
use Rattle.tree_read.specs.declared.below.Below.TheVariants as below
use Rattle.tree_read.specs.declared.walk.Reached.{Reached}

-- a directory that is shown: a walk stands in one
pub record IsShownDirectory (view : VolumeView) (dir : ℕ) : Type 0 where
  pub directory : IsDirectory view dir
  pub shown : is_hidden (records_of view) dir ≡ false

-- .. and is held
pub record IsDirectoryHeld (view : VolumeView) (dir : BaseFile) : Type 0 where
  pub held : IsFileHeld view (number_of dir) dir
  pub is_shown : IsShownDirectory view (number_of dir)

-- a name that has to be there
abbrev pub there : Option Link → Result Link No
there None = Err no.NotFound
there (Some link) = Ok link

abbrev pub sought_at : Tree → ℕ → List ℕ → Result Link No
sought_at tree dir name = there (lookup tree dir name)

-- what a component before the last one leads through, by a link to this file
abbrev pub passed_kind : ℕ → Kind → Result ℕ No
passed_kind file kind.Hidden = Err no.Hidden
passed_kind file kind.File = Err no.NotDir
passed_kind file kind.Directory = Ok file
passed_kind file kind.Point = Err no.Reparse

-- what the last component leads to
abbrev pub reached_kind : Link → Kind → Result Found No
reached_kind link kind.Hidden = Err no.Hidden
reached_kind link kind.File = Ok (found.Link link)
reached_kind link kind.Directory = Ok (found.Link link)
reached_kind link kind.Point = Ok (found.Link link)

-- the same of what is loaded: the directory that goes on, and what was found with its file
abbrev pub passed_below : Below → Result BaseFile No
passed_below below.Hidden = Err no.Hidden
passed_below (below.File held) = Err no.NotDir
passed_below (below.Directory held) = Ok held
passed_below (below.Point held) = Err no.Reparse

abbrev pub reached_below : Link → Below → Result Reached No
reached_below link below.Hidden = Err no.Hidden
reached_below link (below.File held) = Ok (record { found = found.Link link; held = held })
reached_below link (below.Directory held) = Ok (record { found = found.Link link; held = held })
reached_below link (below.Point held) = Ok (record { found = found.Link link; held = held })

abbrev pub found_by : Reached → Found
found_by to = to.found

-- the line of a link that is no DOS name
abbrev pub listed_kind : List ℕ → Kind → Option Listed
listed_kind name kind.Hidden = None
listed_kind name kind.File = Some (record { dir = false; name = name })
listed_kind name kind.Directory = Some (record { dir = true; name = name })
listed_kind name kind.Point = Some (record { dir = true; name = name })
