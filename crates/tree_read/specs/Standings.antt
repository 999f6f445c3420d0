-- The directory in which a path ended, as the volume's tree leads to it.
use Rattle.std.specs.Prelude.{◌≡◌, ℕ, List, [], ◌∷◌, Result, Ok}
use Rattle.ntfs_def.specs.declared.records.TheConstants.{ROOT}
use Rattle.volume_def.specs.View.{VolumeView}
use Rattle.tree_model.specs.Paths.{and_then, lookup, passed}
use Rattle.tree_model.specs.Reading.{read}
use Rattle.tree_model.specs.Tree.{Tree}
use Rattle.tree_model.specs.declared.reply.No.{No}
use Rattle.tree_read.specs.Nodes.{number_of}
use Rattle.tree_read.specs.Walks.{IsDirectoryHeld}
use Rattle.tree_read.specs.declared.standing.Standing.{Standing}

-- the directory that names lead to from this one; each is a component before the last one of a path
abbrev pub led_to : Tree → ℕ → List (List ℕ) → Result ℕ No
led_to tree dir [] = Ok dir
led_to tree dir (name ∷ names) = and_then (passed tree (lookup tree dir name)) (λ inner. led_to tree inner names)

-- The directory is held, and the names lead to it from the root.
pub record IsStanding (view : VolumeView) (standing : Standing) : Type 0 where
  pub held : IsDirectoryHeld view standing.directory
  pub leads : led_to (read view) ROOT standing.names.items ≡ Ok (number_of standing.directory)

-- the number of that directory
abbrev pub number_within : Standing → ℕ
number_within standing = number_of standing.directory
