-- A file that goes: what a volume and its tree are without it.
use Rattle.std.specs.Prelude.{◌≡◌, ◌≢◌, ℕ, not, filter, None}
use Rattle.std.specs.FinMap as finmap
use Rattle.volume_def.specs.CaseClause.{volume_fold}
use Rattle.volume_def.specs.Files.{records_of}
use Rattle.volume_def.specs.View.{VolumeView}
use Rattle.tree_model.specs.Hidden.{is_hidden}
use Rattle.tree_model.specs.Reading.{all_links, node_at}
use Rattle.tree_model.specs.Tree.{Tree, leads_to}

-- the tree without a file and its names
abbrev pub without_file : ℕ → Tree → Tree
without_file file tree =
    record tree { nodes = finmap.remove tree.nodes file; links = filter (λ link. not (leads_to file link)) tree.links }

-- The file went with all its names, and of all others each is as it was.
pub record IsTaken (old new : VolumeView) (file : ℕ) : Type 0 where
  pub fold : volume_fold new ≡ volume_fold old
  pub gone : node_at new file ≡ None
  pub nodes : (other : ℕ) → other ≢ file → node_at new other ≡ node_at old other
  pub links : all_links new ≡ filter (λ link. not (leads_to file link)) (all_links old)
  pub hidden : (other : ℕ) → other ≢ file → is_hidden (records_of new) other ≡ is_hidden (records_of old) other
