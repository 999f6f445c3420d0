-- STEPS OF TREES, of which the effects of commands are made, and what a call names that the tree shows.
use Rattle.std.specs.Prelude.{◌≡◌, ◌≢◌, ℕ, not, Bool, false, List, [], ◌∷◌, filter}
use Rattle.std.specs.FinMap as finmap
use Rattle.ntfs_def.specs.StandardInformation.{standard_security, standard_times}
use Rattle.volume_def.specs.Files.{records_of}
use Rattle.volume_def.specs.View.{VolumeView}
use Rattle.tree_model.specs.Drops.{is_link}
use Rattle.tree_model.specs.Hidden.{is_hidden}
use Rattle.tree_model.specs.Reading.{standard_flags}
use Rattle.tree_model.specs.Tree.{Tree}
use Rattle.tree_model.specs.declared.tree.Link.{Link}
use Rattle.tree_model.specs.declared.tree.Node.{Node}
use Rattle.edit_def.specs.Kept.{IsUnseen, Key}

-- a file is this node, and none
abbrev pub with_node : ℕ → Node → Tree → Tree
with_node f node tree = record tree { nodes = finmap.insert tree.nodes f node }

abbrev pub without_node : ℕ → Tree → Tree
without_node f tree = record tree { nodes = finmap.remove tree.nodes f }

-- the node with the times, the flags and the security id of this $STANDARD_INFORMATION
abbrev pub with_standard : List ℕ → Node → Node
with_standard standard node =
    record node { times = standard_times standard; flags = standard_flags standard; security = standard_security standard }

-- one link goes, and no other with it
abbrev pub without_link : Link → Tree → Tree
without_link link tree = record tree { links = filter (λ other. not (is_link link other)) tree.links }

-- links go one after another
abbrev pub without_links : List Link → Tree → Tree
without_links [] tree = tree
without_links (link ∷ links) tree = without_links links (without_link link tree)

-- Of files that are shown, the call names nothing that the tree shows ..
abbrev pub LeavesShown : (Key → Bool) → VolumeView → Type 0
LeavesShown changed view = (f : ℕ) → is_hidden (records_of view) f ≡ false → IsUnseen changed f

-- .. but of one file.
abbrev pub LeavesOthers : (Key → Bool) → VolumeView → ℕ → Type 0
LeavesOthers changed view f = (g : ℕ) → g ≢ f → is_hidden (records_of view) g ≡ false → IsUnseen changed g
