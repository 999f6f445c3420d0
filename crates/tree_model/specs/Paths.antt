-- Walking a path from the root. It stops at the first component that is bad.
use Rattle.std.specs.Prelude.{ℕ, List, [], ◌∷◌, Option, Some, None, Result, Ok, Err, is_some, if◌then◌else◌}
use Rattle.ntfs_def.specs.declared.records.TheConstants.{ROOT}
use Rattle.list_laws.specs.Ordered.{in_order}
use Rattle.tree_model.specs.Tree.{Tree, link_above, links_in, shown_node, sought_link}
use Rattle.tree_model.specs.declared.reply.No.{No}
use Rattle.tree_model.specs.declared.reply.No.TheVariants as no
use Rattle.tree_model.specs.declared.tree.Found.{Found}
use Rattle.tree_model.specs.declared.tree.Found.TheVariants as found
use Rattle.tree_model.specs.declared.tree.Link.{Link}
use Rattle.tree_model.specs.declared.tree.Node.{Node}

-- what follows, unless it was refused
abbrev pub and_then : {A B : Type 0} → Result A No → (A → Result B No) → Result B No
and_then (Err refused) f = Err refused
and_then (Ok x) f = f x

-- all links of a directory in name order, hidden ones too
unfoldable pub links_in_order : Tree → ℕ → List Link
links_in_order tree dir = in_order (link_above tree.fold) (links_in tree dir)

-- a name in a directory: the exact one, else the first that is the same
abbrev pub lookup : Tree → ℕ → List ℕ → Option Link
lookup tree dir name = sought_link tree.fold (links_in_order tree dir) name

-- A component before the last one leads through a directory that has no reparse point.
abbrev pub passed_node : ℕ → Option Node → Result ℕ No
passed_node file None = Err no.Hidden
passed_node file (Some node) = if node.dir then (if is_some node.point then Err no.Reparse else Ok file) else Err no.NotDir

abbrev pub passed : Tree → Option Link → Result ℕ No
passed tree None = Err no.NotFound
passed tree (Some link) = passed_node link.child (shown_node tree link)

-- a name, and the directory in which it is sought
pub record Place : Type 0 where
  pub directory : ℕ
  pub name : List ℕ

-- Where the last name of a path stands: behind the name in this directory the other names lead on.
abbrev pub last_place : Tree → ℕ → List ℕ → List (List ℕ) → Result Place No
last_place tree dir name [] = Ok (record { directory = dir; name = name })
last_place tree dir name (next ∷ names) = and_then (passed tree (lookup tree dir name)) (λ inner. last_place tree inner next names)

-- What the last component leads to may be anything that is shown.
abbrev pub reached_node : Link → Option Node → Result Found No
reached_node link None = Err no.Hidden
reached_node link (Some node) = Ok (found.Link link)

abbrev pub reached : Tree → Option Link → Result Found No
reached tree None = Err no.NotFound
reached tree (Some link) = reached_node link (shown_node tree link)

-- What a path leads to.
unfoldable pub resolve : Tree → List (List ℕ) → Result Found No
resolve tree [] = Ok found.Root
resolve tree (name ∷ names) =
    and_then (last_place tree ROOT name names) (λ place. reached tree (lookup tree place.directory place.name))

-- Where a path puts a new name; `None` for the root, which is no name.
unfoldable pub resolve_new : Tree → List (List ℕ) → Result (Option Place) No
resolve_new tree [] = Ok None
resolve_new tree (name ∷ names) = and_then (last_place tree ROOT name names) (λ place. Ok (Some place))

-- the file, and the link that was taken to it
abbrev pub found_file : Found → ℕ
found_file found.Root = ROOT
found_file (found.Link link) = link.child

abbrev pub found_link : Found → Option Link
found_link found.Root = None
found_link (found.Link link) = Some link
