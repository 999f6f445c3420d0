-- What a new volume reads as: the root, and nothing else that is shown. All other files are of the system, so they and all names
-- are hidden.
use Rattle.std.specs.Prelude.{ℕ, true, List, [], ◌∷◌, ◌++◌, map, None}
use Rattle.std.specs.FinMap as finmap
use Rattle.std.specs.List.{range_with_len}
use Rattle.ntfs_def.specs.declared.records.TheConstants.{EXTEND, ROOT}
use Rattle.ntfs_def.specs.KeyOrder.{fold_of}
use Rattle.tree_model.specs.Tree.{Tree}
use Rattle.tree_model.specs.declared.tree.Link.{Link}
use Rattle.tree_model.specs.declared.tree.Node.{Node}
use Rattle.volume_format.specs.Items.{case_byte}
use Rattle.volume_format.specs.Plan.{case_len}
use Rattle.volume_format.specs.RootIndex.{SystemName, extend_names, root_names}

-- the bytes of the table of case
unfoldable pub new_case_table : List ℕ
new_case_table = map case_byte (range_with_len 0 case_len)

-- the root: a directory without times, with the DOS flags hidden and system and the security id 256; no stream, no reparse point
-- and no other attribute
abbrev pub new_root : Node
new_root = record { dir = true; times = 0 ∷ 0 ∷ 0 ∷ 0 ∷ []; flags = 6; security = 256; streams = []; point = None; others = [] }

-- a name in a directory, as a link; all are of the namespace 3
abbrev pub new_link : ℕ → SystemName → Link
new_link directory name = record { parent = directory; name = name.letters; space = 3; child = name.number }

-- The names of all files, by directory and name order. The last one in the root is the root's own.
abbrev pub new_links : List Link
new_links = map (new_link ROOT) root_names ++ map (new_link EXTEND) extend_names

-- THE TREE of a new volume.
unfoldable pub new_tree : Tree
new_tree = record { fold = fold_of new_case_table; nodes = finmap.from_entries ((ROOT, new_root) ∷ []); links = []; hidden = new_links }
