-- The tree of files that a volume reads as, in one canonical form, and how names are sought in it.
-- Source: Linux-NTFS documentation, "Directory Indexes" and file $UpCase; Carrier, File System Forensic Analysis, chapter 12.
use Rattle.std.specs.Prelude.{ℕ, ◌==◌, ◌&&◌, not, Bool, List, ◌++◌, map, filter, find, Option, None, if◌then◌else◌}
use Rattle.std.specs.FinMap as finmap
use Rattle.std.specs.Option.{option_or}
use Rattle.std.specs.Ordering.{is_gt, nat_cmp, ordering_then}
use Rattle.std.specs.Str.{bytes_eq}
use Rattle.std.specs.declared.cmp.Ordering.{Ordering}
use Rattle.ntfs_def.specs.KeyOrder.{compare_units}
use Rattle.ntfs_def.specs.declared.records.TheConstants.{ROOT}
use Rattle.tree_model.specs.declared.tree.Link.{Link}
use Rattle.tree_model.specs.declared.tree.Node.{Node}
use Rattle.tree_model.specs.declared.tree.Stream.{Stream}

-- Files and directories by record number, and their names in directories. Hidden links are kept apart.
pub record Tree : Type 0 where
  -- what units of names are compared as
  pub fold : ℕ → ℕ
  pub nodes : finmap.FinMap nat_cmp Node
  -- links by directory and name, DOS names too
  pub links : List Link
  pub hidden : List Link

-- Names are the same where their folded units are.
abbrev pub are_same : (ℕ → ℕ) → List ℕ → List ℕ → Bool
are_same fold a b = bytes_eq (map fold a) (map fold b)

-- Links by directory and name. A volume has no two that tie so far, and the rest makes this an order of all links.
abbrev pub compare_links : (ℕ → ℕ) → Link → Link → Ordering
compare_links fold a b =
    ordering_then (nat_cmp a.parent b.parent)
    (ordering_then (compare_units fold a.name b.name) (ordering_then (nat_cmp a.space b.space) (nat_cmp a.child b.child)))

abbrev pub link_above : (ℕ → ℕ) → Link → Link → Bool
link_above fold a b = is_gt (compare_links fold a b)

-- a DOS name
abbrev pub is_dos : Link → Bool
is_dos link = link.space == 2

-- a link in this directory, and one to this file
abbrev pub is_in : ℕ → Link → Bool
is_in dir link = link.parent == dir

abbrev pub leads_to : ℕ → Link → Bool
leads_to file link = link.child == file

-- a name of this file that is no DOS name, and the first of them among some links
abbrev pub names_file : ℕ → Link → Bool
names_file file link = leads_to file link && not (is_dos link)

abbrev pub first_name : List Link → ℕ → Option Link
first_name links file = find (names_file file) links

-- the file of this number
abbrev pub node_of : Tree → ℕ → Option Node
node_of tree file = finmap.get tree.nodes file

-- all links of a directory, DOS and hidden ones too
abbrev pub links_in : Tree → ℕ → List Link
links_in tree dir = filter (is_in dir) (tree.links ++ tree.hidden)

-- What is sought by a name, among items in name order: that of exactly this name, else the first of the same name.
abbrev pub sought : {A : Type 0} → (A → List ℕ) → (ℕ → ℕ) → List A → List ℕ → Option A
sought name_of fold items name =
    option_or (find (λ item. bytes_eq (name_of item) name) items) (find (λ item. are_same fold (name_of item) name) items)

-- a link of a directory by its name
abbrev pub sought_link : (ℕ → ℕ) → List Link → List ℕ → Option Link
sought_link fold links name = sought (λ (link : Link). link.name) fold links name

-- a stream of a file by its name
abbrev pub sought_stream : (ℕ → ℕ) → List Stream → List ℕ → Option Stream
sought_stream fold streams name = sought (λ (stream : Stream). stream.name) fold streams name

-- The file that a link leads to, `None` where the link is hidden: a hidden record is no node, and the root has no link that
-- is shown.
abbrev pub shown_node : Tree → Link → Option Node
shown_node tree link = if leads_to ROOT link then None else node_of tree link.child
