-- Which links go when one is dropped, and when the file goes with them.
-- Source: Linux-NTFS documentation, attribute $FILE_NAME: a long name (namespace 1) has a DOS name (2) beside it.
use Rattle.std.specs.Prelude.{◌==◌, ◌&&◌, ◌||◌, not, Bool, false, Option}
use Rattle.std.specs.List.{list_any}
use Rattle.std.specs.Option.{option_map_or}
use Rattle.std.specs.Str.{bytes_eq}
use Rattle.tree_model.specs.Tree.{Tree, is_dos, names_file}
use Rattle.tree_model.specs.declared.tree.Link.{Link}

abbrev pub is_link : Link → Link → Bool
is_link a b = (a.parent == b.parent) && bytes_eq a.name b.name && (a.space == b.space) && (a.child == b.child)

-- a name of the same file in the same directory
abbrev pub is_beside : Link → Link → Bool
is_beside link other = (other.parent == link.parent) && (other.child == link.child)

abbrev pub is_long : Link → Bool
is_long link = link.space == 1

-- another long name of the file stays in the directory
abbrev pub has_other_long : Tree → Link → Bool
has_other_long tree link = list_any (λ other. is_beside link other && is_long other && not (is_link link other)) tree.links

-- The links that go with `link`: itself, and for the only long name in its directory the DOS name beside it.
abbrev pub goes_with : Tree → Link → Link → Bool
goes_with tree link other =
    is_link link other || (is_long link && is_dos other && is_beside link other && not (has_other_long tree link))

-- No name but DOS names would be left of the file.
abbrev pub is_last_name : Tree → Link → Bool
is_last_name tree link =
    not (list_any (λ other. names_file link.child other && not (is_link link other)) tree.links)

abbrev pub is_last_link : Tree → Option Link → Bool
is_last_link tree link = option_map_or (is_last_name tree) link false
