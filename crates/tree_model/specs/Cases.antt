-- When each refusal's case holds, but for those that come of finding what the words lead to. A definition a refusal.
use Rattle.std.specs.Prelude.{ℕ, zero, suc, ◌+◌, ◌^◌, ◌==◌, ◌&&◌, ◌||◌, not, nat_lt, nat_le, Bool, true, false}
use Rattle.std.specs.Prelude.{if◌then◌else◌, List, [], ◌∷◌, codes, count_by, find, length, Option, Some, is_some, option_map}
use Rattle.std.specs.List.{list_any}
use Rattle.std.specs.Option.{option_map_or}
use Rattle.tree_model.specs.Drops.{goes_with, is_last_link}
use Rattle.tree_model.specs.Opens.{all_access, are_compatible, to_delete, to_read, to_write}
use Rattle.tree_model.specs.Subjects.{DirectoryLinkAt, LinkAt, LinkAtAndNew, Located, Machine, NameIn, NewName, NoName, RootPath}
use Rattle.tree_model.specs.Subjects.{StreamAt, Subject, Through, WhatIsAtAndNew, is_directory}
use Rattle.tree_model.specs.Tree.{Tree, are_same, first_name, is_dos, leads_to, links_in}
use Rattle.ntfs_def.specs.ReparsePoint.{is_of_microsoft}
use Rattle.tree_model.specs.declared.command.Command.{Command}
use Rattle.tree_model.specs.declared.command.Command.TheVariants as c
use Rattle.tree_model.specs.declared.opens.Access.{Access}
use Rattle.tree_model.specs.declared.opens.OpenEntry.{OpenEntry}
use Rattle.tree_model.specs.declared.reply.No.{No}
use Rattle.tree_model.specs.declared.reply.No.TheVariants as no
use Rattle.tree_model.specs.declared.tree.Content.{Content}
use Rattle.tree_model.specs.declared.tree.Content.TheVariants.{Packed, Plain}
use Rattle.tree_model.specs.declared.tree.Link.{Link}

-- DosName: the link to drop is a DOS name.
abbrev pub is_dos_link : Option Link → Bool
is_dos_link link = option_map_or is_dos link false

abbrev pub dos_name : Subject → Located → Bool
dos_name (LinkAt path) at = is_dos_link at.link
dos_name (DirectoryLinkAt path) at = is_dos_link at.link
dos_name (LinkAtAndNew old new) at = is_dos_link at.link
dos_name other at = false

-- BadName: of a new name, and of a stream that would be made.
abbrev pub is_among : List ℕ → ℕ → Bool
is_among units unit = list_any (λ other. other == unit) units

abbrev pub ends_in : List ℕ → List ℕ → Bool
ends_in units [] = false
ends_in units (unit ∷ []) = is_among units unit
ends_in units (unit ∷ next ∷ rest) = ends_in units (next ∷ rest)

-- It has more than 255 units, or ends in a dot (as `.` and `..` do) or a space, or has a unit below the space or one of these.
abbrev pub is_bad_unit : ℕ → Bool
is_bad_unit unit = nat_lt unit 0x20 || is_among (codes "\"*/:<>?\\|") unit

abbrev pub is_bad_name : List ℕ → Bool
is_bad_name name = nat_lt 255 (length name) || ends_in (codes ". ") name || list_any is_bad_unit name

abbrev pub is_bad_new : NewName → Bool
is_bad_new (NameIn dir name) = is_bad_name name
is_bad_new other = false

-- of a stream: more than 255 units, or the unit 0 or one of these
abbrev pub is_bad_stream_name : List ℕ → Bool
is_bad_stream_name name = nat_lt 255 (length name) || list_any (λ unit. (unit == 0) || is_among (codes "/:\\") unit) name

-- the commands that make their stream where it is missing
abbrev pub makes_stream : Command → Bool
makes_stream (c.Write path stream at bytes) = true
makes_stream (c.Truncate path stream size) = true
makes_stream other = false

abbrev pub names_badly : Command → Located → Bool
names_badly command at = is_bad_new at.new || (makes_stream command && not (is_some at.content) && is_bad_stream_name at.stream)

-- IsDir: a directory for `rm`, for the old path of `ln`, and for its unnamed stream.
abbrev pub directory_for_file : Subject → Located → Bool
directory_for_file (LinkAt path) at = is_directory at.node
directory_for_file (WhatIsAtAndNew old new) at = is_directory at.node
directory_for_file (StreamAt path name) at = (length name == 0) && is_directory at.node
directory_for_file other at = false

-- NoStream: the stream is not there, and the command does not make it.
abbrev pub no_stream : Command → Subject → Located → Bool
no_stream command (StreamAt path name) at = not (makes_stream command) && not (is_some at.content)
no_stream command (Through handle access) at = not (is_some at.content)
no_stream command other at = false

-- NoReparse: there is no reparse point.
abbrev pub has_point : Located → Bool
has_point at = option_map_or (λ node. is_some node.point) at.node false

abbrev pub no_reparse : Command → Located → Bool
no_reparse (c.Reparse path) at = not (has_point at)
no_reparse (c.Rmreparse path) at = not (has_point at)
no_reparse other at = false

-- Exists: a link of the directory, hidden ones too, has the same name, but for links that the command drops.
abbrev pub stays : Tree → Subject → Option Link → Link → Bool
stays tree (LinkAtAndNew old new) (Some link) other = not (goes_with tree link other)
stays tree subject link other = true

abbrev pub exists : Tree → Subject → Option Link → NewName → Bool
exists tree subject link NoName = false
exists tree subject link RootPath = true
exists tree subject link (NameIn dir name) =
    list_any (λ other. are_same tree.fold other.name name && stays tree subject link other) (links_in tree dir)

-- NotEmpty: the directory has any link, hidden ones too.
abbrev pub has_links : Tree → ℕ → Bool
has_links tree dir = nat_lt 0 (length (links_in tree dir))

abbrev pub not_empty : Tree → Command → Located → Bool
not_empty tree (c.Rmdir path) at = has_links tree at.file
not_empty tree (c.Mkreparse path tag bytes) at = is_directory at.node && has_links tree at.file
not_empty tree other at = false

-- Loop: the new name's directory is the old path's, or lies below it.
abbrev pub parent_of : Tree → ℕ → Option ℕ
parent_of tree file = option_map (λ link. link.parent) (first_name tree.links file)

-- the directory is `above`, or at most so many steps up from it lead there
abbrev pub lies_in : Tree → ℕ → ℕ → ℕ → Bool
lies_in tree zero above dir = dir == above
lies_in tree (suc steps) above dir = (dir == above) || option_map_or (lies_in tree steps above) (parent_of tree dir) false

abbrev pub loops : Tree → Subject → ℕ → NewName → Bool
loops tree (LinkAtAndNew old new) file (NameIn dir name) = lies_in tree (length tree.links) file dir
loops tree subject file new = false

-- Packed: the stream is packed.
abbrev pub is_packed : Content → Bool
is_packed (Plain bytes) = false
is_packed (Packed size) = true

abbrev pub packed : Subject → Located → Bool
packed (StreamAt path name) at = option_map_or is_packed at.content false
packed (Through handle access) at = option_map_or is_packed at.content false
packed other at = false

-- BadTag: bit 31 of the tag is clear.
abbrev pub bad_tag : Command → Bool
bad_tag (c.Mkreparse path tag bytes) = not (is_of_microsoft tag)
bad_tag other = false

-- NoSecurity: the volume has no descriptor of this id.
abbrev pub no_security : (ℕ → Option (List ℕ)) → Command → Bool
no_security descriptor (c.Setsec path id) = not (is_some (descriptor id))
no_security descriptor (c.Sd id) = not (is_some (descriptor id))
no_security descriptor other = false

-- TooBig: an end behind 2^40, more than 32,768 bytes at once, 65,536 of `cat`, 16,376 of a reparse point.
abbrev pub size_of : Content → ℕ
size_of (Plain bytes) = length bytes
size_of (Packed size) = size

abbrev pub is_far : ℕ → Bool
is_far end = nat_lt (2 ^ 40) end

abbrev pub is_wide : ℕ → ℕ → Bool
is_wide at len = is_far (at + len) || nat_lt 32768 len

abbrev pub too_big : Command → Located → Bool
too_big (c.Cat path stream) at = nat_lt 65536 (option_map_or size_of at.content 0)
too_big (c.Read path stream from len) at = is_wide from len
too_big (c.Write path stream from bytes) at = is_wide from (length bytes)
too_big (c.Truncate path stream size) at = is_far size
too_big (c.Punch path stream from len) at = is_wide from len
too_big (c.Mkreparse path tag bytes) at = nat_lt 16376 (length bytes)
too_big (c.Hread handle from len) at = is_wide from len
too_big (c.Hwrite handle from bytes) at = is_wide from (length bytes)
too_big other at = false

-- TooManyLinks: the file that gets a name has 1,023 already, DOS names too.
abbrev pub too_many_links : Tree → Subject → ℕ → Bool
too_many_links tree (WhatIsAtAndNew old new) file = nat_le 1023 (count_by (leads_to file) tree.links)
too_many_links tree other file = false

-- TooManyHandles: the session has 64.
abbrev pub too_many_handles : List OpenEntry → ℕ → Command → Bool
too_many_handles opens session (c.Open path stream access share) = nat_le 64 (count_by (λ entry. entry.session == session) opens)
too_many_handles opens session other = false

-- Shared: an open of the file that is kept conflicts with what the command asks for. The least is told.
pub data Asks : Type 0 where
  AsksNothing : Asks
  -- this access, and sharing so
  AsksFor : Access → Access → Asks
  -- the file for itself
  AsksAlone : Asks

abbrev pub asks_of : Tree → Command → Located → Asks
asks_of tree (c.Cat path stream) at = AsksFor to_read all_access
asks_of tree (c.Read path stream from len) at = AsksFor to_read all_access
asks_of tree (c.Write path stream from bytes) at = AsksFor to_write all_access
asks_of tree (c.Truncate path stream size) at = AsksFor to_write all_access
asks_of tree (c.Punch path stream from len) at = AsksFor to_write all_access
asks_of tree (c.Rmstream path name) at = AsksFor to_write all_access
asks_of tree (c.Rm path) at = if is_last_link tree at.link then AsksAlone else AsksFor to_delete all_access
asks_of tree (c.Rmdir path) at = AsksAlone
asks_of tree (c.Mv old new) at = AsksFor to_delete all_access
asks_of tree (c.Open path stream access share) at = AsksFor access share
asks_of tree other at = AsksNothing

abbrev pub conflicts : Asks → ℕ → OpenEntry → Bool
conflicts AsksNothing file entry = false
conflicts (AsksFor access share) file entry = (entry.file == file) && not (are_compatible access share entry.access entry.share)
conflicts AsksAlone file entry = entry.file == file

abbrev pub shared : Machine → Command → Located → Option No
shared m command at =
    option_map (λ entry. no.Shared entry.session entry.handle) (find (conflicts (asks_of m.tree command at) at.file) m.opens)
