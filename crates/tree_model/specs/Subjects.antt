-- What the words of a command name: a handle, paths, a stream; and what these lead to.
use Rattle.std.specs.Prelude.{ℕ, ◌&&◌, Bool, false, List, [], find, Option, Some, None, Result, Ok, Err, is_some, if◌then◌else◌}
use Rattle.std.specs.Prelude.{option_and_then, option_map, unwrap_or}
use Rattle.std.specs.Option.{option_map_or}
use Rattle.tree_model.specs.Opens.{contains, is_handle, to_read, to_write}
use Rattle.tree_model.specs.Paths.{Place, and_then, found_file, found_link, resolve, resolve_new}
use Rattle.tree_model.specs.Tree.{Tree, node_of, sought_stream}
use Rattle.tree_model.specs.declared.command.Command.{Command}
use Rattle.tree_model.specs.declared.command.Command.TheVariants as c
use Rattle.tree_model.specs.declared.opens.Access.{Access}
use Rattle.tree_model.specs.declared.opens.OpenEntry.{OpenEntry}
use Rattle.tree_model.specs.declared.reply.No.{No}
use Rattle.tree_model.specs.declared.reply.No.TheVariants as no
use Rattle.tree_model.specs.declared.tree.Content.{Content}
use Rattle.tree_model.specs.declared.tree.Found.{Found}
use Rattle.tree_model.specs.declared.tree.Link.{Link}
use Rattle.tree_model.specs.declared.tree.Node.{Node}

-- A state of the machine: the tree, the opens by session and handle, and the moment that edits write.
pub record Machine : Type 0 where
  pub tree : Tree
  pub opens : List OpenEntry
  pub now : ℕ

-- What the words of a command name.
pub data Subject : Type 0 where
  NoPath : Subject
  -- what a path leads to; a directory; the link that leads to it; such a link to a directory
  WhatIsAt : List (List ℕ) → Subject
  DirectoryAt : List (List ℕ) → Subject
  LinkAt : List (List ℕ) → Subject
  DirectoryLinkAt : List (List ℕ) → Subject
  -- a stream, by its name, of what a path leads to
  StreamAt : List (List ℕ) → List ℕ → Subject
  -- a new name
  NewAt : List (List ℕ) → Subject
  -- what a path leads to, and a new name for it
  WhatIsAtAndNew : List (List ℕ) → List (List ℕ) → Subject
  -- the link that leads there, and a new name in its place
  LinkAtAndNew : List (List ℕ) → List (List ℕ) → Subject
  -- an open of the session, by its handle
  Opened : ℕ → Subject
  -- the stream of such an open that has this access
  Through : ℕ → Access → Subject

-- the unnamed stream has the empty name
abbrev pub stream_name : Option (List ℕ) → List ℕ
stream_name name = unwrap_or name []

abbrev pub subject_of : Command → Subject
subject_of (c.Time now) = NoPath
subject_of (c.Ls path) = DirectoryAt path
subject_of (c.Stat path) = WhatIsAt path
subject_of (c.Links path) = WhatIsAt path
subject_of (c.Cat path stream) = StreamAt path (stream_name stream)
subject_of (c.Read path stream at len) = StreamAt path (stream_name stream)
subject_of (c.Create path) = NewAt path
subject_of (c.Mkdir path) = NewAt path
subject_of (c.Rm path) = LinkAt path
subject_of (c.Rmdir path) = DirectoryLinkAt path
subject_of (c.Ln old new) = WhatIsAtAndNew old new
subject_of (c.Mv old new) = LinkAtAndNew old new
subject_of (c.Write path stream at bytes) = StreamAt path (stream_name stream)
subject_of (c.Truncate path stream size) = StreamAt path (stream_name stream)
subject_of (c.Punch path stream at len) = StreamAt path (stream_name stream)
subject_of (c.Streams path) = WhatIsAt path
subject_of (c.Rmstream path name) = StreamAt path name
subject_of (c.Attr path) = WhatIsAt path
subject_of (c.Setattr path flags) = WhatIsAt path
subject_of (c.Sec path) = WhatIsAt path
subject_of (c.Setsec path id) = WhatIsAt path
subject_of (c.Sd id) = NoPath
subject_of (c.Reparse path) = WhatIsAt path
subject_of (c.Mkreparse path tag bytes) = WhatIsAt path
subject_of (c.Rmreparse path) = WhatIsAt path
subject_of (c.Objid path) = WhatIsAt path
subject_of c.Df = NoPath
subject_of (c.Open path stream access share) = StreamAt path (stream_name stream)
subject_of (c.Hread handle at len) = Through handle to_read
subject_of (c.Hwrite handle at bytes) = Through handle to_write
subject_of (c.Close handle) = Opened handle

-- Where a new name would stand.
pub data NewName : Type 0 where
  -- the command names nothing new
  NoName : NewName
  -- the path `/`, which is there already
  RootPath : NewName
  NameIn : ℕ → List ℕ → NewName

-- What the words of a command lead to. What the command does not name is empty.
pub record Located : Type 0 where
  -- the link at which the first path ends
  pub link : Option Link
  -- the file by its number, and its node
  pub file : ℕ
  pub node : Option Node
  -- the name of a stream, and what that stream holds, where it is there
  pub stream : List ℕ
  pub content : Option Content
  pub new : NewName

abbrev pub nothing : Located
nothing = record { link = None; file = 0; node = None; stream = []; content = None; new = NoName }

-- a file, and what leads to it
abbrev pub at_file : Tree → Option Link → ℕ → Located
at_file tree link file = record nothing { link = link; file = file; node = node_of tree file }

abbrev pub at_found : Tree → Found → Located
at_found tree found = at_file tree (found_link found) (found_file found)

-- with a stream of the file
abbrev pub content_named : Tree → List ℕ → Option Node → Option Content
content_named tree name node =
    option_map (λ stream. stream.content) (option_and_then (λ node. sought_stream tree.fold node.streams name) node)

abbrev pub with_stream : Tree → List ℕ → Located → Located
with_stream tree name at = record at { stream = name; content = content_named tree name at.node }

-- a directory is there
abbrev pub is_directory : Option Node → Bool
is_directory node = option_map_or (λ node. node.dir) node false

abbrev pub as_directory : Located → Result Located No
as_directory at = if is_directory at.node then Ok at else Err no.NotDir

-- the root has no link that is shown
abbrev pub as_link : Located → Result Located No
as_link at = if is_some at.link then Ok at else Err no.Hidden

abbrev pub locate_path : Tree → List (List ℕ) → Result Located No
locate_path tree path = and_then (resolve tree path) (λ found. Ok (at_found tree found))

abbrev pub new_name : Option Place → NewName
new_name None = RootPath
new_name (Some place) = NameIn place.directory place.name

abbrev pub with_new : Tree → List (List ℕ) → Located → Result Located No
with_new tree path at = and_then (resolve_new tree path) (λ place. Ok (record at { new = new_name place }))

-- the stream that an open leads to
abbrev pub at_open : Tree → Option OpenEntry → Result Located No
at_open tree None = Err no.NoHandle
at_open tree (Some entry) = Ok (with_stream tree entry.stream (at_file tree None entry.file))

-- What the words of a command of this session lead to, or the first of the refusals that come of finding it: of the handle,
-- and of walking the first path, and then the second.
unfoldable pub locate : Machine → ℕ → Subject → Result Located No
locate m session NoPath = Ok nothing
locate m session (WhatIsAt path) = locate_path m.tree path
locate m session (DirectoryAt path) = and_then (locate_path m.tree path) as_directory
locate m session (LinkAt path) = and_then (locate_path m.tree path) as_link
locate m session (DirectoryLinkAt path) = and_then (and_then (locate_path m.tree path) as_link) as_directory
locate m session (StreamAt path name) = and_then (locate_path m.tree path) (λ at. Ok (with_stream m.tree name at))
locate m session (NewAt path) = with_new m.tree path nothing
locate m session (WhatIsAtAndNew old new) = and_then (locate_path m.tree old) (with_new m.tree new)
locate m session (LinkAtAndNew old new) = and_then (and_then (locate_path m.tree old) as_link) (with_new m.tree new)
locate m session (Opened handle) =
    and_then (at_open m.tree (find (is_handle session handle) m.opens)) (λ at. Ok nothing)
locate m session (Through handle asked) =
    at_open m.tree (find (λ entry. is_handle session handle entry && contains entry.access asked) m.opens)
