-- What a command that is done makes of the machine.
use Rattle.std.specs.Prelude.{ℕ, not, Bool, true, false, List, [], ◌∷◌, filter, Option, Some, None, if◌then◌else◌}
use Rattle.std.specs.Prelude.{slice_set}
use Rattle.std.specs.FinMap as finmap
use Rattle.std.specs.Option.{option_map_or}
use Rattle.tree_model.specs.Answers.{bytes_at}
use Rattle.tree_model.specs.Drops.{goes_with, is_last_name}
use Rattle.tree_model.specs.Opens.{free_handle, is_handle, open_above}
use Rattle.list_laws.specs.Ordered.{put_in_order}
use Rattle.tree_model.specs.Streams.{punched, resized, with_bytes, without_stream, written}
use Rattle.tree_model.specs.Subjects.{Located, Machine, NameIn, NewName, NoName, RootPath}
use Rattle.tree_model.specs.Tree.{Tree, link_above, node_of}
use Rattle.tree_model.specs.declared.command.Command.{Command}
use Rattle.tree_model.specs.declared.command.Command.TheVariants as c
use Rattle.tree_model.specs.declared.opens.Access.{Access}
use Rattle.tree_model.specs.declared.opens.OpenEntry.{OpenEntry}
use Rattle.tree_model.specs.declared.tree.Content.TheVariants.{Plain}
use Rattle.tree_model.specs.declared.tree.Link.{Link}
use Rattle.tree_model.specs.declared.tree.Node.{Node}
use Rattle.tree_model.specs.declared.tree.Point.{Point}
use Rattle.tree_model.specs.declared.tree.Stream.{Stream}

-- one file changed, where it is there
abbrev pub changed_node : Tree → ℕ → (Node → Node) → Option Node → Tree
changed_node tree file change None = tree
changed_node tree file change (Some node) = record tree { nodes = finmap.insert tree.nodes file (change node) }

abbrev pub changed : ℕ → (Node → Node) → Tree → Tree
changed file change tree = changed_node tree file change (node_of tree file)

-- Times of a file: 0 creation, 1 modification, 2 record change, 3 access.
abbrev pub stamped : ℕ → Node → Node
stamped now node = record node { times = slice_set node.times 2 now }

abbrev pub touched : ℕ → Node → Node
touched now node = record node { times = slice_set (slice_set node.times 1 now) 2 now }

-- the times after its record was changed, and after its contents were too
abbrev pub stamp : ℕ → ℕ → Tree → Tree
stamp now file tree = changed file (stamped now) tree

abbrev pub touch : ℕ → ℕ → Tree → Tree
touch now file tree = changed file (touched now) tree

-- Names. A new one is of namespace 0.
abbrev pub link_to : ℕ → ℕ → List ℕ → Link
link_to file dir name = record { parent = dir; name = name; space = 0; child = file }

abbrev pub add_link : Link → Tree → Tree
add_link link tree = record tree { links = put_in_order (link_above tree.fold) link tree.links }

abbrev pub drop_link : Link → Tree → Tree
drop_link link tree = record tree { links = filter (λ other. not (goes_with tree link other)) tree.links }

-- the file gets a name
abbrev pub add_name : ℕ → ℕ → NewName → Tree → Tree
add_name now file NoName tree = tree
add_name now file RootPath tree = tree
add_name now file (NameIn dir name) tree = touch now dir (stamp now file (add_link (link_to file dir name) tree))

-- a link goes, and the file with the last one that is no DOS name
abbrev pub leave_file : ℕ → Link → Tree → Tree
leave_file now link tree =
    if is_last_name tree link then record (drop_link link tree) { nodes = finmap.remove tree.nodes link.child }
    else stamp now link.child (drop_link link tree)

abbrev pub drop_name : ℕ → Option Link → Tree → Tree
drop_name now None tree = tree
drop_name now (Some link) tree = touch now link.parent (leave_file now link tree)

-- a link goes whose file will get another
abbrev pub move_name : ℕ → Option Link → Tree → Tree
move_name now None tree = tree
move_name now (Some link) tree = touch now link.parent (drop_link link tree)

-- New files: with the security id of their directory; a plain file has the flag 0x20 and an empty unnamed stream.
abbrev pub empty_stream : Stream
empty_stream = record { name = []; content = Plain [] }

abbrev pub new_node : Bool → ℕ → ℕ → Node
new_node dir now security = record {
  dir = dir;
  times = now ∷ now ∷ now ∷ now ∷ [];
  flags = if dir then 0 else 0x20;
  security = security;
  streams = if dir then [] else empty_stream ∷ [];
  point = None;
  others = [];
}

abbrev pub security_of : Tree → ℕ → ℕ
security_of tree dir = option_map_or (λ node. node.security) (node_of tree dir) 0

abbrev pub make : Bool → ℕ → ℕ → NewName → Tree → Tree
make dir now file NoName tree = tree
make dir now file RootPath tree = tree
make dir now file (NameIn parent name) tree =
    touch now parent (add_link (link_to file parent name)
    (record tree { nodes = finmap.insert tree.nodes file (new_node dir now (security_of tree parent)) }))

-- a stream of the file has these bytes
abbrev pub put_stream : ℕ → Located → List ℕ → Tree → Tree
put_stream now at bytes tree = changed at.file (λ node. touched now (with_bytes tree.fold at.stream bytes node)) tree

abbrev pub drop_stream : ℕ → Located → Tree → Tree
drop_stream now at tree = changed at.file (λ node. touched now (without_stream tree.fold at.stream node)) tree

abbrev pub put_point : ℕ → ℕ → Option Point → Tree → Tree
put_point now file point tree = changed file (λ node. stamped now (record node { point = point })) tree

-- The tree after a command. `file` is the number of the file that it makes, where it makes one.
unfoldable pub tree_after : Machine → Command → Located → ℕ → Tree
tree_after m (c.Create path) at file = make false m.now file at.new m.tree
tree_after m (c.Mkdir path) at file = make true m.now file at.new m.tree
tree_after m (c.Rm path) at file = drop_name m.now at.link m.tree
tree_after m (c.Rmdir path) at file = drop_name m.now at.link m.tree
tree_after m (c.Ln old new) at file = add_name m.now at.file at.new m.tree
tree_after m (c.Mv old new) at file = add_name m.now at.file at.new (move_name m.now at.link m.tree)
tree_after m (c.Write path stream from bytes) at file = put_stream m.now at (written from bytes (bytes_at at)) m.tree
tree_after m (c.Hwrite handle from bytes) at file = put_stream m.now at (written from bytes (bytes_at at)) m.tree
tree_after m (c.Truncate path stream size) at file = put_stream m.now at (resized size (bytes_at at)) m.tree
tree_after m (c.Punch path stream from len) at file = put_stream m.now at (punched from len (bytes_at at)) m.tree
tree_after m (c.Rmstream path name) at file = drop_stream m.now at m.tree
tree_after m (c.Setattr path flags) at file = changed at.file (λ node. stamped m.now (record node { flags = flags })) m.tree
tree_after m (c.Setsec path id) at file = changed at.file (λ node. stamped m.now (record node { security = id })) m.tree
tree_after m (c.Mkreparse path tag bytes) at file = put_point m.now at.file (Some (record { tag = tag; bytes = bytes })) m.tree
tree_after m (c.Rmreparse path) at file = put_point m.now at.file None m.tree
tree_after m other at file = m.tree

-- an open of the session with its least free handle
abbrev pub new_open : Machine → ℕ → Located → Access → Access → OpenEntry
new_open m session at access share = record {
  session = session;
  handle = free_handle m.opens session;
  file = at.file;
  stream = at.stream;
  access = access;
  share = share;
}

unfoldable pub opens_after : Machine → ℕ → Command → Located → List OpenEntry
opens_after m session (c.Open path stream access share) at = put_in_order open_above (new_open m session at access share) m.opens
opens_after m session (c.Close handle) at = filter (λ entry. not (is_handle session handle entry)) m.opens
opens_after m session other at = m.opens

abbrev pub now_after : Machine → Command → ℕ
now_after m (c.Time now) = now
now_after m other = m.now

-- The machine after a command of a session.
abbrev pub after : Machine → ℕ → Command → Located → ℕ → Machine
after m session command at file = record {
  tree = tree_after m command at file;
  opens = opens_after m session command at;
  now = now_after m command;
}

-- the commands that make a file
abbrev pub makes_file : Command → Bool
makes_file (c.Create path) = true
makes_file (c.Mkdir path) = true
makes_file other = false
