-- What a command that nothing refuses shows before `ok`.
use Rattle.std.specs.Prelude.{ℕ, zero, suc, ◌==◌, ◌&&◌, Bool, List, [], ◌∷◌, ◌++◌, codes, count_by, drop, filter, find, flat_map}
use Rattle.std.specs.Prelude.{length, map, take}
use Rattle.std.specs.Prelude.{Option, Some, None, option_map, slice_index, unwrap_or, if◌then◌else◌}
use Rattle.std.specs.List.{filter_map}
use Rattle.std.specs.Option.{option_map_or}
use Rattle.std.specs.Ordering.{is_gt}
use Rattle.vol_bytes.specs.NameText.{name_text}
use Rattle.ntfs_def.specs.KeyOrder.{by_numbers}
use Rattle.ntfs_def.specs.declared.kinds.TheConstants.{OBJECT_ID}
use Rattle.ntfs_def.specs.declared.records.TheConstants.{ROOT}
use Rattle.tree_model.specs.Cases.{is_packed, size_of}
use Rattle.tree_model.specs.Opens.{free_handle}
use Rattle.list_laws.specs.Ordered.{in_order}
use Rattle.tree_model.specs.Paths.{links_in_order}
use Rattle.tree_model.specs.Refusals.{Facts}
use Rattle.tree_model.specs.Subjects.{Located, Machine, content_named}
use Rattle.tree_model.specs.Tree.{Tree, first_name, is_dos, leads_to, names_file, shown_node}
use Rattle.tree_model.specs.declared.command.Command.{Command}
use Rattle.tree_model.specs.declared.command.Command.TheVariants as c
use Rattle.tree_model.specs.declared.reply.Answer.{Answer}
use Rattle.tree_model.specs.declared.reply.Answer.TheVariants as a
use Rattle.tree_model.specs.declared.reply.Listed.{Listed}
use Rattle.tree_model.specs.declared.reply.ShownLink.{ShownLink}
use Rattle.tree_model.specs.declared.reply.ShownStream.{ShownStream}
use Rattle.tree_model.specs.declared.tree.Content.{Content}
use Rattle.tree_model.specs.declared.tree.Content.TheVariants.{Packed, Plain}
use Rattle.tree_model.specs.declared.tree.Link.{Link}
use Rattle.tree_model.specs.declared.tree.Node.{Node}
use Rattle.tree_model.specs.declared.tree.Point.{Point}
use Rattle.tree_model.specs.declared.tree.RawAttr.{RawAttr}
use Rattle.tree_model.specs.declared.tree.Stream.{Stream}

-- ls: the links of a directory, in name order, that are neither hidden nor DOS names.
abbrev pub listed_node : List ℕ → Node → Listed
listed_node name node = record { dir = node.dir; name = name }

abbrev pub ls_line : Tree → Link → Option Listed
ls_line tree link = if is_dos link then None else option_map (listed_node link.name) (shown_node tree link)

unfoldable pub listing : Tree → ℕ → List Listed
listing tree dir = filter_map (ls_line tree) (links_in_order tree dir)

-- stat: how many names a file has that are no DOS names, the size of its unnamed stream, and what its node says.
abbrev pub shown_link_count : Tree → ℕ → ℕ
shown_link_count tree file = count_by (names_file file) tree.links

abbrev pub stat_of : Tree → ℕ → Node → Answer
stat_of tree file node =
    a.Stat node.dir (shown_link_count tree file) (option_map_or size_of (content_named tree [] (Some node)) 0) node.flags node.security
    (slice_index node.times 0) (slice_index node.times 1) (slice_index node.times 2) (slice_index node.times 3)

-- links: each link that is not hidden, by the path that leads to it. A directory on the way goes by its name that is no DOS
-- name.
abbrev pub path_through : (ℕ → List (List ℕ)) → Option Link → List (List ℕ)
path_through path_of None = []
path_through path_of (Some link) = path_of link.parent ++ link.name ∷ []

-- the path to a directory of at most so many names
abbrev pub path_to : Tree → ℕ → ℕ → List (List ℕ)
path_to tree zero dir = []
path_to tree (suc steps) dir =
    if dir == ROOT then [] else path_through (path_to tree steps) (first_name tree.links dir)

abbrev pub path_text : List (List ℕ) → List ℕ
path_text path = flat_map (λ name. codes "/" ++ name_text name) path

abbrev pub shown_link : Tree → Link → ShownLink
shown_link tree link = record { space = link.space; path = path_to tree (length tree.links) link.parent ++ link.name ∷ [] }

-- in byte order of the paths' texts
abbrev pub path_above : ShownLink → ShownLink → Bool
path_above x y = is_gt (by_numbers (path_text x.path) (path_text y.path))

unfoldable pub shown_links : Tree → ℕ → List ShownLink
shown_links tree file = in_order path_above (map (shown_link tree) (filter (leads_to file) tree.links))

-- cat, read and hread: the bytes of a stream, and those of a range that lie below its size.
abbrev pub bytes_of : Content → List ℕ
bytes_of (Plain bytes) = bytes
bytes_of (Packed size) = []

abbrev pub bytes_at : Located → List ℕ
bytes_at at = option_map_or bytes_of at.content []

abbrev pub range_of : ℕ → ℕ → List ℕ → List ℕ
range_of from len bytes = take len (drop from bytes)

-- streams: in name order, so that the unnamed one comes first.
abbrev pub shown_stream : Stream → ShownStream
shown_stream stream = record { packed = is_packed stream.content; size = size_of stream.content; name = stream.name }

-- objid: the first 16 bytes of the unnamed $OBJECT_ID.
abbrev pub is_unnamed_object_id : RawAttr → Bool
is_unnamed_object_id attribute = (attribute.kind == OBJECT_ID) && (length attribute.name == 0)

abbrev pub object_id : Node → List ℕ
object_id node = take 16 (option_map_or (λ attribute. bytes_of attribute.value) (find is_unnamed_object_id node.others) [])

-- reparse: the tag of the point, and its data.
abbrev pub point_answer : Point → Answer
point_answer point = a.Reparse point.tag point.bytes

-- what a command shows of a file
abbrev pub node_answer : Tree → Command → ℕ → Node → Answer
node_answer tree (c.Stat path) file node = stat_of tree file node
node_answer tree (c.Streams path) file node = a.Streams (map shown_stream node.streams)
node_answer tree (c.Attr path) file node = a.Attr node.flags
node_answer tree (c.Sec path) file node = a.Sec node.security
node_answer tree (c.Reparse path) file node = option_map_or point_answer node.point a.Done
node_answer tree (c.Objid path) file node = a.ObjectId (object_id node)
node_answer tree other file node = a.Done

-- The lines before `ok`.
unfoldable pub answer_of : Facts → Machine → ℕ → Command → Located → Answer
answer_of facts m session (c.Ls path) at = a.List (listing m.tree at.file)
answer_of facts m session (c.Links path) at = a.Links (shown_links m.tree at.file)
answer_of facts m session (c.Cat path stream) at = a.Data (bytes_at at)
answer_of facts m session (c.Read path stream from len) at = a.Data (range_of from len (bytes_at at))
answer_of facts m session (c.Hread handle from len) at = a.Data (range_of from len (bytes_at at))
answer_of facts m session (c.Sd id) at = a.Sd (unwrap_or (facts.descriptor id) [])
answer_of facts m session c.Df at = a.Df facts.clusters facts.free facts.records facts.free_records
answer_of facts m session (c.Open path stream access share) at = a.Handle (free_handle m.opens session)
answer_of facts m session command at = option_map_or (node_answer m.tree command at.file) at.node a.Done
