-- What a command that reads shows of the file that its path leads to, by its parts, so that each can be proved alone; that it is
-- what is due, in the order of refusals, a law says (`LookLaws`).
use Rattle.std.specs.Prelude.{◌≡◌, ◌⊎◌, ℕ, ◌&&◌, List, Option, Some, None, Result, Ok, Err, option_and_then}
use Rattle.std.specs.Prelude.{option_map, if◌then◌else◌, ◌==◌, find, length, nat_lt, not}
use Rattle.std.specs.Option.{option_map_or}
use Rattle.tree_model.specs.Answers.{listing, node_answer, point_answer, range_of, shown_links}
use Rattle.tree_model.specs.Cases.{is_wide}
use Rattle.tree_model.specs.Paths.{and_then, found_file, resolve}
use Rattle.tree_model.specs.Subjects.{content_named, is_directory}
use Rattle.tree_model.specs.Tree.{Tree, node_of}
use Rattle.tree_model.specs.declared.command.Command.{Command}
use Rattle.tree_model.specs.declared.opens.OpenEntry.{OpenEntry}
use Rattle.tree_model.specs.declared.reply.Answer.{Answer}
use Rattle.tree_model.specs.declared.reply.Answer.TheVariants as a
use Rattle.tree_model.specs.declared.reply.No.{No}
use Rattle.tree_model.specs.declared.reply.No.TheVariants as no
use Rattle.tree_model.specs.declared.tree.Content.{Content}
use Rattle.tree_model.specs.declared.tree.Content.TheVariants.{Packed, Plain}
use Rattle.tree_model.specs.declared.tree.Node.{Node}
use Rattle.tree_model.specs.declared.tree.Point.{Point}

-- What is wanted is told, unless memory runs out.
abbrev pub Tells : {A : Type 0} → Result A No → Result A No → Type 0
Tells want (Ok x) = want ≡ Ok x
Tells want (Err refused) = (want ≡ Err refused) ⊎ (refused ≡ no.Memory)

-- the file that a path leads to, and its node
abbrev pub file_at : Tree → List (List ℕ) → Result (ℕ × Option Node) No
file_at tree path = and_then (resolve tree path) (λ at. Ok (found_file at, node_of tree (found_file at)))

-- What is shown of a file is what the node tells ..
abbrev pub looked : Tree → Command → (ℕ × Option Node) → Result Answer No
looked tree command file = Ok (option_map_or (node_answer tree command file.0) file.1 a.Done)

-- .. its reparse point ..
abbrev pub point_shown : Option Point → Result Answer No
point_shown None = Err no.NoReparse
point_shown (Some point) = Ok (point_answer point)

abbrev pub reparse_of : (ℕ × Option Node) → Result Answer No
reparse_of file = point_shown (option_and_then (λ node. node.point) file.1)

-- .. and a stream of it that is not packed, whole or in part.
abbrev pub plain_bytes : Option Content → Result (List ℕ) No
plain_bytes None = Err no.NoStream
plain_bytes (Some (Packed size)) = Err no.Packed
plain_bytes (Some (Plain bytes)) = Ok bytes

abbrev pub stream_of : Tree → List ℕ → Option Node → Result (List ℕ) No
stream_of tree name node =
    if (length name == 0) && is_directory node then Err no.IsDir else plain_bytes (content_named tree name node)

-- It is not shown where an open of the file does not share reading.
abbrev pub kept_apart : List OpenEntry → ℕ → Option No
kept_apart opens file =
    option_map (λ entry. no.Shared entry.session entry.handle) (find (λ entry. (entry.file == file) && not entry.share.r) opens)

abbrev pub unless_apart : List OpenEntry → ℕ → List ℕ → Result Answer No
unless_apart opens file bytes = option_map_or Err (kept_apart opens file) (Ok (a.Data bytes))

abbrev pub cat_of : Tree → List OpenEntry → List ℕ → (ℕ × Option Node) → Result Answer No
cat_of tree opens name file =
    and_then (stream_of tree name file.1)
    (λ bytes. if nat_lt 65536 (length bytes) then Err no.TooBig else unless_apart opens file.0 bytes)

abbrev pub read_of : Tree → List OpenEntry → List ℕ → ℕ → ℕ → (ℕ × Option Node) → Result Answer No
read_of tree opens name from len file =
    and_then (stream_of tree name file.1)
    (λ bytes. if is_wide from len then Err no.TooBig else unless_apart opens file.0 (range_of from len bytes))

-- What is shown of a directory ..
abbrev pub ls_of : Tree → (ℕ × Option Node) → Result Answer No
ls_of tree file = if is_directory file.1 then Ok (a.List (listing tree file.0)) else Err no.NotDir

-- .. and of the names of a file.
abbrev pub links_of : Tree → (ℕ × Option Node) → Result Answer No
links_of tree file = Ok (a.Links (shown_links tree file.0))
