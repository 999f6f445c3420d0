-- What is done to one stream of one file, whichever session does it: what the stream holds is a fold over it.
use Rattle.std.specs.Prelude.{ℕ, ◌==◌, ◌&&◌, Bool, true, false, List, [], ◌∷◌, find, Option, Some, None, Ok, Err, is_some, if◌then◌else◌}
use Rattle.std.specs.Prelude.{option_and_then, option_map}
use Rattle.std.specs.Option.{option_map_or}
use Rattle.std.specs.Str.{bytes_eq}
use Rattle.tree_model.specs.Answers.{bytes_of}
use Rattle.tree_model.specs.Drops.{is_last_name}
use Rattle.tree_model.specs.Refusals.{Facts}
use Rattle.session_def.specs.Session.{Said, Session, Steps, Turn}
use Rattle.session_def.specs.State.{State}
use Rattle.tree_model.specs.Step.{Leads}
use Rattle.tree_model.specs.Streams.{punched, resized, written}
use Rattle.tree_model.specs.Subjects.{Located, Machine, NameIn, NewName}
use Rattle.tree_model.specs.Tree.{Tree, node_of, sought_stream}
use Rattle.tree_model.specs.declared.command.Command.{Command}
use Rattle.tree_model.specs.declared.command.Command.TheVariants as c
use Rattle.tree_model.specs.declared.reply.Reply.{Reply}
use Rattle.tree_model.specs.declared.reply.Reply.TheVariants as reply
use Rattle.tree_model.specs.declared.tree.Content.{Content}
use Rattle.tree_model.specs.declared.tree.Content.TheVariants.{Plain}
use Rattle.tree_model.specs.declared.tree.Link.{Link}
use Rattle.tree_model.specs.declared.tree.Node.{Node}
use Rattle.tree_model.specs.declared.tree.Stream.{Stream}

pub data Change : Type 0 where
  -- bytes from a place on; another size; zeros in a range
  Writes : ℕ → List ℕ → Change
  Resizes : ℕ → Change
  Punches : ℕ → ℕ → Change
  -- made empty, with its file; gone, alone or with its file
  Makes : Change
  Drops : Change

abbrev pub bytes_in : Option Content → List ℕ
bytes_in content = option_map_or bytes_of content []

abbrev pub changed_by : Change → Option Content → Option Content
changed_by (Writes from bytes) old = Some (Plain (written from bytes (bytes_in old)))
changed_by (Resizes size) old = Some (Plain (resized size (bytes_in old)))
changed_by (Punches from len) old = Some (Plain (punched from len (bytes_in old)))
changed_by Makes old = Some (Plain [])
changed_by Drops old = None

abbrev pub applied : Option Change → Option Content → Option Content
applied None old = old
applied (Some change) old = changed_by change old

-- one change after another
abbrev pub folded : List Change → Option Content → Option Content
folded [] old = old
folded (change ∷ changes) old = folded changes (changed_by change old)

-- what the stream of exactly this name holds, where it is there
abbrev pub has_name : List ℕ → Stream → Bool
has_name name stream = bytes_eq stream.name name

abbrev pub content_at : List Stream → List ℕ → Option Content
content_at streams name = option_map (λ (stream : Stream). stream.content) (find (has_name name) streams)

abbrev pub content_in : Option Node → List ℕ → Option Content
content_in node name = option_and_then (λ (node : Node). content_at node.streams name) node

abbrev pub stream_at : Tree → ℕ → List ℕ → Option Content
stream_at tree file name = content_in (node_of tree file) name

-- The name of the stream that the words lead to, in its own spelling; the words' where there is none.
abbrev pub spelt : (ℕ → ℕ) → List Stream → List ℕ → List ℕ
spelt fold streams name = option_map_or (λ (stream : Stream). stream.name) (sought_stream fold streams name) name

abbrev pub own_name : Tree → Located → List ℕ
own_name tree at = option_map_or (λ (node : Node). spelt tree.fold node.streams at.stream) (node_of tree at.file) at.stream

-- the words lead to this stream
abbrev pub is_on : Tree → Located → ℕ → List ℕ → Bool
is_on tree at file name = (file == at.file) && is_some (node_of tree file) && bytes_eq (own_name tree at) name

abbrev pub on : Bool → Change → Option Change
on test change = if test then Some change else None

abbrev pub takes_file : Tree → Option Link → ℕ → Bool
takes_file tree link file = option_map_or (λ (link : Link). is_last_name tree link && (file == link.child)) link false

abbrev pub is_new : NewName → Bool
is_new (NameIn dir name) = true
is_new other = false

-- What a command that was done changes of the stream of this name of the file. `made` is the number of a file that it makes.
abbrev pub change_of : Machine → Command → Located → ℕ → ℕ → List ℕ → Option Change
change_of m (c.Write path stream from bytes) at made file name = on (is_on m.tree at file name) (Writes from bytes)
change_of m (c.Hwrite handle from bytes) at made file name = on (is_on m.tree at file name) (Writes from bytes)
change_of m (c.Truncate path stream size) at made file name = on (is_on m.tree at file name) (Resizes size)
change_of m (c.Punch path stream from len) at made file name = on (is_on m.tree at file name) (Punches from len)
change_of m (c.Rmstream path stream) at made file name = on (is_on m.tree at file name) Drops
change_of m (c.Rm path) at made file name = on (takes_file m.tree at.link file) Drops
change_of m (c.Rmdir path) at made file name = on (takes_file m.tree at.link file) Drops
change_of m (c.Create path) at made file name = on (is_new at.new && (file == made) && bytes_eq [] name) Makes
change_of m other at made file name = None

-- The changes of a stream in a run, line after line.
abbrev pub listed : Option Change → List Change → List Change
listed None changes = changes
listed (Some change) changes = change ∷ changes

abbrev pub change_led : (facts : Facts) (m : Machine) (session : ℕ) (command : Command) (given : Reply) (next : Machine)
    → Leads facts m session command given next → ℕ → List ℕ → Option Change
change_led facts m session command (reply.Ok answer) next moves file name = change_of m command moves.at moves.file file name
change_led facts m session command (reply.No refused) next same file name = None
change_led facts m session command reply.Device next never file name = None

abbrev pub change_said : (facts : Facts) (m : Machine) (said : Said) (given : Reply) (next : Machine) → Steps facts m said given next
    → ℕ → List ℕ → Option Change
change_said facts m (Ok said) given next step file name = change_led facts m said.0 said.1 given next step.moved file name
change_said facts m (Err fault) given next step file name = None

abbrev pub changes_in : (Says : List ℕ → Said → Type 0) (before : State) (turns : List Turn) → Session Says before turns → ℕ → List ℕ
    → List Change
changes_in Says before [] run file name = []
changes_in Says before (turn ∷ turns) run file name =
    listed (change_said run.0.1.facts before.machine turn.said turn.answer turn.next.machine run.0.1.step file name)
    (changes_in Says turn.next turns run.1 file name)
