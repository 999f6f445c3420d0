-- WHAT THE WORDS OF A COMMAND LEAD TO that is done: a file that is there, and nothing new.
use Rattle.std.proofs.Common.{◌≡◌, ℕ, true, List, Option, Some, None, Result, Ok, Err, refl, subst}
use Rattle.tree_model.specs.Paths.{and_then, resolve}
use Rattle.tree_model.specs.Subjects.{Located, Machine, NoName, at_file, at_found, at_open, content_named, locate, locate_path, stream_name}
use Rattle.tree_model.specs.Subjects.{subject_of, with_stream}
use Rattle.tree_model.specs.Tree.{Tree, node_of}
use Rattle.tree_model.specs.declared.command.Command.{Command}
use Rattle.tree_model.specs.declared.command.Command.TheVariants as c
use Rattle.tree_model.specs.declared.opens.OpenEntry.{OpenEntry}
use Rattle.tree_model.specs.declared.reply.No.{No}
use Rattle.tree_model.specs.declared.tree.Found.{Found}
use Rattle.session_def.specs.Nodes.{edits_stream}
use Rattle.in_place_done.specs.Written.{is_done}

-- they name nothing new, and the node is the file's
pub record LeadsThere (tree : Tree) (at : Located) : Type 0 where
  pub new : at.new ≡ NoName
  pub node : at.node ≡ node_of tree at.file

-- what the stream holds is the file's too
abbrev pub HasContent : Tree → Located → Type 0
HasContent tree at = at.content ≡ content_named tree at.stream at.node

ok-same : (a b : Located) → ◌≡◌ {A = Result Located No} (Ok a) (Ok b) → a ≡ b
ok-same a b e = cc

path-there : (tree : Tree) (path : List (List ℕ)) (at : Located) → locate_path tree path ≡ Ok at → LeadsThere tree at
path-there tree path at e = by (resolve tree path) e
  where
    by : (r : Result Found No) → and_then r (λ found. Ok (at_found tree found)) ≡ Ok at → LeadsThere tree at
    by (Err refused) e = cc
    by (Ok found) e = subst (LeadsThere tree) (ok-same (at_found tree found) at e) (record { new = refl; node = refl })

-- a stream of what a path leads to
stream-there : (tree : Tree) (name : List ℕ) (r : Result Located No) (at : Located) → ((a : Located) → r ≡ Ok a → LeadsThere tree a)
    → and_then r (λ a. Ok (with_stream tree name a)) ≡ Ok at → LeadsThere tree at × HasContent tree at
stream-there tree name (Err refused) at each e = cc
stream-there tree name (Ok a) at each e =
    let is = each a refl in
    subst (λ (b : Located). LeadsThere tree b × HasContent tree b) (ok-same (with_stream tree name a) at e)
    (record { new = is.new; node = is.node }, refl)

-- the stream of an open
open-there : (tree : Tree) (o : Option OpenEntry) (at : Located) → at_open tree o ≡ Ok at → LeadsThere tree at × HasContent tree at
open-there tree None at e = cc
open-there tree (Some entry) at e =
    subst (λ (b : Located). LeadsThere tree b × HasContent tree b)
    (ok-same (with_stream tree entry.stream (at_file tree None entry.file)) at e) (record { new = refl; node = refl }, refl)

pub leads-there : (m : Machine) (session : ℕ) (command : Command) (at : Located) → is_done command ≡ true
    → locate m session (subject_of command) ≡ Ok at → LeadsThere m.tree at
unfolding locate
leads-there m session (c.Setattr path flags) at is e = path-there m.tree path at e
leads-there m session (c.Write path stream from bytes) at is e =
    (stream-there m.tree (stream_name stream) (locate_path m.tree path) at (path-there m.tree path) e).0
leads-there m session (c.Hwrite handle from bytes) at is e = (open-there m.tree _ at e).0
leads-there m session (c.Punch path stream from len) at is e =
    (stream-there m.tree (stream_name stream) (locate_path m.tree path) at (path-there m.tree path) e).0
leads-there m session (c.Truncate path stream size) at is e =
    (stream-there m.tree (stream_name stream) (locate_path m.tree path) at (path-there m.tree path) e).0
leads-there m session (c.Rmstream path name) at is e =
    (stream-there m.tree name (locate_path m.tree path) at (path-there m.tree path) e).0
leads-there m session (c.Setsec path id) at is e = path-there m.tree path at e
leads-there m session other at is e = cc

pub has-content : (m : Machine) (session : ℕ) (command : Command) (at : Located) → is_done command ≡ true
    → edits_stream command ≡ true → locate m session (subject_of command) ≡ Ok at → HasContent m.tree at
unfolding locate
has-content m session (c.Setattr path flags) at is edits e = cc
has-content m session (c.Write path stream from bytes) at is edits e =
    (stream-there m.tree (stream_name stream) (locate_path m.tree path) at (path-there m.tree path) e).1
has-content m session (c.Hwrite handle from bytes) at is edits e = (open-there m.tree _ at e).1
has-content m session (c.Punch path stream from len) at is edits e =
    (stream-there m.tree (stream_name stream) (locate_path m.tree path) at (path-there m.tree path) e).1
has-content m session (c.Truncate path stream size) at is edits e =
    (stream-there m.tree (stream_name stream) (locate_path m.tree path) at (path-there m.tree path) e).1
has-content m session (c.Rmstream path name) at is edits e =
    (stream-there m.tree name (locate_path m.tree path) at (path-there m.tree path) e).1
has-content m session (c.Setsec path id) at is edits e = cc
has-content m session other at is edits e = cc
