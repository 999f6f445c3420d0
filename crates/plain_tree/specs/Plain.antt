-- A tree kept in plain lists, and what its calls lend of it.
use Rattle.std.specs.Prelude.{◌≡◌, ℕ, ◌&&◌, Bool, true, false, List, Option, Some, None, Result, Ok, Err}
use Rattle.std.specs.Prelude.{option_map}
use Rattle.std.specs.Prelude.{◌<◌, ◌≢◌, length, slice_index_or}
use Rattle.std.specs.FinMap as finmap
use Rattle.std.specs.Str.{bytes_eq}
use denote.Ref.{Bor}
use Rattle.ntfs_def.specs.KeyOrder.{fold_of}
use Rattle.tree_model.specs.Paths.{Place}
use Rattle.tree_model.specs.Refusals.{Facts}
use Rattle.tree_model.specs.Shown.{Tells}
use Rattle.tree_model.specs.Step.{due}
use Rattle.tree_model.specs.Subjects.{Machine}
use Rattle.tree_model.specs.Tree.{Tree, are_same, is_in}
use Rattle.tree_model.specs.declared.command.Command.{Command}
use Rattle.tree_model.specs.declared.command.Command.TheVariants as c
use Rattle.tree_model.specs.declared.opens.OpenEntry.{OpenEntry}
use Rattle.plain_tree.specs.declared.tree.PlainTree.{PlainTree}
use Rattle.plain_tree.specs.declared.facts.PlainFacts.{PlainFacts}
use Rattle.plain_tree.specs.declared.machine.PlainMachine.{PlainMachine}
use Rattle.tree_model.specs.declared.reply.Answer.{Answer}
use Rattle.tree_model.specs.declared.reply.Answer.TheVariants as a
use Rattle.tree_model.specs.declared.reply.Listed.{Listed}
use Rattle.tree_model.specs.declared.reply.No.{No}
use Rattle.tree_model.specs.declared.reply.No.TheVariants as no
use Rattle.tree_model.specs.declared.tree.Found.{Found}
use Rattle.tree_model.specs.declared.tree.Found.TheVariants as found
use Rattle.tree_model.specs.declared.tree.Link.{Link}
use Rattle.tree_model.specs.declared.tree.Node.{Node}

-- the tree that the lists are
unfoldable pub tree_of : PlainTree → Tree
tree_of plain = record {
  fold = fold_of plain.case;
  nodes = finmap.from_entries plain.nodes.items;
  links = plain.links.items;
  hidden = plain.hidden.items;
}

-- The first node of this number stands here in the list.
pub record IsFirstOf (nodes : List (ℕ × Node)) (file place : ℕ) : Type 0 where
  pub within : place < length nodes
  pub here : (other : ℕ × Node) → (slice_index_or nodes place other).0 ≡ file
  pub first : (k : ℕ) (other : ℕ × Node) → k < place → (slice_index_or nodes k other).0 ≢ file

-- what is lent, as a value
abbrev pub lent : {A : Type 0} → Option (Bor A) → Option A
lent item = option_map (λ one. one.now) item

-- a link of the directory by exactly this name, or by one of the same
abbrev pub is_called : (ℕ → ℕ) → Bool → List ℕ → List ℕ → Bool
is_called fold true a b = bytes_eq a b
is_called fold false a b = are_same fold a b

abbrev pub is_named : (ℕ → ℕ) → ℕ → List ℕ → Bool → Link → Bool
is_named fold dir name exact link = is_in dir link && is_called fold exact link.name name

-- a place that is lent in parts
abbrev pub lent_place : Result (ℕ × Bor (List ℕ)) No → Result Place No
lent_place (Ok place) = Ok (record { directory = place.0; name = place.1.now })
lent_place (Err refused) = Err refused

-- what is found, by the link that leads to it; the root has none
abbrev pub lent_link : Option (Bor Link) → Found
lent_link None = found.Root
lent_link (Some link) = found.Link link.now

abbrev pub lent_found : Result (Option (Bor Link)) No → Result Found No
lent_found (Ok link) = Ok (lent_link link)
lent_found (Err refused) = Err refused

-- a file that is lent, by its number
abbrev pub lent_file : Result (ℕ × Option (Bor Node)) No → Result (ℕ × Option Node) No
lent_file (Ok file) = Ok (file.0, lent file.1)
lent_file (Err refused) = Err refused

-- a line of `ls` that is lent
abbrev pub listed_as : Bool × Bor Link → Listed
listed_as line = record { dir = line.0; name = line.1.now.name }

abbrev pub lent_listed : Option (Bool × Bor Link) → Option Listed
lent_listed line = option_map listed_as line

-- The numbers are told.
pub record AreTold (plain : PlainFacts) (facts : Facts) : Type 0 where
  pub clusters : facts.clusters ≡ plain.clusters
  pub free : facts.free ≡ plain.free
  pub records : facts.records ≡ plain.records
  pub free_records : facts.free_records ≡ plain.free_records

abbrev pub df_of : PlainFacts → Answer
df_of plain = a.Df plain.clusters plain.free plain.records plain.free_records

-- bytes that are lent
abbrev pub lent_bytes : Result (Bor (List ℕ)) No → Result (List ℕ) No
lent_bytes (Ok bytes) = Ok bytes.now
lent_bytes (Err refused) = Err refused

-- the machine that is kept
unfoldable pub machine_of : PlainMachine → Machine
machine_of plain = record { tree = tree_of plain.tree; opens = plain.opens.items; now = plain.now }

-- what is due, whatever the moment and the session
abbrev pub TellsDue : PlainTree → List OpenEntry → PlainFacts → Command → Result Answer No → Type 0
TellsDue plain opens told command result =
    (facts : Facts) (now session : ℕ) → AreTold told facts
    → Tells (due facts (record { tree = tree_of plain; opens = opens; now = now }) session command) result

-- The commands that the plain machine does: those that show something of what a path leads to, and `df`.
abbrev pub is_plain : Command → Bool
is_plain (c.Ls path) = true
is_plain (c.Stat path) = true
is_plain (c.Links path) = true
is_plain (c.Cat path stream) = true
is_plain (c.Read path stream at len) = true
is_plain (c.Streams path) = true
is_plain (c.Attr path) = true
is_plain (c.Sec path) = true
is_plain (c.Reparse path) = true
is_plain (c.Objid path) = true
is_plain c.Df = true
is_plain other = false
