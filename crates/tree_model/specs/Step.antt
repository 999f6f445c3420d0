-- One step of the machine: a session's command, its reply, and the state after it.
use Rattle.std.specs.Prelude.{◌≡◌, ◌⊎◌, ℕ, ◌≤◌, false, All, None, Result, Ok, Err, IsTrue}
use Rattle.ntfs_def.specs.declared.records.TheConstants.{FIRST_ORDINARY}
use Rattle.tree_model.specs.Answers.{answer_of}
use Rattle.tree_model.specs.Effects.{after, makes_file}
use Rattle.tree_model.specs.Refusals.{Facts, outcome}
use Rattle.tree_model.specs.Subjects.{Located, Machine}
use Rattle.tree_model.specs.Tree.{Tree, leads_to, node_of}
use Rattle.tree_model.specs.declared.command.Command.{Command}
use Rattle.tree_model.specs.declared.reply.Answer.{Answer}
use Rattle.tree_model.specs.declared.reply.No.{No}
use Rattle.tree_model.specs.declared.reply.No.TheVariants as no
use Rattle.tree_model.specs.declared.reply.Reply.{Reply}
use Rattle.tree_model.specs.declared.reply.Reply.TheVariants as reply

abbrev pub answered : Facts → Machine → ℕ → Command → Result Located No → Result Answer No
answered facts m session command (Err refused) = Err refused
answered facts m session command (Ok at) = Ok (answer_of facts m session command at)

-- What is due: the lines before `ok`, or the refusal.
unfoldable pub due : Facts → Machine → ℕ → Command → Result Answer No
due facts m session command = answered facts m session command (outcome facts m session command)

abbrev pub reply_of : Result Answer No → Reply
reply_of (Ok answer) = reply.Ok answer
reply_of (Err refused) = reply.No refused

-- A number for a new file: from 24 on, no file's, no hidden link's, and that of a record that is not in use.
pub record IsFresh (facts : Facts) (tree : Tree) (file : ℕ) : Type 0 where
  pub ordinary : FIRST_ORDINARY ≤ file
  pub no_node : node_of tree file ≡ None
  pub no_child : All (λ link. leads_to file link ≡ false) tree.hidden
  pub free : facts.in_use file ≡ false

-- The command was done. The number of a file that it makes was chosen freely.
pub record Moves (facts : Facts) (m : Machine) (session : ℕ) (command : Command) (next : Machine) : Type 0 where
  pub at : Located
  pub found : outcome facts m session command ≡ Ok at
  pub file : ℕ
  pub fresh : IsTrue (makes_file command) → IsFresh facts m.tree file
  pub moved : next ≡ after m session command at file

-- a refusal leaves the state as it was
abbrev pub Leads : Facts → Machine → ℕ → Command → Reply → Machine → Type 0
Leads facts m session command (reply.Ok answer) next = Moves facts m session command next
Leads facts m session command (reply.No refused) next = next ≡ m
Leads facts m session command reply.Device next = ⊥

-- A STEP. Want of memory may stand in place of any reply.
pub record Step (facts : Facts) (m : Machine) (session : ℕ) (command : Command) (given : Reply) (next : Machine) : Type 0 where
  pub replied : (given ≡ reply_of (due facts m session command)) ⊎ (given ≡ reply.No no.Memory)
  pub moved : Leads facts m session command given next
