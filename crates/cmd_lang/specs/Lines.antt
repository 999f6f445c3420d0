-- What parsing answers.
use Rattle.std.specs.Prelude.{◌≡◌, ◌<◌, ◌≤◌, ℕ, List, length, Option, Some, None, Result, Ok, Err}
use Rattle.tree_model.specs.declared.command.Command.{Command}
use Rattle.cmd_lang.specs.declared.parse.LineFault.{LineFault}
use Rattle.cmd_lang.specs.declared.parse.LineFault.TheVariants as fault
use Rattle.cmd_lang.specs.Grammar.{IsLine}
use Rattle.cmd_lang.specs.Words.{most_bytes}

-- one that is meant, and none only where nothing is
abbrev pub Finds : {A : Type 0} → (A → Type 0) → Option A → Type 0
Finds IsMeant (Some found) = IsMeant found
Finds IsMeant None = (meant : _) → IsMeant meant → ⊥

-- the same of a session and its command, and of the command of a session that is known
abbrev pub FindsSaid : (ℕ → Command → Type 0) → Option (ℕ × Command) → Type 0
FindsSaid IsMeant (Some said) = IsMeant said.0 said.1
FindsSaid IsMeant None = (session : ℕ) (command : Command) → IsMeant session command → ⊥

abbrev pub FindsIn : ℕ → (Command → Type 0) → Option (ℕ × Command) → Type 0
FindsIn session IsMeant (Some said) = (said.0 ≡ session) × IsMeant said.1
FindsIn session IsMeant None = (command : Command) → IsMeant command → ⊥

-- What a line says, as `parse_line` answers it: a command of a session; Long above 70,000 bytes; Syntax where it is not
-- longer and no command. Want of memory may stand in place of any.
abbrev pub Means : List ℕ → Result (ℕ × Command) LineFault → Type 0
Means line (Ok said) = IsLine line said.0 said.1
Means line (Err fault.Long) = most_bytes < length line
Means line (Err fault.Syntax) = (length line ≤ most_bytes) × ((session : ℕ) (command : Command) → IsLine line session command → ⊥)
Means line (Err fault.Memory) = Unit {0}
