-- The opens of a state of the machine: they go together, and each is of a file that is there.
use Rattle.std.specs.Prelude.{All, IsSome, IsTrue, List, ℕ, ◌≡◌}
use Rattle.session_def.specs.Session.{Said}
use Rattle.tree_model.specs.Subjects.{Machine}
use Rattle.tree_model.specs.Tree.{node_of}
use Rattle.tree_model.specs.declared.opens.OpenEntry.{OpenEntry}
use Rattle.share_table.specs.Kept.{AreKept}

pub record HoldsOpens (m : Machine) : Type 0 where
  pub kept : AreKept m.opens
  pub nodes : All (λ entry. IsSome (node_of m.tree entry.file)) m.opens

-- Every open of this file lets others delete.
abbrev pub LetDelete : List OpenEntry → ℕ → Type 0
LetDelete opens file = All (λ entry. entry.file ≡ file → IsTrue entry.share.d) opens

-- whatever a line says
abbrev pub AnyLine : List ℕ → Said → Type 0
AnyLine line said = Unit {0}
