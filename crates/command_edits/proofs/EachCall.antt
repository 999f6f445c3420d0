-- WHAT EACH CALL OF A COMMAND KEEPS, the command keeps.
use Rattle.std.proofs.Common.{Bool, List, None, Option, [], subst, sym, true, ℕ, ◌∷◌, ◌≡◌}
use Rattle.std.specs.List.{Contains}
use Rattle.list_laws.proofs.MemberLaws.{Contains-head, Contains-later}
use Rattle.ntfs_def.specs.FileName.{FileName}
use Rattle.volume_def.specs.FileNames.{names_of}
use Rattle.volume_def.specs.Files.{records_of}
use Rattle.volume_def.specs.View.{VolumeView}
use Rattle.tree_model.specs.Subjects.{Machine}
use Rattle.tree_model.specs.declared.tree.Node.{Node}
use Rattle.edit_def.specs.Account.{Wants, nothing}
use Rattle.edit_def.specs.Marks.{Marks}
use Rattle.edit_def.specs.Names.{gone_names}
use Rattle.command_edits.specs.Calls.{AddsLink, DropsLink, DropsLinks, DropsNode, MakesNode, RefreshesEntries, RefreshesEntry, SetsNode}
use Rattle.command_edits.specs.Commands.{DoesLink, DoesMake, DoesMove, DoesRemove, DoesSet, DoesUnlink, TouchesLast}

-- of a command about file f, by which no names go but these, and entries of these files alone are told anew
pub record EachKeeps (K : VolumeView → VolumeView → Type 0) (f : ℕ) (gone : List FileName) (among : ℕ → Bool) : Type 0 where
  pub same : (view : VolumeView) → K view view
  pub turn : (old mid new : VolumeView) → K old mid → K mid new → K old new
  pub adds : (wants : Wants) (old new : VolumeView) (before after : Marks) (name : FileName)
      → AddsLink wants old new before after f name → K old new
  pub drops : (wants : Wants) (old new : VolumeView) (before after : Marks) (name : FileName) → Contains gone name
      → DropsLink wants old new before after f name → K old new
  pub refreshes : (wants : Wants) (old new : VolumeView) (before after : Marks) (g : ℕ) (name : FileName) → among g ≡ true
      → RefreshesEntry wants old new before after g name → K old new
  pub stamps : (wants : Wants) (old new : VolumeView) (before after : Marks) (g : ℕ) (times : List ℕ) (flags : ℕ)
      → SetsNode wants old new before after g times flags None → K old new

-- the entries are of these files
abbrev pub AreAmong : (ℕ → Bool) → List (ℕ × FileName) → Type 0
AreAmong among entries = (entry : ℕ × FileName) → Contains entries entry → among entry.0 ≡ true

module _ (K : VolumeView → VolumeView → Type 0) (f : ℕ) (gone : List FileName) (among : ℕ → Bool) (each : EachKeeps K f gone among) where
  row : (entries : List (ℕ × FileName)) (old new : VolumeView) (before after : Marks) → AreAmong among entries
      → RefreshesEntries entries old new before after → K old new
  row [] old new before after of (same, marks) = subst (K old) (sym same) (each.same old)
  row (entry ∷ entries) old new before after of (mid, marks, call, rest) =
      each.turn old mid new (each.refreshes nothing old mid before marks entry.0 entry.1 (of entry (Contains-head entry entries)) call)
      (row entries mid new marks after (λ other there. of other (Contains-later entry entries other there)) rest)

  dropped-row : (names : List FileName) (wants : Wants) (old new : VolumeView) (before after : Marks)
      → ((name : FileName) → Contains names name → Contains gone name) → DropsLinks f names wants old new before after → K old new
  dropped-row [] wants old new before after of (same, marks) = subst (K old) (sym same) (each.same old)
  dropped-row (name ∷ names) wants old new before after of (first, rest, within, mid, marks, call, others) =
      each.turn old mid new (each.drops first old mid before marks name (of name (Contains-head name names)) call)
      (dropped-row names rest mid new marks after (λ other there. of other (Contains-later name names other there)) others)

  end : (now : ℕ) (old new : VolumeView) (before after : Marks) (dir : ℕ) (node : Node)
      → (x : TouchesLast now old new before after dir node) → AreAmong among x.entries → K old new
  end now old new before after dir node x of =
      each.turn old x.touched.view new (each.stamps nothing old x.touched.view before x.touched.marks dir _ _ x.touches)
      (row x.entries x.touched.view new x.touched.marks after of x.refreshes)

  module _ (m : Machine) (wants : Wants) (old new : VolumeView) (before after : Marks) where
    pub make-keeps : (directory : Bool) (name : FileName) → (x : DoesMake m wants old new before after f directory name)
        → ((bill : Wants) (view next : VolumeView) (m0 m1 : Marks) (node : Node) → MakesNode bill view next m0 m1 f directory node
        → K view next)
        → AreAmong among x.ends.entries → K old new
    make-keeps directory name x makes of =
        each.turn old x.made.view new (makes x.making old x.made.view before x.made.marks _ x.makes)
        (each.turn x.made.view x.named.view new
        (each.adds x.adding x.made.view x.named.view x.made.marks x.named.marks name x.adds)
        (end m.now x.named.view new x.named.marks after name.parent.number x.parent x.ends of))

    pub link-keeps : (name : FileName) → (x : DoesLink m wants old new before after f name) → AreAmong among x.ends.entries → K old new
    link-keeps name x of =
        each.turn old x.named.view new (each.adds wants old x.named.view before x.named.marks name x.adds)
        (each.turn x.named.view x.set.view new
        (each.stamps nothing x.named.view x.set.view x.named.marks x.set.marks f _ _ x.stamps)
        (end m.now x.set.view new x.set.marks after name.parent.number x.parent x.ends of))

    -- the names that go with this one are those
    module _ (name : FileName) (all : (one : FileName) → Contains (gone_names (names_of (records_of old) f) name) one
        → Contains gone one) where
      pub remove-keeps : (x : DoesRemove m wants old new before after f name)
          → ((bill : Wants) (view next : VolumeView) (m0 m1 : Marks) → DropsNode bill view next m0 m1 f → K view next)
          → AreAmong among x.ends.entries → K old new
      remove-keeps x goes of =
          each.turn old x.left.view new
          (dropped-row (gone_names (names_of (records_of old) f) name) x.losing old x.left.view before x.left.marks all x.loses.drops)
          (each.turn x.left.view x.gone.view new (goes x.going x.left.view x.gone.view x.left.marks x.gone.marks x.goes)
          (end m.now x.gone.view new x.gone.marks after name.parent.number x.loses.parent x.ends of))

      pub unlink-keeps : (x : DoesUnlink m wants old new before after f name) → AreAmong among x.ends.entries → K old new
      unlink-keeps x of =
          each.turn old x.left.view new
          (dropped-row (gone_names (names_of (records_of old) f) name) wants old x.left.view before x.left.marks all x.loses.drops)
          (each.turn x.left.view x.set.view new
          (each.stamps nothing x.left.view x.set.view x.left.marks x.set.marks f _ _ x.stamps)
          (end m.now x.set.view new x.set.marks after name.parent.number x.loses.parent x.ends of))

      pub move-keeps : (fresh : FileName) → (x : DoesMove m wants old new before after f name fresh) → AreAmong among x.ends.entries
          → K old new
      move-keeps fresh x of =
          each.turn old x.left.view new
          (dropped-row (gone_names (names_of (records_of old) f) name) x.losing old x.left.view before x.left.marks all x.loses.drops)
          (each.turn x.left.view x.touched.view new
          (each.stamps nothing x.left.view x.touched.view x.left.marks x.touched.marks name.parent.number _ _ x.touches)
          (each.turn x.touched.view x.named.view new
          (each.adds x.adding x.touched.view x.named.view x.touched.marks x.named.marks fresh x.adds)
          (each.turn x.named.view x.set.view new
          (each.stamps nothing x.named.view x.set.view x.named.marks x.set.marks f _ _ x.stamps)
          (end m.now x.set.view new x.set.marks after fresh.parent.number x.parent x.ends of))))

    pub set-keeps : (flags security : Option ℕ) → (x : DoesSet m wants old new before after f flags security) → K old x.set.view
        → AreAmong among x.entries → K old new
    set-keeps flags security x sets of =
        each.turn old x.set.view new sets (row x.entries x.set.view new x.set.marks after of x.refreshes)
