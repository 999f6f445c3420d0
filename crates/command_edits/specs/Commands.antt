-- WHAT COMMANDS MAKE OF A VOLUME: each as its calls in their order, from where the one before it ended.
use Rattle.std.specs.Prelude.{◌≡◌, ◌≢◌, ◌⊎◌, ℕ, Bool, true, false, List, Contains, length, unwrap_or, Option, Some, None}
use Rattle.ntfs_def.specs.FileName.{FileName}
use Rattle.ntfs_def.specs.declared.records.TheConstants.{ROOT}
use Rattle.volume_def.specs.FileNames.{is_dos, names_of}
use Rattle.volume_def.specs.Files.{records_of}
use Rattle.volume_def.specs.View.{VolumeView}
use Rattle.tree_model.specs.Cases.{has_links, lies_in}
use Rattle.tree_model.specs.Drops.{is_last_name}
use Rattle.tree_model.specs.Effects.{new_node, security_of, stamped, touched}
use Rattle.tree_model.specs.Reading.{link_for, node_at}
use Rattle.tree_model.specs.Subjects.{Machine}
use Rattle.tree_model.specs.declared.tree.Node.{Node}
use Rattle.edit_def.specs.Account.{Wants, Within, also, nothing}
use Rattle.edit_def.specs.Marks.{Marks}
use Rattle.edit_def.specs.Names.{gone_names, is_directory_in}
use Rattle.command_edits.specs.Calls.{AddsLink, DropsLinks, DropsNode, MakesNode, RefreshesEntries, SetsNode}

-- where a call ended, and the next one begins
pub record Stage : Type 0 where
  pub view : VolumeView
  pub marks : Marks

-- A file has its time of record change set to this moment, and the one of modification too. That takes no room.
abbrev pub StampsNode : ℕ → VolumeView → VolumeView → Marks → Marks → ℕ → Node → Type 0
StampsNode now old new before after f node = SetsNode nothing old new before after f (stamped now node).times node.flags None

abbrev pub TouchesNode : ℕ → VolumeView → VolumeView → Marks → Marks → ℕ → Node → Type 0
TouchesNode now old new before after f node = SetsNode nothing old new before after f (touched now node).times node.flags None

-- THE END of a command on names: the directory is touched, and then entries of the files that were set are told anew.
pub record TouchesLast (now : ℕ) (old new : VolumeView) (before after : Marks) (directory : ℕ) (node : Node) : Type 0 where
  pub touched : Stage
  pub touches : TouchesNode now old touched.view before touched.marks directory node
  pub entries : List (ℕ × FileName)
  pub refreshes : RefreshesEntries entries touched.view new touched.marks after

-- A DIRECTORY IN WHICH A NEW NAME COMES to stand. It is shown.
pub record IsDirectoryFor (view : VolumeView) (name : FileName) (node : Node) : Type 0 where
  pub plain : name.namespace ≡ 0
  pub node_is : node_at view name.parent.number ≡ Some node
  pub directory : is_directory_in (records_of view) name.parent ≡ true

-- `create` and `mkdir`: a file comes, and gets its name.
pub record DoesMake (m : Machine) (wants : Wants) (old new : VolumeView) (before after : Marks) (f : ℕ) (directory : Bool)
    (name : FileName) : Type 0 where
  pub parent : Node
  pub inside : IsDirectoryFor old name parent
  pub making : Wants
  pub adding : Wants
  pub within : Within (also making adding) wants
  pub made : Stage
  pub named : Stage
  pub makes : MakesNode making old made.view before made.marks f directory
      (new_node directory m.now (security_of m.tree name.parent.number))
  pub adds : AddsLink adding made.view named.view made.marks named.marks f name
  pub ends : TouchesLast m.now named.view new named.marks after name.parent.number parent

-- `ln`: a file that is no directory gets one more name.
pub record DoesLink (m : Machine) (wants : Wants) (old new : VolumeView) (before after : Marks) (f : ℕ) (name : FileName) : Type 0 where
  pub node : Node
  pub there : node_at old f ≡ Some node
  pub file : node.dir ≡ false
  pub away : f ≢ ROOT
  pub parent : Node
  pub inside : IsDirectoryFor old name parent
  pub named : Stage
  pub set : Stage
  pub adds : AddsLink wants old named.view before named.marks f name
  pub stamps : StampsNode m.now named.view set.view named.marks set.marks f node
  pub ends : TouchesLast m.now set.view new set.marks after name.parent.number parent

-- The first calls of `rm`, `rmdir` and `mv`: the names go that go with one that is no DOS name, of a file that is shown.
pub record LosesLinks (wants : Wants) (old left : VolumeView) (before between : Marks) (f : ℕ) (name : FileName) : Type 0 where
  pub node : Node
  pub there : node_at old f ≡ Some node
  pub away : f ≢ ROOT
  pub parent : Node
  pub there_parent : node_at old name.parent.number ≡ Some parent
  pub among : Contains (names_of (records_of old) f) name
  pub plain : is_dos name ≡ false
  pub drops : DropsLinks f (gone_names (names_of (records_of old) f) name) wants old left before between

-- `rm` of the last name, and `rmdir`: then the file goes, which is no directory or an empty one.
pub record DoesRemove (m : Machine) (wants : Wants) (old new : VolumeView) (before after : Marks) (f : ℕ) (name : FileName) : Type 0 where
  pub losing : Wants
  pub going : Wants
  pub within : Within (also losing going) wants
  pub left : Stage
  pub gone : Stage
  pub loses : LosesLinks losing old left.view before left.marks f name
  pub last : is_last_name m.tree (link_for f name) ≡ true
  pub empty : (loses.node.dir ≡ false) ⊎ (has_links m.tree f ≡ false)
  pub goes : DropsNode going left.view gone.view left.marks gone.marks f
  pub ends : TouchesLast m.now gone.view new gone.marks after name.parent.number loses.parent

-- `rm` of another name, of a file that is no directory.
pub record DoesUnlink (m : Machine) (wants : Wants) (old new : VolumeView) (before after : Marks) (f : ℕ) (name : FileName) : Type 0 where
  pub left : Stage
  pub set : Stage
  pub loses : LosesLinks wants old left.view before left.marks f name
  pub file : loses.node.dir ≡ false
  pub stays : is_last_name m.tree (link_for f name) ≡ false
  pub stamps : StampsNode m.now left.view set.view left.marks set.marks f loses.node
  pub ends : TouchesLast m.now set.view new set.marks after name.parent.number loses.parent

-- `mv`: the names go first, since the new one may be equal to one of them. What is set of the file and of the new directory is what they
-- are then.
pub record DoesMove (m : Machine) (wants : Wants) (old new : VolumeView) (before after : Marks) (f : ℕ)
    (name fresh : FileName) : Type 0 where
  pub target : Node
  pub inside : IsDirectoryFor old fresh target
  pub no_loop : lies_in m.tree (length m.tree.links) f fresh.parent.number ≡ false
  pub losing : Wants
  pub adding : Wants
  pub within : Within (also losing adding) wants
  pub left : Stage
  pub touched : Stage
  pub named : Stage
  pub set : Stage
  pub loses : LosesLinks losing old left.view before left.marks f name
  pub touches : TouchesNode m.now left.view touched.view left.marks touched.marks name.parent.number loses.parent
  pub adds : AddsLink adding touched.view named.view touched.marks named.marks f fresh
  pub node : Node
  pub node_is : node_at named.view f ≡ Some node
  pub stamps : StampsNode m.now named.view set.view named.marks set.marks f node
  pub parent : Node
  pub parent_is : node_at set.view fresh.parent.number ≡ Some parent
  pub ends : TouchesLast m.now set.view new set.marks after fresh.parent.number parent

-- `setattr` and `setsec`: a file is set, its flags, or its security id.
pub record DoesSet (m : Machine) (wants : Wants) (old new : VolumeView) (before after : Marks) (f : ℕ)
    (flags security : Option ℕ) : Type 0 where
  pub node : Node
  pub there : node_at old f ≡ Some node
  pub set : Stage
  pub sets : SetsNode wants old set.view before set.marks f (stamped m.now node).times (unwrap_or flags node.flags) security
  pub entries : List (ℕ × FileName)
  pub refreshes : RefreshesEntries entries set.view new set.marks after
