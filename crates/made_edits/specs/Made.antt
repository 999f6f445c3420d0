-- A FILE MADE UNDER ONE NAME: as calls, and what the volume is then.
use Rattle.std.specs.Prelude.{◌≡◌, ◌||◌, ℕ, Bool, List}
use Rattle.ntfs_def.specs.FileName.{FileName}
use Rattle.volume_def.specs.Sound.{IsSound}
use Rattle.volume_def.specs.View.{VolumeView}
use Rattle.mft_table.specs.declared.mounted.Mounted.{Mounted}
use Rattle.mft_table.specs.HeldTables.{AreStored}
use Rattle.root_puts.specs.Extensions.{reference_of}
use Rattle.tree_model.specs.Effects.{add_link, link_to, new_node}
use Rattle.tree_model.specs.Reading.{read}
use Rattle.tree_model.specs.declared.tree.Node.{Node}
use Rattle.edit_def.specs.Edited.{Edited}
use Rattle.edit_def.specs.Kept.{Key}
use Rattle.edit_def.specs.Marks.{AreRight, Marks}
use Rattle.in_place.specs.Unnamed.{CanSet}
use Rattle.root_puts.specs.Steps.{with_node}
use Rattle.root_puts.specs.Marks.{marks_of}
use Rattle.root_puts.specs.Calls.{AddsLink, MakesNode}
use Rattle.root_puts.specs.Keys.{is_index_key_of, is_key_of}
use Rattle.made_edits.specs.Left.{LeavesOthers}
use Rattle.made_edits.specs.Wants.{made_wants, making_wants, naming_wants}

-- the name that comes, as its directory knows it
abbrev pub new_name : VolumeView → ℕ → List ℕ → FileName
new_name view dir units = record { parent = reference_of view dir; namespace = 0; units = units }

-- the attributes that the calls name: all of the new file, and the index of its directory
abbrev pub is_made_key : ℕ → ℕ → Key → Bool
is_made_key n dir key = is_key_of n key || is_index_key_of dir key

-- THE TWO CALLS: the file comes as a new node of the machine, and then it gets its name; both are one edit.
pub record IsMadeByCalls (directory : Bool) (old new : VolumeView) (before after : Marks) (n dir : ℕ) (units : List ℕ)
    (moment security : ℕ) : Type 0 where
  pub mid : VolumeView
  pub makes : MakesNode (making_wants directory n) old mid before after n directory (new_node directory moment security)
  pub adds : AddsLink (naming_wants n) mid new after after n (new_name old dir units)
  pub edited : Edited (is_made_key n dir) (made_wants directory n) old new before after

-- WHAT THE VOLUME IS THEN: sound, with these bits in memory, which are stored; attributes of the directory can be set; and it reads as
-- before but for the node and the link, under a number that the machine may choose. The rest is left alone.
pub record IsMade (directory : Bool) (old new : VolumeView) (was now : Mounted) (n dir : ℕ) (node : Node) (units : List ℕ)
    (moment security : ℕ) : Type 0 where
  pub calls : IsMadeByCalls directory old new (marks_of was) (marks_of now) n dir units moment security
  pub sound : IsSound new
  pub right : AreRight new (marks_of now)
  pub can : CanSet new dir node
  pub reads : read new ≡ add_link (link_to n dir units) (with_node n (new_node directory moment security) (read old))
  pub stored : AreStored new now.clusters now.records now.upcase
  pub leaves : LeavesOthers old new n dir
