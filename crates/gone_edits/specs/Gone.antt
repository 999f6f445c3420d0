-- A FILE GONE WITH ITS ONE NAME: as calls, and what the volume is then.
use Rattle.std.specs.Prelude.{◌≡◌, ◌||◌, ℕ, Bool, true}
use Rattle.ntfs_def.specs.FileName.{FileName}
use Rattle.volume_def.specs.Sound.{IsSound}
use Rattle.volume_def.specs.View.{VolumeView}
use Rattle.mft_table.specs.declared.mounted.Mounted.{Mounted}
use Rattle.mft_table.specs.HeldTables.{AreStored}
use Rattle.tree_model.specs.Drops.{is_last_name}
use Rattle.tree_model.specs.Effects.{leave_file}
use Rattle.tree_model.specs.Reading.{link_for, read}
use Rattle.tree_model.specs.declared.tree.Node.{Node}
use Rattle.edit_def.specs.Account.{nothing}
use Rattle.edit_def.specs.Edited.{Edited}
use Rattle.edit_def.specs.Kept.{Key}
use Rattle.edit_def.specs.Marks.{AreRight, Marks}
use Rattle.reading_edits.specs.Steps.{without_link, without_node}
use Rattle.command_edits.specs.Calls.{DropsNode}
use Rattle.command_edits.specs.Commands.{LosesLinks}
use Rattle.command_edits.specs.Keys.{is_index_key_of, is_key_of}
use Rattle.record_calls.specs.Marks.{marks_of}
use Rattle.in_place.specs.Unnamed.{CanSet}
use Rattle.made_edits.specs.Left.{LeavesOthers}
use Rattle.gone_edits.specs.Wants.{going_wants}

-- the attributes that the calls name: all of the file, and the index of its directory
abbrev pub is_gone_key : ℕ → ℕ → Key → Bool
is_gone_key n dir key = is_key_of n key || is_index_key_of dir key

-- THE CALLS: the file loses its one name, and then it goes; both are one edit, which takes nothing.
pub record IsGoneByCalls (old new : VolumeView) (before after : Marks) (n dir : ℕ) (name : FileName) : Type 0 where
  pub mid : VolumeView
  pub loses : LosesLinks nothing old mid before before n name
  pub goes : DropsNode (going_wants n) mid new before after n
  pub edited : Edited (is_gone_key n dir) (going_wants n) old new before after

-- WHAT THE VOLUME IS THEN: sound, with these bits in memory, which are stored; attributes of the directory can be set; and it reads as
-- before but without the link and the node, as the machine's file leaves with its last name. The rest is left alone.
pub record IsGone (old new : VolumeView) (was now : Mounted) (n dir : ℕ) (parent : Node) (name : FileName) : Type 0 where
  pub calls : IsGoneByCalls old new (marks_of was) (marks_of now) n dir name
  pub sound : IsSound new
  pub right : AreRight new (marks_of now)
  pub can : CanSet new dir parent
  pub last : is_last_name (read old) (link_for n name) ≡ true
  pub reads : read new ≡ without_node n (without_link (link_for n name) (read old))
  pub leaves_file : (moment : ℕ) → read new ≡ leave_file moment (link_for n name) (read old)
  pub stored : AreStored new now.clusters now.records now.upcase
  pub leaves : LeavesOthers old new n dir
