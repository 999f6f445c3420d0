-- THE LINK COUNT of a file is set: an edit of the header of its base record.
use Rattle.std.specs.Prelude.{ℕ, List, IsTrue}
use Rattle.ntfs_def.specs.Fixup.{opened_of}
use Rattle.volume_def.specs.Files.{is_base, record_of}
use Rattle.volume_def.specs.View.{VolumeView}
use Rattle.volume_edits.specs.Rewritten.{CountsLinks}
use Rattle.record_edits.specs.Between.{MayBeEdited}

-- The base record of file f counts so many links. Nothing else of the volume changed.
pub record CountsFileLinks (f links : ℕ) (old new : VolumeView) : Type 0 where
  pub stored : List ℕ
  pub counts : CountsLinks old new f stored links
  pub may : MayBeEdited f
  pub base : IsTrue (is_base (record_of f (opened_of (old.block f))))
