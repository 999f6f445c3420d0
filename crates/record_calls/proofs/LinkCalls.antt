-- Links counted in a base record, as an edit of its file.
use Rattle.std.proofs.Common.{ℕ, List}
use Rattle.std.specs.Prelude.{IsTrue}
use Rattle.ntfs_def.specs.Fixup.{opened_of}
use Rattle.volume_def.specs.Files.{is_base, record_of}
use Rattle.volume_def.specs.View.{VolumeView}
use Rattle.volume_edits.specs.Rewritten.{CountsLinks}
use Rattle.file_edits.specs.Between.{MayBeEdited}
use Rattle.file_edits.specs.Links.{CountsFileLinks}

pub counts-file : (f links : ℕ) (old new : VolumeView) (stored : List ℕ) → CountsLinks old new f stored links → MayBeEdited f
    → IsTrue (is_base (record_of f (opened_of (old.block f)))) → CountsFileLinks f links old new
counts-file f links old new stored counts may base = record { stored = stored; counts = counts; may = may; base = base }
