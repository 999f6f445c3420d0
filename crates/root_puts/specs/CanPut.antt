-- A directory whose root can be written: what the call asks for.
use Rattle.volume_def.specs.Coverage.{IsApart}
use Rattle.volume_def.specs.View.{VolumeView}
use Rattle.file_record.specs.declared.parts.FileParts.{FileParts}
use Rattle.file_record.specs.Held.{file_number}
use Rattle.file_record.specs.Written.{IsWholeFile}
use Rattle.edit_def.specs.Marks.{Marks}
use Rattle.record_edits.specs.Between.{IsReady}
use Rattle.record_calls.specs.Calls.{IsInOneRecord}
use Rattle.dir_index.specs.Standard.{IsInitialized}

-- The volume stands as between two calls, and its clusters lie apart; the directory is held whole, has one record, which may be edited, and
-- that lies in what was written of the table.
pub record CanPutInRoot (view : VolumeView) (marks : Marks) (file : FileParts) : Type 0 where
  pub ready : IsReady view marks
  pub one : IsInOneRecord view (file_number file)
  pub whole : IsWholeFile view file
  pub apart : IsApart view.layout
  pub initialized : IsInitialized view (file_number file)
