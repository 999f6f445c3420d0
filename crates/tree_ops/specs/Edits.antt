-- WHICH EDITS ARE BUILT, when one can be done on a volume, and what it leaves of the table of records and of its disk.
use Rattle.std.specs.Prelude.{◌≡◌, ◌⊎◌, ◌+◌, ◌*◌, ◌/◌, ◌^◌, ◌≤◌, ◌&&◌, ℕ, true, false, find, All, Bool, IfSome}
use Rattle.std.specs.Prelude.{IsTrue, List, [], Option, None, Some, Result}
use Rattle.std.specs.Prelude.{Ok, Err}
use Rattle.std.specs.Prelude.{length, slice_set}
use Rattle.vol_disk.specs.Contents.{IsTold, WhereTold, sector_in}
use Rattle.vol_disk.specs.declared.Disk.{Ghosts}
use Rattle.vol_stage.specs.Staged.{GoesOn, disk_of, image, places}
use Rattle.volume_def.specs.FileNames.{names_of}
use Rattle.volume_def.specs.Files.{records_of}
use Rattle.volume_def.specs.View.{VolumeView}
use Rattle.mark_write.specs.Finish.{Finishes}
use Rattle.mark_write.specs.Flags.{IsCopySet, IsSafe, IsSet, LiesAt}
use Rattle.mark_write.specs.Logs.{span_sectors}
use Rattle.mark_write.specs.declared.flag.Flag.{Flag}
use Rattle.mft_table.specs.declared.mft.Mft.{Mft}
use Rattle.mft_table.specs.InUse.{IsInUse}
use Rattle.mft_table.specs.MirrorClusters.{IsMirrorInside}
use Rattle.mft_table.specs.Mft.{KeepsDisk, committed_of, is_mft_broken, mounted_of, stage_of, view}
use Rattle.made_done.specs.LogSpans.{AreLogSpans, log_sectors}
use Rattle.tree_model.specs.Facts.{IsVolumeOf, is_whole_table}
use Rattle.tree_model.specs.Opens.{contains, is_handle, to_write}
use Rattle.tree_model.specs.Reading.{read}
use Rattle.tree_model.specs.Subjects.{stream_name}
use Rattle.tree_model.specs.declared.command.Command.{Command}
use Rattle.tree_model.specs.declared.command.Command.TheVariants as c
use Rattle.tree_model.specs.declared.opens.OpenEntry.{OpenEntry}
use Rattle.tree_model.specs.declared.reply.No.{No}
use Rattle.tree_model.specs.declared.reply.No.TheVariants as no
use Rattle.session_def.specs.Cost.{given_back}
use Rattle.session_def.specs.Done.{HasEmptyLog}
use Rattle.volume_mark.specs.Mark.{IsFlagOf}
use Rattle.made_done.specs.Below.{PunchesValue, PutsStream, ResizesStream, SetsAttributes, SetsSecurity, no_gain}
use Rattle.tree_read.specs.declared.stop.Stop.{Stop}
use Rattle.tree_read.specs.declared.stop.Stop.TheVariants as stop
use Rattle.stream_changes.specs.Below.{IsFoundToEdit, IsSecurable, IsSettable, Securable, Settable, StagesFew}
use Rattle.stream_changes.specs.Below.{TellsStored, Way, Writable, can_get, can_go, can_punch, can_write, drop_wanted}
use Rattle.stream_changes.specs.Below.{hwrite_wanted, punch_wanted, resize_wanted, secure_wanted, settable, write_wanted}
use Rattle.stream_changes.specs.Staged.{IsOfGiving, StagesGiving}
use Rattle.stream_changes.specs.Streams.{WritesSo}
use Rattle.tree_read.specs.Nodes.{number_of}
use Rattle.tree_read.specs.Standings.{number_within}
use Rattle.name_changes.specs.Places.{place_of, place_wanted}
use Rattle.name_changes.specs.NewPlace.{NewPlace}
use Rattle.made_done.specs.MadeOwed.{made_sectors}
use Rattle.name_changes.specs.Makes.{make_wanted}
use Rattle.name_changes.specs.MakesFound.{MakesFound}
use Rattle.name_changes.specs.Staged.{IsOfMaking}
use Rattle.tree_ops.specs.Tables.{KeepsTables}
use Rattle.tree_ops.specs.declared.edit.Edit.{Edit}
use Rattle.tree_ops.specs.declared.edit.Edit.TheVariants as e
use Rattle.tree_ops.specs.declared.streams.StreamEdit.{StreamEdit}
use Rattle.tree_ops.specs.declared.streams.StreamEdit.TheVariants as s
use Rattle.tree_ops.specs.declared.place.MarkPlace.{MarkPlace}

-- the command that is done so
abbrev pub command_of : Edit → Command
command_of (e.Setattr path flags) = c.Setattr path.now flags
command_of (e.Write path stream at bytes) = c.Write path.now stream.now at bytes.now
command_of (e.Hwrite handle at bytes) = c.Hwrite handle at bytes.now
command_of (e.Truncate path stream size) = c.Truncate path.now stream.now size
command_of (e.Punch path stream at len) = c.Punch path.now stream.now at len
command_of (e.Rmstream path name) = c.Rmstream path.now name.now
command_of (e.Create path) = c.Create path.now
command_of (e.Mkdir path) = c.Mkdir path.now
command_of (e.Setsec path id) = c.Setsec path.now id

-- THE MARK stands in two sectors of a disk of this size, which holds these bytes, and is set in both.
pub record HasMark (size : ℕ) (now : Option (List ℕ)) (flag : Flag) : Type 0 where
  pub place : LiesAt size flag
  pub set : IsTold now → IsSet flag (sector_in now)
  pub copied : IsTold now → IsCopySet flag (sector_in now)

-- It is that of the volume, whose log is empty.
pub record IsMarkOf (view : VolumeView) (flag : Flag) : Type 0 where
  pub there : IsFlagOf view flag
  pub log : HasEmptyLog view

-- NOTHING IS STAGED, the tables are those of the last commit, and no write failed.
pub record IsClear {D : Type 0} (g : Ghosts D) (mft : Mft D g) : Type 0 where
  pub tells : image g (stage_of g mft) ≡ g.now (disk_of g (stage_of g mft))
  pub whole : is_mft_broken g mft ≡ false
  pub plain : places g (stage_of g mft) ≡ []
  pub tables : committed_of g mft ≡ mounted_of g mft

-- AN EDIT CAN BE DONE. Where the disk tells its contents they are a sound volume, and the tables that are kept are its own. The copies of
-- the first records lie on the volume, whatever the disk tells, so that records can be written. Nothing is staged. A volume that was edited
-- is marked, and its log is empty.
pub record CanEdit {D : Type 0} (g : Ghosts D) (mft : Mft D g) (mark : Option Flag) : Type 0 where
  pub in_use : IsInUse g mft
  pub bytes : WhereTold (image g (stage_of g mft)) (λ all. IsVolumeOf all (view g mft))
  pub mirror : IsMirrorInside (mounted_of g mft)
  pub clear : IsClear g mft
  pub marked : IfSome mark (HasMark (g.size (disk_of g (stage_of g mft))) (g.now (disk_of g (stage_of g mft))))
  pub flag : IfSome mark (λ flag. IsTrue (view g mft).told → IsMarkOf (view g mft) flag)

-- WHERE THE MARK AND THE LOG LIE: as they are found where the volume is not marked, ..
pub record IsFound {D : Type 0} (g : Ghosts D) (mft : Mft D g) (place : MarkPlace) : Type 0 where
  pub unmarked : place.marked ≡ false
  pub flag : IsTrue (view g mft).told → IsFlagOf (view g mft) place.flag
  pub log : IsTrue (view g mft).told → AreLogSpans (view g mft) place.spans.items
  pub few : IsTrue (view g mft).told → span_sectors place.spans.items ≤ log_sectors (view g mft)

-- .. and where it is, there, with nothing to empty.
pub record IsKnown (flag : Flag) (place : MarkPlace) : Type 0 where
  pub marked : place.marked ≡ true
  pub same : place.flag ≡ flag
  pub none : place.spans.items ≡ []

abbrev pub IsPlaceBy : {D : Type 0} (g : Ghosts D) → Mft D g → Option Flag → MarkPlace → Type 0
IsPlaceBy g mft None place = IsFound g mft place
IsPlaceBy g mft (Some flag) place = IsKnown flag place

pub record IsPlaced {D : Type 0} (g : Ghosts D) (mft : Mft D g) (mark : Option Flag) (place : MarkPlace) : Type 0 where
  pub lies : LiesAt (g.size (disk_of g (stage_of g mft))) place.flag
  pub spans : All (λ span. span.first + span.len ≤ g.size (disk_of g (stage_of g mft))) place.spans.items
  pub by_mark : IsPlaceBy g mft mark place

-- What a call keeps that wrote nothing, and has nothing staged that was not so before.
pub record MftStill {D : Type 0} (g : Ghosts D) (old new : Mft D g) : Type 0 where
  pub keeps : KeepsDisk g old new
  pub image : image g (stage_of g new) ≡ image g (stage_of g old)
  pub places : places g (stage_of g new) ≡ places g (stage_of g old)

-- WHAT IS STAGED WAS WRITTEN behind the mark, and the tables are as of then.
pub record IsWritten {D : Type 0} (g : Ghosts D) (place : MarkPlace) (old new : Mft D g) : Type 0 where
  pub finishes : Finishes g place.flag place.marked place.spans.items (stage_of g old) (stage_of g new)
  pub committed : committed_of g new ≡ mounted_of g old

-- WHAT AN EDIT IS of a volume: the number of the file that it finds, or the refusal; what it does to that file, or in that directory; which
-- sectors it stages, of the volume before; and how many at most, by the volume before, that behind, and the file.
pub record EditOf : Type 1 where
  pub wanted : VolumeView → Result ℕ No
  pub Does : VolumeView → VolumeView → ℕ → Type 0
  pub Of : VolumeView → ℕ → ℕ → Type 0
  pub most : VolumeView → VolumeView → ℕ → ℕ

-- Of an edit of a file that is there: so many sectors, twelve for each name of the file, and two for each cluster that is given back, or
-- taken.
abbrev pub most_giving : ℕ → VolumeView → VolumeView → ℕ → ℕ
most_giving most old new file =
    most + 12 * length (names_of (records_of old) file) + 2 * given_back old new + 2 * given_back new old

-- `setattr`: the flags of the file were set, and the moment as the time at which its record was changed
pub record SetsFound (old new : VolumeView) (file flags moment : ℕ) : Type 0 where
  pub found : Settable
  pub file_is : found.number ≡ file
  pub can : IsSettable old found
  pub sets : SetsAttributes old new file (slice_set found.times 2 moment) flags

abbrev pub setattr_edit : List (List ℕ) → ℕ → ℕ → EditOf
setattr_edit path flags moment = record {
  wanted = λ view. settable (is_whole_table view) (read view) path;
  Does = λ old new file. SetsFound old new file flags moment;
  Of = IsOfGiving;
  most = most_giving 4;
}

-- `write`, `punch`, `truncate` and `rmstream`: AN EDIT OF A STREAM. The command that it is by a path and a stream, ..
abbrev pub stream_command : StreamEdit → List (List ℕ) → Option (List ℕ) → Command
stream_command (s.Write from bytes) path stream = c.Write path stream from bytes.now
stream_command (s.Punch from len) path stream = c.Punch path stream from len
stream_command (s.Resize size) path stream = c.Truncate path stream size
stream_command s.Remove path stream = c.Rmstream path (stream_name stream)

-- .. whether the stream of this name of a file can be edited so, this way, and what is wanted of the file that the path leads to
abbrev pub can_edit_so : StreamEdit → VolumeView → List ℕ → Way → ℕ → Bool
can_edit_so (s.Write from bytes) view name way file = can_write view name from (length bytes.now) way file
can_edit_so (s.Punch from len) view name way file = can_punch view name file
can_edit_so (s.Resize size) view name way file = can_get view name size way file
can_edit_so s.Remove view name way file = can_go view name way file

abbrev pub stream_wanted : StreamEdit → VolumeView → List OpenEntry → List (List ℕ) → List ℕ → Result ℕ No
stream_wanted (s.Write from bytes) view opens path name = write_wanted view opens path name from (length bytes.now)
stream_wanted (s.Punch from len) view opens path name = punch_wanted view opens path name from len
stream_wanted (s.Resize size) view opens path name = resize_wanted view opens path name size
stream_wanted s.Remove view opens path name = drop_wanted view opens path name

-- it ends where a stream may end
abbrev pub IsNear : StreamEdit → Type 0
IsNear (s.Write from bytes) = from + length bytes.now ≤ 2 ^ 40
IsNear (s.Punch from len) = from + len ≤ 2 ^ 40
IsNear (s.Resize size) = size ≤ 2 ^ 40
IsNear s.Remove = Unit {0}

-- The stream that was found can be edited so.
abbrev pub IsFoundFor : StreamEdit → VolumeView → Writable → List ℕ → Type 0
IsFoundFor what view found name = IsFoundToEdit view found name (λ file. can_edit_so what view name found.way file)

-- It was edited so, where it had these bytes before; the file has these times and flags. A write went over bytes that lie in place, or the
-- stream has other bytes; zeros went over those in the range; it has another length; or it is gone.
abbrev pub EditsSo : StreamEdit → Way → VolumeView → VolumeView → ℕ → List ℕ → List ℕ → List ℕ → ℕ → Type 0
EditsSo (s.Write from bytes) way old new file name was times flags = WritesSo way from bytes.now old new file name was times flags
EditsSo (s.Punch from len) way old new file name was times flags = PunchesValue old new file name from len times flags
EditsSo (s.Resize size) way old new file name was times flags = ResizesStream old new file name size was times flags
EditsSo s.Remove way old new file name was times flags = PutsStream old new file name None no_gain 0 times flags

-- The stream of this name was edited so; the times are those of a write.
pub record EditsFound (what : StreamEdit) (old new : VolumeView) (file : ℕ) (name : List ℕ) (moment : ℕ) : Type 0 where
  pub found : Writable
  pub file_is : number_of found.held ≡ file
  pub can : IsFoundFor what old found name
  pub edits : EditsSo what found.way old new file can.stream.is.part.name can.stream.bytes
      (slice_set (slice_set found.times 1 moment) 2 moment)
      found.flags

-- how many sectors are staged of the records of a file of which a stream is edited, and of the bytes of a write
abbrev pub most_of_value : ℕ
most_of_value = 8

abbrev pub most_for : StreamEdit → ℕ
most_for (s.Write from bytes) = 12 + length bytes.now / 512
most_for (s.Resize size) = 11
most_for other = most_of_value

abbrev pub StagesSo : {D : Type 0} (g : Ghosts D) → StreamEdit → ℕ → Mft D g → Mft D g → Type 0
StagesSo g what f old new = StagesGiving g (most_for what) f (view g old) old new

abbrev pub stream_edit : StreamEdit → List OpenEntry → List (List ℕ) → List ℕ → ℕ → EditOf
stream_edit what opens path name moment = record {
  wanted = λ view. stream_wanted what view opens path name;
  Does = λ old new file. EditsFound what old new file name moment;
  Of = IsOfGiving;
  most = most_giving (most_for what);
}

-- `hwrite`: a write into the stream of an open
abbrev pub through_wanted : StreamEdit → VolumeView → List OpenEntry → ℕ → ℕ → Result ℕ No
through_wanted (s.Write from bytes) view opens session handle = hwrite_wanted view opens session handle from (length bytes.now)
through_wanted other view opens session handle = Err no.Unbuilt

pub record EditsThrough (what : StreamEdit) (opens : List OpenEntry) (session handle : ℕ) (old new : VolumeView) (file moment : ℕ)
    : Type 0 where
  pub entry : OpenEntry
  pub opened : find (λ (entry : OpenEntry). is_handle session handle entry && contains entry.access to_write) opens ≡ Some entry
  pub edits : EditsFound what old new file entry.stream moment

abbrev pub hwrite_edit : StreamEdit → List OpenEntry → ℕ → ℕ → ℕ → EditOf
hwrite_edit what opens session handle moment = record {
  wanted = λ view. through_wanted what view opens session handle;
  Does = λ old new file. EditsThrough what opens session handle old new file moment;
  Of = IsOfGiving;
  most = most_giving (most_for what);
}

-- `setsec`: the security id of the file was set, and the moment as the time at which its record was changed
pub record SecuresFound (old new : VolumeView) (file id moment : ℕ) : Type 0 where
  pub found : Securable
  pub file_is : found.number ≡ file
  pub can : IsSecurable old found
  pub sets : SetsSecurity old new file id (slice_set found.times 2 moment) found.flags

-- `described` says whether the volume has a descriptor of the id
abbrev pub setsec_edit : List (List ℕ) → ℕ → Bool → ℕ → EditOf
setsec_edit path id described moment = record {
  wanted = λ view. secure_wanted view described path;
  Does = λ old new file. SecuresFound old new file id moment;
  Of = IsOfGiving;
  most = most_giving most_of_value;
}

-- `create` and `mkdir`: a directory was found, and a name that is new in it, and the file, or the directory, was made there
pub record MakesNamed (directory : Bool) (old new : VolumeView) (dir : ℕ) (path : List (List ℕ)) (moment : ℕ) : Type 0 where
  pub found : NewPlace
  pub parent : number_within found.standing ≡ dir
  pub place : place_wanted (read old) path ≡ Ok (place_of found)
  pub makes : MakesFound directory old new found moment

abbrev pub create_edit : Bool → List (List ℕ) → ℕ → EditOf
create_edit directory path moment = record {
  wanted = λ view. make_wanted view directory path;
  Does = λ old new dir. MakesNamed directory old new dir path moment;
  Of = IsOfMaking;
  most = λ old new dir. made_sectors + 4 + 12 * length (names_of (records_of old) dir);
}

-- what is wanted of the volume is this
abbrev pub LeadsTo : {D : Type 0} (g : Ghosts D) → Mft D g → EditOf → Result ℕ No → Type 0
LeadsTo g mft edit result = IsTrue (view g mft).told → edit.wanted (view g mft) ≡ result

-- the refusal is the one that is due, or memory ran out
abbrev pub IsRefusedAs : {D : Type 0} (g : Ghosts D) → Mft D g → EditOf → No → Type 0
IsRefusedAs g mft edit refused = IsTrue (view g mft).told → (edit.wanted (view g mft) ≡ Err refused) ⊎ (refused ≡ no.Memory)

-- What was staged are sectors of the edit, of the volume before, and no more of them.
abbrev pub StagesBy : {D : Type 0} (g : Ghosts D) → EditOf → ℕ → VolumeView → Mft D g → Mft D g → Type 0
StagesBy g edit file before old new = StagesFew g (edit.most before (view g new) file) (edit.Of before file) old new

-- THE FILE WAS EDITED: it was found, what is done to it was staged, and that was written behind the mark.
pub record EditsFile {D : Type 0} (g : Ghosts D) (old new : Mft D g) (mark : Option Flag) (edit : EditOf) : Type 0 where
  pub file : ℕ
  pub leads : LeadsTo g old edit (Ok file)
  pub place : MarkPlace
  pub placed : IsPlaced g old mark place
  pub staged : Mft D g
  pub keeps : KeepsTables g old staged
  pub tables : TellsStored g staged
  pub does : IsTrue (view g old).told → edit.Does (view g old) (view g staged) file
  pub few : IsTrue (view g old).told → StagesBy g edit file (view g old) old staged
  pub finishes : Finishes g place.flag place.marked place.spans.items (stage_of g staged) (stage_of g new)
  pub goes_on : GoesOn g (stage_of g staged) (stage_of g new)
  pub written : g.written (disk_of g (stage_of g new))
      ≤ g.written (disk_of g (stage_of g old)) + 2 + span_sectors place.spans.items + length (places g (stage_of g staged))
  pub mounted : mounted_of g new ≡ mounted_of g staged
  pub committed : committed_of g new ≡ mounted_of g staged

-- The disk failed in the writing: the volume is marked, or as it was but for the mark. The edit was one that is due.
pub record FailsWriting {D : Type 0} (g : Ghosts D) (old new : Mft D g) (mark : Option Flag) (edit : EditOf) : Type 0 where
  pub file : ℕ
  pub leads : LeadsTo g old edit (Ok file)
  pub place : MarkPlace
  pub placed : IsPlaced g old mark place
  pub safe : IsTrue (view g old).told
      → IsSafe place.flag (sector_in (g.now (disk_of g (stage_of g old)))) (sector_in (g.now (disk_of g (stage_of g new))))

-- HOW AN EDIT ENDS: it was done; it was refused, and nothing was written; or the disk failed, before anything was written or within that.
abbrev pub EndsAs : {D A : Type 0} (g : Ghosts D) → Mft D g → Mft D g → Option Flag → Option Flag → EditOf → Result A Stop → Type 0
EndsAs g old new mark mark' edit (Ok done) =
    (edits : EditsFile g old new mark edit) × (mark' ≡ Some edits.place.flag)
EndsAs g old new mark mark' edit (Err (stop.No refused)) =
    MftStill g old new × (mark' ≡ mark) × IsRefusedAs g old edit refused
EndsAs g old new mark mark' edit (Err stop.Device) =
    (g.now (disk_of g (stage_of g new)) ≡ g.now (disk_of g (stage_of g old))) ⊎ FailsWriting g old new mark edit
