-- A run so far.
use Rattle.std.specs.Prelude.{◌≡◌, ◌++◌, ℕ, List, Option, false, is_some, MatchBool}
use Rattle.vol_disk.specs.Count.{Rose}
use Rattle.vol_disk.specs.declared.Disk as disk
use Rattle.vol_disk.specs.declared.Source as source
use Rattle.vol_disk.specs.Contents.{map_told}
use Rattle.vol_disk.specs.Stream.{IsAppended}
use Rattle.script_lines.specs.declared.reader.LineReader.{LineReader}
use Rattle.script_lines.specs.Reading.{HasRead}
use Rattle.session_def.specs.State.{State}
use Rattle.session_def.specs.Session.{Session, Turn, images_of, last_of}
use Rattle.tree_ops.specs.declared.volume.Volume.{Volume}
use Rattle.tree_ops.specs.Runs.{Ready}
use Rattle.tree_ops.specs.Volumes.{disk_under, mark_of}
use Rattle.script_run.specs.declared.end.ScriptEnd.{ScriptEnd}
use Rattle.script_run.specs.declared.end.ScriptEnd.TheVariants as end
use Rattle.session_def.specs.Session.{has_edit}
use Rattle.volume_mark.specs.Mark.{IsHarmed}
use Rattle.script_run.specs.Drawn.{SummaryAt}
use Rattle.script_run.specs.Ran.{AreLines, BlamesEnd, BrokeInLine, IsCutOff, is_broken}
use Rattle.script_run.specs.Says.{Origin, Says, SaysLine, lines_of, of_script, of_seed, printed_of}
use Rattle.script_run.specs.World.{World}

-- Between two lines.
pub record SoFar {D S : Type 0} (g : disk.Ghosts D) (s : source.Ghosts S) (first : State) (text : List ℕ) (before : Option (List ℕ))
    (past : Option (List (List ℕ))) (volume : Volume D g) (script : S) (got : Option (List ℕ)) (reader : LineReader) : Type 0 where
  pub turns : List Turn
  pub session : Session SaysLine first turns
  pub marked : is_some (mark_of g volume) ≡ has_edit turns
  pub ready : Ready g first.view volume (last_of first turns)
  pub settled : g.settled (disk_under g volume) ≡ map_told (λ images. images ++ images_of turns) past
  pub printed : IsAppended before (printed_of turns) got
  pub lines : HasRead s text (lines_of turns) reader script

-- The count that rose says how the lines ended. Where the disk failed among them, no other count rose.
abbrev pub BlamesLines : ScriptEnd → World → World → Type 0
BlamesLines end.Device old new =
    Rose old.disk_faults new.disk_faults × (new.source_faults ≡ old.source_faults) × (new.sink_faults ≡ old.sink_faults)
BlamesLines end.Done old new = BlamesEnd end.Done old new
BlamesLines end.Source old new = BlamesEnd end.Source old new
BlamesLines end.Sink old new = BlamesEnd end.Sink old new
BlamesLines end.Memory old new = BlamesEnd end.Memory old new
BlamesLines end.TooMuch old new = BlamesEnd end.TooMuch old new

-- what was printed at the end of the lines
abbrev pub RepliesAt : ScriptEnd → Option (List ℕ) → List Turn → Option (List ℕ) → Type 0
RepliesAt end.Sink before turns got = IsCutOff turns before got
RepliesAt end.Done before turns got = IsAppended before (printed_of turns) got
RepliesAt end.Source before turns got = IsAppended before (printed_of turns) got
RepliesAt end.Device before turns got = IsAppended before (printed_of turns) got
RepliesAt end.Memory before turns got = IsAppended before (printed_of turns) got
RepliesAt end.TooMuch before turns got = IsAppended before (printed_of turns) got

abbrev pub PrintsAt : Origin → ScriptEnd → State → Option (List ℕ) → List Turn → Option (List ℕ) → Type 0
PrintsAt (of_script text) given first before turns got = RepliesAt given before turns got
PrintsAt (of_seed seed count) given first before turns got = SummaryAt given count (last_of first turns) turns before got

-- how the volume stands there, behind these turns
abbrev pub StandsAt : {D : Type 0} (g : disk.Ghosts D) → Origin → ScriptEnd → State → Volume D g → List Turn → Type 0
StandsAt g from given first volume turns = MatchBool (is_broken given)
    (IsHarmed first.view (last_of first turns).machine.tree (g.now (disk_under g volume))
    × BrokeInLine from first turns (g.now (disk_under g volume)))
    (Ready g first.view volume (last_of first turns))

-- The lines have ended, and the volume is not closed. Those that had a turn are some from the first, whatever the disk does in the closing.
pub record RanLines {D : Type 0} (g : disk.Ghosts D) (first : State) (from : Origin) (before : Option (List ℕ))
    (past : Option (List (List ℕ))) (given : ScriptEnd) (volume : Volume D g) (left got : Option (List ℕ)) : Type 0 where
  pub turns : List Turn
  pub session : Session (Says from) first turns
  pub marked : is_broken given ≡ false → is_some (mark_of g volume) ≡ has_edit turns
  pub lines : AreLines from given (lines_of turns) left
  pub first_lines : AreLines from end.Device (lines_of turns) left
  pub settled : g.settled (disk_under g volume) ≡ map_told (λ images. images ++ images_of turns) past
  pub printed : PrintsAt from given first before turns got
  pub stands : StandsAt g from given first volume turns
