-- WHAT A RUN OF LINES DID on an accepted volume, those of a script or drawn ones. It begins on its image; each line is a turn of a session,
-- with the reply of the tree's machine, and its image is settled; how it ended tells which lines there were, what was printed, and what
-- is left on the disk.
use Rattle.std.specs.Prelude.{◌≡◌, ◌⊎◌, ◌++◌, ℕ, List, [], ◌∷◌, Bool, true, false, Option, Some, MatchBool, take}
use Rattle.vol_disk.specs.Contents.{map_told}
use Rattle.vol_disk.specs.Count.{Rose}
use Rattle.vol_disk.specs.Stream.{IsAppended}
use Rattle.cmd_lang.specs.Printed.{text_of}
use Rattle.script_lines.specs.Reading.{AreAllLines, AreEndedLines, AreFirstLines, AreMostLines}
use Rattle.session_def.specs.Session.{IsCutShort, Session, Turn, has_edit, images_of, last_of}
use Rattle.session_def.specs.State.{Begins, State}
use Rattle.script_run.specs.declared.end.ScriptEnd.{ScriptEnd}
use Rattle.script_run.specs.declared.end.ScriptEnd.TheVariants as end
use Rattle.volume_mark.specs.Closing.{Closes, CountsClosing}
use Rattle.volume_mark.specs.Mark.{IsHarmed}
use Rattle.script_run.specs.Drawn.{AreDrawn, IsNextDrawn, PrintsSummary}
use Rattle.script_run.specs.Says.{Origin, Says, lines_of, of_script, of_seed, printed_of}
use Rattle.script_run.specs.World.{NoFaults, World}

-- The count that rose says how a script ended, as in the program's other words. Beside the disk's the source's or the sink's may
-- have risen too, but not both.
abbrev pub BlamesEnd : ScriptEnd → World → World → Type 0
BlamesEnd end.Done old new = NoFaults old new
BlamesEnd end.Source old new =
    (new.disk_faults ≡ old.disk_faults) × Rose old.source_faults new.source_faults × (new.sink_faults ≡ old.sink_faults)
BlamesEnd end.Sink old new =
    (new.disk_faults ≡ old.disk_faults) × (new.source_faults ≡ old.source_faults) × Rose old.sink_faults new.sink_faults
BlamesEnd end.Device old new =
    Rose old.disk_faults new.disk_faults × ((new.source_faults ≡ old.source_faults) ⊎ (new.sink_faults ≡ old.sink_faults))
BlamesEnd end.Memory old new = NoFaults old new
BlamesEnd end.TooMuch old new = NoFaults old new

-- the disk failed
abbrev pub is_broken : ScriptEnd → Bool
is_broken end.Done = false
is_broken end.Source = false
is_broken end.Sink = false
is_broken end.Device = true
is_broken end.Memory = false
is_broken end.TooMuch = false

-- Which lines of a text were taken. An end by the sink, the disk or memory takes some, from the first.
abbrev pub AreScriptLines : ScriptEnd → List ℕ → List (List ℕ) → Option (List ℕ) → Type 0
AreScriptLines end.Done text lines left = AreAllLines text lines left
AreScriptLines end.Source text lines left = AreEndedLines text lines left
AreScriptLines end.TooMuch text lines left = AreMostLines text lines left
AreScriptLines end.Sink text lines left = AreFirstLines text lines
AreScriptLines end.Device text lines left = AreFirstLines text lines
AreScriptLines end.Memory text lines left = AreFirstLines text lines

-- EVERY RUN: which lines had a turn, and which line comes behind such lines.
abbrev pub AreLines : Origin → ScriptEnd → List (List ℕ) → Option (List ℕ) → Type 0
AreLines (of_script text) given lines left = AreScriptLines given text lines left
AreLines (of_seed seed count) given lines left = AreDrawn given seed count lines

abbrev pub IsNextLine : Origin → List (List ℕ) → List ℕ → Type 0
IsNextLine (of_script text) lines line = AreFirstLines text (lines ++ line ∷ [])
IsNextLine (of_seed seed count) lines line = IsNextDrawn seed count lines line

-- The output failed at the last reply: those before it were printed, and a part of it from its front.
pub record IsCutOff (turns : List Turn) (before after : Option (List ℕ)) : Type 0 where
  pub whole : List Turn
  pub last : Turn
  pub are : turns ≡ whole ++ last ∷ []
  pub part : ℕ
  pub printed : IsAppended before (printed_of whole ++ take part (text_of last.answer)) after

-- What was printed of the replies: all of them, and only where the sink failed a part of the last one. Where the disk failed in the
-- end, the sink's count tells which.
abbrev pub PrintsReplies : ScriptEnd → List Turn → World → World → Type 0
PrintsReplies end.Sink turns old new = IsCutOff turns old.got new.got
PrintsReplies end.Device turns old new = ((new.sink_faults ≡ old.sink_faults) × IsAppended old.got (printed_of turns) new.got)
    ⊎ (Rose old.sink_faults new.sink_faults × IsCutOff turns old.got new.got)
PrintsReplies end.Done turns old new = IsAppended old.got (printed_of turns) new.got
PrintsReplies end.Source turns old new = IsAppended old.got (printed_of turns) new.got
PrintsReplies end.Memory turns old new = IsAppended old.got (printed_of turns) new.got
PrintsReplies end.TooMuch turns old new = IsAppended old.got (printed_of turns) new.got

-- What was printed: of a script each reply, of drawn lines what they come to.
abbrev pub IsPrinted : Origin → ScriptEnd → State → List Turn → World → World → Type 0
IsPrinted (of_script text) given first turns old new = PrintsReplies given turns old new
IsPrinted (of_seed seed count) given first turns old new = PrintsSummary given count (last_of first turns) turns old new

-- HOW A DEVICE FAULT CAME: while the volume was taken into use, before the first line; in a line behind those that have a turn; or
-- while a volume that was marked was closed, behind an end of the lines.
pub record BrokeAtStart (first : State) (turns : List Turn) (now : Option (List ℕ)) : Type 0 where
  pub none : turns ≡ []
  pub same : now ≡ Some first.image

pub record BrokeInLine (from : Origin) (first : State) (turns : List Turn) (now : Option (List ℕ)) : Type 0 where
  pub line : List ℕ
  pub taken : IsNextLine from (lines_of turns) line
  pub cut : IsCutShort (Says from) (last_of first turns) line now

pub record BrokeInClosing (from : Origin) (turns : List Turn) (left : Option (List ℕ)) : Type 0 where
  pub behind : ScriptEnd
  pub ended : is_broken behind ≡ false
  pub lines : AreLines from behind (lines_of turns) left
  pub marked : has_edit turns ≡ true

-- What it leaves: a volume that is marked, or whole. Nothing is settled behind the images of the lines.
pub record Breaks (from : Origin) (first : State) (turns : List Turn) (finals : List (List ℕ)) (new : World) : Type 0 where
  pub none : finals ≡ []
  pub harmed : IsHarmed first.view (last_of first turns).machine.tree new.now
  pub came : BrokeAtStart first turns new.now ⊎ (BrokeInLine from first turns new.now ⊎ BrokeInClosing from turns new.left)

-- What any other end leaves, and how many sectors were written.
pub record Ends (first : State) (turns : List Turn) (finals : List (List ℕ)) (new : World) : Type 0 where
  pub closes : Closes first.view (last_of first turns) (has_edit turns) finals new.now
  pub count : CountsClosing (has_edit turns) (last_of first turns).written new.written

abbrev pub Leaves : Origin → ScriptEnd → State → List Turn → List (List ℕ) → World → Type 0
Leaves from given first turns finals new = MatchBool (is_broken given) (Breaks from first turns finals new) (Ends first turns finals new)

-- the images that were settled before, those of the lines, and the final one where there is one
abbrev pub Settles : List Turn → List (List ℕ) → World → World → Type 0
Settles turns finals old new = new.settled ≡ map_told (λ past. past ++ images_of turns ++ finals) old.settled

-- THE RUN of these lines on this image, which ended so. It begins with the disk's count of sectors written.
pub record Ran (image : List ℕ) (from : Origin) (given : ScriptEnd) (old new : World) : Type 0 where
  pub first : State
  pub on_image : first.image ≡ image
  pub from_count : first.written ≡ old.written
  pub begins : Begins first
  pub turns : List Turn
  pub session : Session (Says from) first turns
  pub lines : AreLines from given (lines_of turns) new.left
  pub printed : IsPrinted from given first turns old new
  pub finals : List (List ℕ)
  pub settled : Settles turns finals old new
  pub leaves : Leaves from given first turns finals new
