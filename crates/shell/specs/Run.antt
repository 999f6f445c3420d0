-- How lines ended that were run on the image.
use Rattle.std.specs.Prelude.{◌≡◌, ℕ, List, Option, Some}
use Rattle.script_run.specs.declared.end.ScriptEnd.{ScriptEnd}
use Rattle.script_run.specs.declared.end.ScriptEnd.TheVariants as script
use Rattle.script_run.specs.Ran.{Ran}
use Rattle.script_run.specs.Says.{Origin, of_script, of_seed}
use Rattle.shell.specs.declared.ending.Ending.{Ending}
use Rattle.shell.specs.declared.ending.Ending.TheVariants as ending
use Rattle.shell.specs.Check.{AcceptsImage, CheckReports}
use Rattle.shell.specs.Ending.{status_of}
use Rattle.shell.specs.Report.{ReportEnds}
use Rattle.shell.specs.World.{Blames, World}

-- the ending of a run by that of its script
abbrev pub ending_of_script : ScriptEnd → Ending
ending_of_script script.Done = ending.Done
ending_of_script script.Source = ending.Source
ending_of_script script.Sink = ending.Sink
ending_of_script script.Device = ending.Device
ending_of_script script.Memory = ending.Memory
ending_of_script script.TooMuch = ending.TooMuch

-- The lines were run on the image, and ended so.
pub record RunsLines (image : List ℕ) (from : Origin) (given : Ending) (old new : World) : Type 0 where
  pub ended : ScriptEnd
  pub is : given ≡ ending_of_script ended
  pub ran : Ran image from ended old new

-- The lines are those of the script that a source has left.
abbrev pub AreLeft : Option (List ℕ) → Origin → Type 0
AreLeft left (of_script text) = left ≡ Some text
AreLeft left (of_seed seed count) = ⊥

-- A WORD THAT RUNS LINES ended so. On an image that the volume definition accepts they were run; any other is refused as `check` says, and
-- nothing is taken from the source. No write is asked for once a call of the disk has failed, and the disk stays as large.
pub record RunEnds (Are : Origin → Type 0) (given : Ending) (old new : World) : Type 0 where
  pub causes : Blames given old new
  pub on_time : old.disk_faults ≡ 0 → new.late ≡ old.late
  pub sectors : new.sectors ≡ old.sectors
  pub ran : (image : List ℕ) (from : Origin) → old.now ≡ Some image → Are from → AcceptsImage image → RunsLines image from given old new
  pub refused : (image : List ℕ) → old.now ≡ Some image → ¬ (AcceptsImage image) → ReportEnds CheckReports given old new

-- the status is that of such an ending of the word run
abbrev pub AnswersRun : World → ℕ → World → Type 0
AnswersRun old status new = (given : Ending) × (status ≡ status_of given) × RunEnds (AreLeft old.left) given old new
