-- How a word that only reads is answered: by lines, or by the line that refuses the volume, or by the one on a volume that
-- was not closed.
use Rattle.std.specs.Prelude.{◌≡◌, ℕ, List, Option}
use Rattle.vol_disk.specs.Contents.{WhereTold}
use Rattle.vol_disk.specs.Stream.{IsAppended, IsAppendedPart}
use Rattle.shell.specs.declared.ending.Ending.{Ending}
use Rattle.shell.specs.declared.ending.Ending.TheVariants as ending
use Rattle.shell.specs.declared.refusal.Refusal.{Refusal}
use Rattle.shell.specs.Ending.{status_of}
use Rattle.shell.specs.Text.{dirty_text, refusal_text}
use Rattle.shell.specs.World.{World, OnlyReads, Blames}

-- what the word has to say of an image
pub data Report : Type 0 where
  says : List ℕ → Report
  refuses : Refusal → Report
  unclosed : Report

-- what is printed of it
abbrev pub text_of : Report → List ℕ
text_of (says text) = text
text_of (refuses refusal) = refusal_text refusal
text_of unclosed = dirty_text

-- how a run ends that prints all of it
abbrev pub ending_of : Report → Ending
ending_of (says text) = ending.Done
ending_of (refuses refusal) = ending.Refused
ending_of unclosed = ending.Refused

-- All of the report was printed, and the run ended as it calls for.
pub record PrintsAll (report : Report) (given : Ending) (before after : Option (List ℕ)) : Type 0 where
  pub ends : given ≡ ending_of report
  pub text : IsAppended before (text_of report) after

-- The sink was left alone.
pub record LeavesSink (old new : World) : Type 0 where
  pub got : new.got ≡ old.got
  pub sink_faults : new.sink_faults ≡ old.sink_faults

-- What the sink got, where it tells it, by how the run ended: all of the text of the image's report, a
-- part from the front where the sink failed, and nothing where the disk failed or memory ran out.
abbrev pub IsReported : (Report → Type 0) → Ending → World → World → Type 0
IsReported IsReport ending.Done old new = (report : Report) × IsReport report × PrintsAll report ending.Done old.got new.got
IsReported IsReport ending.Refused old new = (report : Report) × IsReport report × PrintsAll report ending.Refused old.got new.got
IsReported IsReport ending.Sink old new = (report : Report) × IsReport report × IsAppendedPart old.got (text_of report) new.got
IsReported IsReport ending.Device old new = LeavesSink old new
IsReported IsReport ending.Memory old new = LeavesSink old new
IsReported IsReport ending.Source old new = ⊥
IsReported IsReport ending.TooMuch old new = ⊥

-- A word that only reads ended so. What it prints is told by the image alone, where the disk tells its
-- contents.
pub record ReportEnds (Reports : List ℕ → Report → Type 0) (ending : Ending) (old new : World) : Type 0 where
  pub causes : Blames ending old new
  pub only_reads : OnlyReads old new
  pub reported : IsReported (λ report. WhereTold old.now (λ image. Reports image report)) ending old new

-- the status is that of such an ending
abbrev pub AnswersReport : (List ℕ → Report → Type 0) → World → ℕ → World → Type 0
AnswersReport Reports old status new = (ending : Ending) × (status ≡ status_of ending) × ReportEnds Reports ending old new
