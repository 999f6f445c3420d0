-- How a run ends that was asked for a new volume.
use Rattle.std.specs.Prelude.{◌≡◌, ◌⊎◌, ◌≤◌, ℕ, List, is_some}
use Rattle.vol_disk.specs.Contents.{WhereTold, sector_in, settled_more}
use Rattle.vol_disk.specs.Stream.{IsAppended, IsAppendedPart}
use Rattle.volume_format.specs.Formatted.{IsNewVolume}
use Rattle.volume_format.specs.Options.{AreInRange, Options, clusters_in, plan_of}
use Rattle.volume_format.specs.Plan.{items_end}
use Rattle.volume_format.specs.Written.{sector_at}
use Rattle.shell.specs.declared.ending.Ending.{Ending}
use Rattle.shell.specs.declared.ending.Ending.TheVariants as ending
use Rattle.shell.specs.Ending.{status_of}
use Rattle.shell.specs.Report.{LeavesSink}
use Rattle.shell.specs.Text.{formatted_text, options_text}
use Rattle.shell.specs.World.{World, Blames, KeepsDisk}

-- The options are in their ranges, and the disk holds a new volume with them, where it tells what it holds. It is the last
-- that was settled.
pub record Makes (o : Options) (old new : World) : Type 0 where
  pub in_range : AreInRange old.sectors o
  pub volume : WhereTold new.now (IsNewVolume o old.sectors)
  pub settled : new.settled ≡ settled_more old.settled new.now

-- An option is out of its range, and the disk is as it was.
pub record Declines (o : Options) (old new : World) : Type 0 where
  pub out_of_range : ¬ (AreInRange old.sectors o)
  pub kept : KeepsDisk old new

-- the line that is printed of a volume that was made
abbrev pub made_text : Options → List ℕ
made_text o = formatted_text (clusters_in o.sectors o.cluster)

-- What was done and what the sink got, by how the run ended: all of a line, a part of it from the front where the sink failed,
-- and nothing where the disk failed or memory ran out.
abbrev pub IsAnswered : Options → Ending → World → World → Type 0
IsAnswered o ending.Done old new = Makes o old new × IsAppended old.got (made_text o) new.got
IsAnswered o ending.Refused old new = Declines o old new × IsAppended old.got options_text new.got
IsAnswered o ending.Sink old new =
    (Makes o old new × IsAppendedPart old.got (made_text o) new.got)
    ⊎ (Declines o old new × IsAppendedPart old.got options_text new.got)
IsAnswered o ending.Device old new = AreInRange old.sectors o × LeavesSink old new
IsAnswered o ending.Memory old new = KeepsDisk old new × LeavesSink old new
IsAnswered o ending.Source old new = ⊥
IsAnswered o ending.TooMuch old new = ⊥

-- The word ended so. Whatever the ending, it takes nothing from the source, reads nothing from the disk, and leaves the
-- sectors behind the volume's items.
pub record FormatEnds (o : Options) (ending : Ending) (old new : World) : Type 0 where
  pub causes : Blames ending old new
  pub answered : IsAnswered o ending old new
  pub others : (sector : ℕ) → sector_at (plan_of o) (items_end (plan_of o)) ≤ sector
      → sector_in new.now sector ≡ sector_in old.now sector
  pub told : is_some new.now ≡ is_some old.now
  pub fenced : new.fenced ≡ old.fenced
  pub sectors : new.sectors ≡ old.sectors
  pub fetched : new.fetched ≡ old.fetched
  pub left : new.left ≡ old.left
  pub source_faults : new.source_faults ≡ old.source_faults

-- the status is that of such an ending
abbrev pub AnswersFormat : Options → World → ℕ → World → Type 0
AnswersFormat o old status new = (ending : Ending) × (status ≡ status_of ending) × FormatEnds o ending old new
