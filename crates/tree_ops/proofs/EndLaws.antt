-- HOW AN EDIT ENDS on the table of records: from what its calls give, one behind another.
use Rattle.std.proofs.Common.{◌≡◌, ◌⊎◌, ◌≤◌, ◌+◌, ℕ, List, [], length, Option, Some, None, Result, Ok, Err}
use Rattle.std.proofs.Common.{sym, subst, inr, ◌∙◌, arith}
use Rattle.std.specs.Prelude.{All, Contains, IfErr, IsTrue, OnErr, OnOk}
use Rattle.vol_disk.specs.Contents.{sector_in}
use Rattle.vol_disk.specs.declared.Disk.{Ghosts}
use Rattle.vol_stage.specs.Staged.{GoesOn, disk_of, places}
use Rattle.volume_def.specs.View.{VolumeView}
use Rattle.mark_write.specs.Finish.{FailsSafe}
use Rattle.mark_write.specs.Flags.{IsSafe, LiesAt}
use Rattle.mark_write.specs.Logs.{span_sectors}
use Rattle.mark_write.specs.declared.flag.Flag.{Flag}
use Rattle.mark_write.specs.declared.log.Span.{Span}
use Rattle.mft_table.specs.declared.mft.Mft.{Mft}
use Rattle.mft_table.specs.Mft.{mounted_of, stage_of, view}
use Rattle.made_done.specs.LogSpans.{AreLogSpans, log_sectors}
use Rattle.volume_mark.specs.Mark.{IsFlagOf}
use Rattle.stream_changes.specs.Below.{TellsStored}
use Rattle.tree_read.specs.declared.stop.Stop.{Stop}
use Rattle.tree_read.specs.declared.stop.Stop.TheVariants as stop
use Rattle.tree_ops.specs.Edits.{EditOf, EditsFile, EndsAs, FailsWriting, IsPlaceBy, IsPlaced, IsWritten, LeadsTo, MftStill, StagesBy}
use Rattle.tree_ops.specs.Tables.{KeepsTables}
use Rattle.tree_ops.specs.declared.place.MarkPlace.{MarkPlace}
use Rattle.tree_ops.proofs.StillLaws.{still-view}
use Rattle.tree_ops.proofs.TablesKept.{tables-behind}

-- WHAT WAS FOUND of a volume that calls only read is so of the volume before.
module _ {D : Type 0} (g : Ghosts D) (old mid : Mft D g) (still : MftStill g old mid) where
  back : (P : VolumeView → Type 0) → (IsTrue (view g mid).told → P (view g mid)) → IsTrue (view g old).told → P (view g old)
  back P known told =
      let same = still-view g old mid still in
      subst P same (known (subst (λ (v : VolumeView). IsTrue v.told) (sym same) told))

  placed-by : (mark : Option Flag) (place : MarkPlace) → IsPlaceBy g mid mark place → IsPlaceBy g old mark place
  placed-by None place by = record {
    unmarked = by.unmarked;
    flag = back (λ v. IsFlagOf v place.flag) by.flag;
    log = back (λ v. AreLogSpans v place.spans.items) by.log;
    few = back (λ v. span_sectors place.spans.items ≤ log_sectors v) by.few;
  }
  placed-by (Some flag) place by = by

  pub placed-back : (mark : Option Flag) (place : MarkPlace) → IsPlaced g mid mark place → IsPlaced g old mark place
  placed-back mark place placed = record {
    lies = subst (λ n. LiesAt n place.flag) still.keeps.goes_on.size placed.lies;
    spans = subst (λ n. All (λ (span : Span). span.first + span.len ≤ n) place.spans.items) still.keeps.goes_on.size placed.spans;
    by_mark = placed-by mark place placed.by_mark;
  }

  -- and what was staged on it was staged on that
  pub all-keeps : (staged : Mft D g) → KeepsTables g mid staged → KeepsTables g old staged
  all-keeps staged keeps = tables-behind g old mid staged still.keeps keeps

  -- what is staged apart from that before, of the volume before
  stages-from : (edit : EditOf) (f : ℕ) (v : VolumeView) (staged : Mft D g) → StagesBy g edit f v mid staged
      → StagesBy g edit f v old staged
  stages-from edit f v staged x = record {
    few = subst (λ xs. length (places g (stage_of g staged)) ≤ length xs + edit.most v (view g staged) f) still.places x.few;
    only = λ sector has. subst (λ xs. Contains xs sector ⊎ edit.Of v f sector) still.places (x.only sector has);
  }

  pub stages-back : (edit : EditOf) (f : ℕ) (staged : Mft D g) → (IsTrue (view g mid).told → StagesBy g edit f (view g mid) mid staged)
      → IsTrue (view g old).told → StagesBy g edit f (view g old) old staged
  stages-back edit f staged stages told =
      stages-from edit f (view g old) staged (back (λ v. StagesBy g edit f v mid staged) stages told)

  module _ (edit : EditOf) (file : ℕ) (staged : Mft D g) (keeps : KeepsTables g mid staged) (tables : TellsStored g staged)
      (does : IsTrue (view g mid).told → edit.Does (view g mid) (view g staged) file)
      (stages : IsTrue (view g mid).told → StagesBy g edit file (view g mid) mid staged)
      (mark : Option Flag) (leads : LeadsTo g old edit (Ok file)) (plain : places g (stage_of g old) ≡ [])
      (place : MarkPlace) (placed : IsPlaced g old mark place) (new : Mft D g)
      (mounted : mounted_of g new ≡ mounted_of g staged) (goes : GoesOn g (stage_of g staged) (stage_of g new)) where
    -- it was done
    ended-done : IsWritten g place staged new
        → g.written (disk_of g (stage_of g new)) ≤ g.written (disk_of g (stage_of g staged)) + 2 + span_sectors place.spans.items
        + length (places g (stage_of g staged)) → EditsFile g old new mark edit
    ended-done written wrote = record {
      file = file;
      leads = leads;
      place = place;
      placed = placed;
      staged = staged;
      keeps = all-keeps staged keeps;
      does = back (λ v. edit.Does v (view g staged) file) does;
      few = stages-back edit file staged stages;
      tables = tables;
      finishes = written.finishes;
      goes_on = goes;
      written = let same = (all-keeps staged keeps).written in omega (arith, same, wrote);
      mounted = mounted;
      committed = written.committed;
    }

    -- .. or the disk failed in it
    ended-failed : FailsSafe g place.flag (stage_of g staged) (stage_of g new) → FailsWriting g old new mark edit
    ended-failed safe = record {
      file = file;
      leads = leads;
      place = place;
      placed = placed;
      safe = λ told.
          subst (λ (o : Option (List ℕ)). IsSafe place.flag (sector_in o) (sector_in (g.now (disk_of g (stage_of g new)))))
          (all-keeps staged keeps).now
          (safe ((all-keeps staged keeps).goes_on.told_image ∙ told));
    }

    pub ended : {A : Type 0} (mark' : Option Flag) (result : Result A Stop) → OnOk result (IsWritten g place staged new)
        → OnErr result (FailsSafe g place.flag (stage_of g staged) (stage_of g new)) → OnOk result (mark' ≡ Some place.flag)
        → IfErr result (λ why. why ≡ stop.Device)
        → g.written (disk_of g (stage_of g new)) ≤ g.written (disk_of g (stage_of g staged)) + 2 + span_sectors place.spans.items
        + length (places g (stage_of g staged)) → EndsAs g old new mark mark' edit result
    unfolding ended-done
    ended mark' (Ok done) written safe marked device wrote = (ended-done written wrote, marked)
    ended mark' (Err (stop.No refused)) written safe marked device wrote = cc
    ended mark' (Err stop.Device) written safe marked device wrote = inr (ended-failed safe)
