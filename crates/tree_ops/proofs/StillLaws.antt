-- WHERE NOTHING WAS WRITTEN, and nothing is staged that was not so before: a volume reads as before, and serves as before.
use Rattle.std.proofs.Common.{◌≡◌, ℕ, List, [], Option, Some, None, false, sym, ap, subst, ◌∙◌, arith}
use Rattle.std.specs.Prelude.{IfSome, IsTrue, is_some}
use Rattle.vol_disk.specs.Contents.{WhereTold, sector_in}
use Rattle.vol_disk.specs.declared.Disk.{Ghosts}
use Rattle.vol_stage.specs.declared.stage.Stage.{Stage}
use Rattle.vol_stage.specs.Staged.{GoesOn, disk_of, image, places}
use Rattle.volume_def.specs.View.{VolumeView, view_of}
use Rattle.mark_write.specs.declared.flag.Flag.{Flag}
use Rattle.mft_table.specs.declared.mft.Mft.{Mft}
use Rattle.mft_table.specs.declared.mounted.Mounted.{Mounted}
use Rattle.mft_table.specs.InUse.{IsInUse, IsSoundVolume}
use Rattle.mft_table.specs.MirrorClusters.{IsMirrorInside}
use Rattle.mft_table.specs.Mft.{KeepsDisk, MftReads, committed_of, is_mft_broken, mounted_of, stage_of, view}
use Rattle.mft_table.specs.Mounted.{mounted_layout}
use Rattle.mft_table.proofs.DiskKept.{KeepsDisk-reads, KeepsDisk-then}
use Rattle.stream_changes.specs.Given.{KeepsDevice}
use Rattle.tree_model.specs.Facts.{IsVolumeOf}
use Rattle.stream_changes.proofs.DeviceKept.{device-disk}
use Rattle.tree_ops.specs.Edits.{CanEdit, HasMark, IsClear, IsMarkOf, MftStill}

-- the view, by the image and the tables
pub view-by : {D : Type 0} (g : Ghosts D) (old new : Mft D g) → image g (stage_of g new) ≡ image g (stage_of g old)
    → mounted_of g new ≡ mounted_of g old → view g new ≡ view g old
view-by g old new i m =
    ap (λ (o : Option (List ℕ)). view_of (is_some o) (sector_in o) (mounted_layout (mounted_of g new))) i
    ∙ ap (λ (t : Mounted). view_of (is_some (image g (stage_of g old))) (sector_in (image g (stage_of g old))) (mounted_layout t)) m

-- calls that read leave it so
pub reads-still : {D : Type 0} (g : Ghosts D) (old new : Mft D g) (n : ℕ) → MftReads g old new n → MftStill g old new
reads-still g old new n r = record {
  keeps = KeepsDisk-reads g old new n r;
  image = r.stage.only_reads.image;
  places = r.stage.only_reads.places;
}

-- two calls in a row, of which the first met no fault
pub stages-then : {D : Type 0} (g : Ghosts D) (a b c : Stage D g) → g.faults (disk_of g b) ≡ g.faults (disk_of g a) → GoesOn g a b
    → GoesOn g b c → GoesOn g a c
stages-then g a b c quiet x y = record {
  same_reference = y.same_reference ∙ x.same_reference;
  size = y.size ∙ x.size;
  told = y.told ∙ x.told;
  told_image = y.told_image ∙ x.told_image;
  one = y.one;
  faults = omega (arith, x.faults, y.faults);
  on_time = λ none. y.on_time (quiet ∙ none) ∙ x.on_time none;
}

-- .. and two that wrote nothing
pub still-then : {D : Type 0} (g : Ghosts D) (a b c : Mft D g) → MftStill g a b → MftStill g b c → MftStill g a c
still-then g a b c x y = record {
  keeps = KeepsDisk-then g a b c x.keeps y.keeps;
  image = y.image ∙ x.image;
  places = y.places ∙ x.places;
}

-- What was staged and discarded again, over a volume of which nothing was staged, leaves it so.
module _ {D : Type 0} (g : Ghosts D) (old staged new : Mft D g) (clear : IsClear g old) (keeps : KeepsDevice g old staged)
    (goes : GoesOn g (stage_of g staged) (stage_of g new)) (same : disk_of g (stage_of g new) ≡ disk_of g (stage_of g staged)) where
  discarded-goes : GoesOn g (stage_of g old) (stage_of g new)
  discarded-goes = record {
    same_reference = goes.same_reference ∙ keeps.goes_on.same_reference;
    size = goes.size ∙ keeps.goes_on.size;
    told = goes.told ∙ keeps.goes_on.told;
    told_image = goes.told_image ∙ keeps.goes_on.told_image;
    one = goes.one;
    faults = omega (arith, keeps.goes_on.faults, goes.faults);
    on_time = λ none. ap (λ d. g.late d) same ∙ keeps.late;
  }

  pub discarded-still : image g (stage_of g new) ≡ g.now (disk_of g (stage_of g staged)) → places g (stage_of g new) ≡ []
      → mounted_of g new ≡ committed_of g staged → committed_of g new ≡ committed_of g staged → is_mft_broken g new ≡ false
      → MftStill g old new
  discarded-still shown none mounted committed sound = record {
    keeps = record {
      goes_on = discarded-goes;
      now = ap (λ d. g.now d) same ∙ keeps.now;
      settled = ap (λ d. g.settled d) same ∙ keeps.settled;
      fenced = ap (λ d. g.fenced d) same ∙ keeps.fenced;
      written = ap (λ d. g.written d) same ∙ keeps.written;
      late = ap (λ d. g.late d) same ∙ keeps.late;
      broken = sound ∙ sym clear.whole;
      mounted = mounted ∙ keeps.committed ∙ clear.tables;
      committed = committed ∙ keeps.committed;
    };
    image = shown ∙ keeps.now ∙ sym clear.tells;
    places = none ∙ sym clear.plain;
  }

-- .. also where the tables were kept
pub discarded-disk : {D : Type 0} (g : Ghosts D) (old staged new : Mft D g) → IsClear g old → KeepsDisk g old staged
    → GoesOn g (stage_of g staged) (stage_of g new) → disk_of g (stage_of g new) ≡ disk_of g (stage_of g staged)
    → image g (stage_of g new) ≡ g.now (disk_of g (stage_of g staged)) → places g (stage_of g new) ≡ []
    → mounted_of g new ≡ committed_of g staged → committed_of g new ≡ committed_of g staged → is_mft_broken g new ≡ false
    → MftStill g old new
discarded-disk g old staged new clear keeps goes same = discarded-still g old staged new clear (device-disk g old staged keeps) goes same

module _ {D : Type 0} (g : Ghosts D) (old new : Mft D g) (still : MftStill g old new) where
  pub still-view : view g new ≡ view g old
  still-view = view-by g old new still.image still.keeps.mounted

  -- what is told of the volume is told of it still
  pub still-told : (P : VolumeView → Type 0) → (IsTrue (view g old).told → P (view g old)) → IsTrue (view g new).told → P (view g new)
  still-told P known told = subst P (sym still-view) (known (subst (λ (v : VolumeView). IsTrue v.told) still-view told))

  still-in_use : IsInUse g old → IsInUse g new
  still-in_use before told =
      subst (λ (m : Mounted). IsSoundVolume (view g new) m) (sym still.keeps.mounted)
      (still-told (λ v. IsSoundVolume v (mounted_of g old)) before told)

  still-clear : IsClear g old → IsClear g new
  still-clear clear = record {
    tells = still.image ∙ clear.tells ∙ sym still.keeps.now;
    whole = still.keeps.broken ∙ clear.whole;
    plain = still.places ∙ clear.plain;
    tables = still.keeps.committed ∙ clear.tables ∙ sym still.keeps.mounted;
  }

  still-bytes : WhereTold (image g (stage_of g old)) (λ all. IsVolumeOf all (view g old))
      → WhereTold (image g (stage_of g new)) (λ all. IsVolumeOf all (view g new))
  still-bytes bytes all is = subst (IsVolumeOf all) (sym still-view) (bytes all (sym still.image ∙ is))

  abbrev has_mark : Mft D g → Flag → Type 0
  has_mark mft flag = HasMark (g.size (disk_of g (stage_of g mft))) (g.now (disk_of g (stage_of g mft))) flag

  still-mark : (mark : Option Flag) → IfSome mark (has_mark old) → IfSome mark (has_mark new)
  still-mark None has = tt
  still-mark (Some flag) has =
      subst (λ n. HasMark n (g.now (disk_of g (stage_of g new))) flag) (sym still.keeps.goes_on.size)
      (subst (λ o. HasMark (g.size (disk_of g (stage_of g old))) o flag) (sym still.keeps.now) has)

  still-flag : (mark : Option Flag) → IfSome mark (λ flag. IsTrue (view g old).told → IsMarkOf (view g old) flag)
      → IfSome mark (λ flag. IsTrue (view g new).told → IsMarkOf (view g new) flag)
  still-flag None is = tt
  still-flag (Some flag) is = still-told (λ v. IsMarkOf v flag) is

  -- an edit can be done on it still
  pub still-can : (mark : Option Flag) → CanEdit g old mark → CanEdit g new mark
  still-can mark can = record {
    in_use = still-in_use can.in_use;
    bytes = still-bytes can.bytes;
    mirror = subst IsMirrorInside (sym still.keeps.mounted) can.mirror;
    clear = still-clear can.clear;
    marked = still-mark mark can.marked;
    flag = still-flag mark can.flag;
  }
