-- THE FIRST MARK BEHIND AN EDIT, record by record: no block is written, nor a copy, but those of the record of the flag, and its copy not
-- alone.
use Rattle.std.proofs.Common.{◌≡◌, ◌≢◌, ◌<◌, ◌/◌, ℕ, List, length, Some, inl, inr, sym, subst, ◌∙◌}
use Rattle.std.specs.Prelude.{slice_index}
use Rattle.std.proofs.lemmas.Bool.{cases_eq}
use Rattle.std.proofs.lemmas.Grind.{same_number_lists}
use Rattle.vol_disk.specs.Contents.{sector_in}
use Rattle.ntfs_def.specs.Boot.{boot_sector}
use Rattle.ntfs_def.specs.declared.records.TheConstants.{VOLUME}
use Rattle.volume_def.specs.Blocks.{block_of, copy_of}
use Rattle.volume_def.specs.Sound.{HasLayout, IsSound, told_view}
use Rattle.volume_def.specs.Table.{TableLayout}
use Rattle.volume_def.specs.View.{VolumeView}
use Rattle.tree_model.specs.Facts.{IsVolumeOf}
use Rattle.session_def.specs.Done.{HasEmptyLog}
use Rattle.session_def.specs.Room.{KeepsLogEnd}
use Rattle.mark_write.specs.Flags.{IsSet}
use Rattle.mark_write.specs.declared.flag.Flag.{Flag}
use Rattle.volume_mark.specs.FlagByte.{ChangesFlag}
use Rattle.volume_mark.specs.Mark.{IsFlagOf}
use Rattle.volume_mark.proofs.DiskLaws as disks
use Rattle.volume_mark.proofs.FlagEdit as edit
use Rattle.in_place.specs.Behind.{MarksBehind}
use Rattle.in_place.specs.InPlace.{KeepsBlock}
use Rattle.in_place.specs.Unnamed.{LiesApart}
use Rattle.first_mark.specs.Written.{DiffersByMark}
use Rattle.first_mark.proofs.MarkedBlocks.{rewrites-marked}
use Rattle.first_mark.proofs.MarkedVolume.{marked-from}

module _ (old : List ℕ) (layout : TableLayout) (has : HasLayout (sector_in (Some old)) (boot_sector old) (length old / 512) layout)
    (sound : IsSound (told_view (sector_in (Some old)) layout)) (flag : Flag) (f : IsFlagOf (told_view (sector_in (Some old)) layout) flag)
    (new : List ℕ) (w : DiffersByMark (told_view (sector_in (Some old)) layout) flag old new) where
  abbrev view : VolumeView
  view = told_view (sector_in (Some old)) layout

  abbrev next : VolumeView
  next = told_view (sector_in (Some new)) layout

  abbrev many : 3 < layout.count
  many = disks.many old layout has sound flag f

  abbrev changes : ChangesFlag view (block_of (sector_in (Some new)) layout) (copy_of (sector_in (Some new)) layout) f.byte
  changes = disks.changes-flag old layout has sound flag f new w.agrees

  pub others-kept : (n : ℕ) → n ≢ VOLUME → KeepsBlock view next n
  others-kept n other = record { block = changes.blocks n other; copy = λ few. changes.copies n few other }

  pub copy-kept : next.block VOLUME ≡ view.block VOLUME → next.copy VOLUME ≡ view.copy VOLUME
  copy-kept same = same_number_lists (next.copy VOLUME) (view.copy VOLUME) changes.copy_long (λ k inside. elim (cases_eq k f.byte) [
    | inl is ↦
        subst (λ j. slice_index (next.copy VOLUME) j ≡ slice_index (view.copy VOLUME) j) (sym is)
        (changes.alike ∙ subst (λ block. slice_index block f.byte ≡ slice_index (view.copy VOLUME) f.byte) (sym same)
        (sym (edit.byte-mirrored view flag f sound many)))
    | inr other ↦ changes.copy_same k other
  ])

pub marks-behind : (view : VolumeView) (flag : Flag) (staged written : List ℕ) → IsVolumeOf staged view → IsSound view → IsFlagOf view flag
    → LiesApart view → DiffersByMark view flag staged written → IsSet flag (sector_in (Some written))
    → HasEmptyLog (told_view (sector_in (Some written)) view.layout)
    → KeepsLogEnd view (told_view (sector_in (Some written)) view.layout)
    → MarksBehind view (told_view (sector_in (Some written)) view.layout)
marks-behind v flag staged written volume sound f apart w set emptied rest =
    let next = told_view (sector_in (Some written)) v.layout in
    let P : VolumeView → Type 0 = λ x. IsSound x → IsFlagOf x flag → DiffersByMark x flag staged written
    → ((n : ℕ) → n ≢ VOLUME → KeepsBlock x (told_view (sector_in (Some written)) x.layout) n)
    × ((told_view (sector_in (Some written)) x.layout).block VOLUME ≡ x.block VOLUME
    → (told_view (sector_in (Some written)) x.layout).copy VOLUME ≡ x.copy VOLUME) in
    let both = subst P (sym volume.is) (λ s g m. (
      others-kept staged volume.layout volume.has s flag g written m,
      copy-kept staged volume.layout volume.has s flag g written m,
    )) sound f w in
    record {
      rewrites = rewrites-marked v flag staged written volume sound f w;
      marked = marked-from v flag staged written volume sound f apart w set emptied;
      others = both.0;
      copy = both.1;
      log_end = rest;
    }
