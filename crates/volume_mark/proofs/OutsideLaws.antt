-- On a sound volume the table, its mirror, and what is looked at beside them lie apart.
use Rattle.std.proofs.Common.{◌≡◌, ◌≢◌, ◌<◌, ◌≤◌, ℕ, true, false, List, length, refl, sym, ap, inl, inr, ◌∙◌, arith, true≢false}
use Rattle.std.specs.Prelude.{◌⊎◌}
use Rattle.ntfs_def.specs.declared.records.TheConstants.{MFT, MFT_MIRROR, UPCASE}
use Rattle.volume_def.specs.Coverage.{IsApart}
use Rattle.volume_def.specs.Sound.{IsSound, told_view}
use Rattle.volume_def.specs.Table.{MeetsTable, TableLayout}
use Rattle.volume_edits.specs.Owners.{HasTablePart}
use Rattle.volume_edits.proofs.OwnerLaws.{layout-apart, looked-outside, own-outside}
use Rattle.volume_edits.proofs.TableParts.{some-sectors, table-part}
use Rattle.tree_model.specs.Hidden.{is_system}
use Rattle.volume_mark.specs.Written.{LooksOutside}

not-system : (g n : ℕ) → (is_system n ≡ true) → n ≢ UPCASE → (is_system g ≡ false) ⊎ (g ≡ UPCASE) → g ≢ n
not-system g n s ne (inl told) same = let x = sym (ap is_system same) ∙ told in true≢false (sym s ∙ x)
not-system g n s ne (inr is) same = ne (sym same ∙ is)

module _ (disk : ℕ → List ℕ) (boot : List ℕ) (layout : TableLayout) (meets : MeetsTable disk boot layout)
    (sectors : (n : ℕ) → length (disk n) ≤ 512) (sound : IsSound (told_view disk layout)) where
  some : 0 < layout.cluster_sectors
  some = some-sectors disk boot layout meets sectors sound

  t : HasTablePart (told_view disk layout)
  t = table-part disk boot layout meets sectors sound

  pub apart-sound : IsApart layout
  apart-sound = layout-apart (told_view disk layout) sound t some meets.table.placed.on_volume

  pub outside-sound : LooksOutside (told_view disk layout)
  outside-sound = record {
    looked = looked-outside (told_view disk layout) sound t some;
    shown = λ f told c o. own-outside (told_view disk layout) sound t some f o.part c o.among o.covered
        (inr (not-system f MFT refl (λ q. omega (arith, q)) told, not-system f MFT_MIRROR refl (λ q. omega (arith, q)) told));
  }
