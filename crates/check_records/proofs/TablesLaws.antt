-- From what the pass gives and the steps behind it decide to the answer on a disk.
use Rattle.std.proofs.Common.{◌≡◌, ◌+◌, ◌*◌, ℕ, Bool, List, length, Option, Some, IsTrue, refl, sym, ap, subst, ◌∙◌}
use Rattle.std.specs.Prelude.{is_some}
use Rattle.vol_disk.specs.Contents.{WhereTold, sector_in}
use Rattle.ntfs_def.specs.Boot.{boot_sector}
use Rattle.volume_def.specs.Files.{records_of}
use Rattle.volume_def.specs.Sound.{HoldBelow, told_view}
use Rattle.volume_def.specs.Sound.Clause.{Limits}
use Rattle.volume_def.specs.Table.{MeetsTable, TableLayout}
use Rattle.volume_def.specs.View.{VolumeView, view_of}
use Rattle.record_notes.specs.declared.facts.Facts.{Facts}
use Rattle.record_notes.specs.Facts.{FactsNote}
use Rattle.mft_table.specs.declared.mount.MountNo.{MountNo}
use Rattle.mft_table.specs.declared.mounted.Mounted.{Mounted}
use Rattle.mft_table.specs.Mounted.{mounted_layout}
use Rattle.mft_table.specs.Tables.{layout_on}
use Rattle.check_records.specs.Reads.{bytes_reads, check_reads, files_reads}
use Rattle.clause_order.specs.Views.{kept_view}
use Rattle.clause_order.specs.Refusals.{DecidesFirst, IsRefusalIf}
use Rattle.check_records.specs.Refusals.{IsRefusal}
use Rattle.mft_table.specs.HeldTables.{AreStored, HasTable, HoldsTables, volume_in}
use Rattle.check_records.specs.Views.{HasComeWith}
use Rattle.check_records.proofs.CheckLaws.{check_reads-sum}
use Rattle.check_records.proofs.RefusalLaws.{IsRefusal-later, IsRefusalOf-if}

-- the tables, with those that the volume stores
abbrev pub stored_tables : Mounted → List Bool → List Bool → List ℕ → Mounted
stored_tables mounted clusters records upcase = record mounted { clusters = clusters; records = records; upcase = upcase }

-- they tell the same table of records
same-layout : (mounted : Mounted) (clusters records : List Bool) (upcase : List ℕ) → length records ≡ length mounted.records
    → mounted_layout mounted ≡ mounted_layout (stored_tables mounted clusters records upcase)
same-layout mounted clusters records upcase long = ap (λ n. layout_on mounted.geometry mounted.table mounted.initialized n) (sym long)

HoldsTables-stored : (image : List ℕ) (mounted : Mounted) (clusters records : List Bool) (upcase : List ℕ) → HasTable image mounted
    → length records ≡ length mounted.records → HoldBelow (volume_in image mounted) 10
    → AreStored (volume_in image mounted) clusters records upcase → HoldsTables 10 image (stored_tables mounted clusters records upcase)
HoldsTables-stored image mounted clusters records upcase table long below stored =
    let disk = sector_in (Some image) in
    let layout = same-layout mounted clusters records upcase long in
    record {
      table = record {
        boot = table.boot;
        geometry = table.geometry;
        clause = subst (MeetsTable disk (boot_sector image)) layout table.clause;
      };
      clauses = subst (λ (l : TableLayout). HoldBelow (told_view disk l) 10) layout below;
      values = subst (λ (l : TableLayout). AreStored (told_view disk l) clusters records upcase) layout stored;
    }

-- all steps were passed
pub tables-checked : (told : Option (List ℕ)) (mounted : Mounted) (facts : Facts) (clusters records : List Bool) (upcase : List ℕ)
    → WhereTold told (λ image. HasTable image mounted) → length records ≡ length mounted.records
    → (IsTrue (is_some told) → HasComeWith (kept_view told mounted) 1 facts)
    → (IsTrue (is_some told) → HasComeWith (kept_view told mounted) 1 facts → HoldBelow (kept_view told mounted) 10)
    → (IsTrue (is_some told) → HasComeWith (kept_view told mounted) 1 facts → AreStored (kept_view told mounted) clusters records upcase)
    → WhereTold told (λ image. HoldsTables 10 image (stored_tables mounted clusters records upcase))
tables-checked told mounted facts clusters records upcase table long come below stored = λ image is.
    let yes : IsTrue (is_some told) = subst (λ (t : Option (List ℕ)). IsTrue (is_some t)) (sym is) refl in
    HoldsTables-stored image mounted clusters records upcase (table image is) long
    (subst (λ (t : Option (List ℕ)). HoldBelow (kept_view t mounted) 10) is (below yes (come yes)))
    (subst (λ (t : Option (List ℕ)). AreStored (kept_view t mounted) clusters records upcase) is (stored yes (come yes)))

-- .. and what was noted for the clause on limits
pub long-checked : (told : Option (List ℕ)) (mounted : Mounted) (facts : Facts) (clusters records : List Bool) (upcase : List ℕ)
    (long : Option ℕ) → length records ≡ length mounted.records
    → (IsTrue (is_some told) → FactsNote (records_of (kept_view told mounted)) (mounted_layout mounted).count facts)
    → ((view : VolumeView) → FactsNote (records_of view) view.layout.count facts → DecidesFirst Limits view long)
    → WhereTold told (λ image. DecidesFirst Limits (volume_in image (stored_tables mounted clusters records upcase)) long)
long-checked told mounted facts clusters records upcase long same noted decides = λ image is.
    let yes : IsTrue (is_some told) = subst (λ (t : Option (List ℕ)). IsTrue (is_some t)) (sym is) refl in
    let here : DecidesFirst Limits (kept_view told mounted) long = decides (kept_view told mounted) (noted yes) in
    subst (λ (l : TableLayout). DecidesFirst Limits (told_view (sector_in (Some image)) l) long)
    (same-layout mounted clusters records upcase same)
    (subst (λ (t : Option (List ℕ)). DecidesFirst Limits (kept_view t mounted) long) is here)

-- a step refused the volume, or failed
pub refusal-checked : (told : Option (List ℕ)) (mounted : Mounted) (facts : Facts) (refusal : MountNo)
    → WhereTold told (λ image. HasTable image mounted)
    → (IsTrue (is_some told) → HasComeWith (kept_view told mounted) 1 facts)
    → IsRefusalIf 10 (HasComeWith (kept_view told mounted) 1 facts) (kept_view told mounted) refusal
    → IsRefusal told refusal
refusal-checked told mounted facts refusal table come refused =
    IsRefusal-later told (mounted_layout mounted) refusal
    (λ image is. let found = table image is in record { boot_clause = found.boot; table_clause = found.clause })
    (IsRefusalOf-if (kept_view told mounted) refusal come refused)

-- .. and these are the reads of all of them
pub reads-checked : (told : Option (List ℕ)) (mounted : Mounted) (facts : Facts) (clusters records : List Bool) (upcase : List ℕ)
    → length records ≡ length mounted.records
    → (IsTrue (is_some told) → HasComeWith (kept_view told mounted) 1 facts)
    → (IsTrue (is_some told) → HasComeWith (kept_view told mounted) 1 facts → HoldBelow (kept_view told mounted) 10)
    → WhereTold told (λ image. (3 + 2 * length mounted.records)
    + (files_reads (length facts.spread.listed.items) (length facts.spread.extensions.items) + bytes_reads (mounted_layout mounted))
    ≡ check_reads (volume_in image (stored_tables mounted clusters records upcase)))
reads-checked told mounted facts clusters records upcase long come below = λ image is.
    let yes : IsTrue (is_some told) = subst (λ (t : Option (List ℕ)). IsTrue (is_some t)) (sym is) refl in
    check_reads-sum (kept_view told mounted) facts (come yes) (below yes (come yes))
    ∙ ap (λ (t : Option (List ℕ)). check_reads (kept_view t mounted)) is
    ∙ ap (λ (l : TableLayout). check_reads (told_view (sector_in (Some image)) l)) (same-layout mounted clusters records upcase long)
