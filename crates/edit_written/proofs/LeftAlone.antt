-- WHAT IS LEFT ALONE by a rewrite that names none of it, and by one edit after another.
use Rattle.std.proofs.Common.{◌≡◌, ◌≢◌, ◌≤◌, ◌||◌, ℕ, Bool, false, List, []}
use Rattle.std.proofs.Common.{inr, refl, ap, ◌∙◌, arith}
use Rattle.std.specs.List.{Contains}
use Rattle.ntfs_def.specs.declared.kinds.TheConstants.{DATA}
use Rattle.ntfs_def.specs.declared.records.TheConstants.{BOOT, LOG_FILE, MFT, MFT_MIRROR, VOLUME}
use Rattle.volume_def.specs.Coverage.{times_covered}
use Rattle.volume_def.specs.Files.{Part, part_runs, parts, parts_at, records_of}
use Rattle.volume_def.specs.Sound.{IsSound}
use Rattle.volume_def.specs.Values.{spot_at, value_on}
use Rattle.volume_def.specs.View.{VolumeView}
use Rattle.edit_def.specs.Edited.{is_table_key}
use Rattle.edit_def.specs.Kept.{KeepsBut, Key, either, key_of}
use Rattle.record_edits.proofs.BlockEdits.{part-at}
use Rattle.volume_mark.proofs.DiskLaws.{covered-by}
use Rattle.value_owed.specs.InPlace.{Rewrites}
use Rattle.value_owed.specs.Unnamed.{LiesApart, NamesNoneOf}
use Rattle.value_owed.proofs.BehindLaws.{log-bytes}
use Rattle.value_owed.proofs.KeptInPlace.{kept}
use Rattle.value_owed.proofs.OtherClusters.{clusters-kept, part-kept}
use Rattle.value_owed.proofs.OtherParts.{at-other}
use Rattle.value_owed.proofs.PlacesSame.{value-other}
use Rattle.edit_written.specs.LeavesAlone.{LeavesAlone}
use Rattle.edit_written.proofs.KeptRecords.{first-kept}

-- CLUSTER 0 belongs to the stream of `$Boot`, by this part.
pub record HasBoot (view : VolumeView) : Type 0 where
  pub part : Part
  pub among : Contains (parts (records_of view) BOOT) part
  pub kind : part.kind ≡ DATA
  pub name : part.name ≡ []
  pub covered : 1 ≤ times_covered (part_runs part) 0

pub has-boot : (view : VolumeView) → LiesApart view → HasBoot view
has-boot view apart =
    let c = covered-by (parts_at view BOOT DATA []) 0 ((apart.owners.owners 0).boot refl) in
    let its = part-at view BOOT DATA [] c.0 c.1 in
    record { part = c.0; among = its.0; kind = its.1; name = its.2; covered = c.2 }

-- .. which is neither the table nor its mirror
pub boot-other : (BOOT ≢ MFT) × (BOOT ≢ MFT_MIRROR)
boot-other = ((λ q. omega (arith, q)), (λ q. omega (arith, q)))

-- what a rewrite does not name has the value that it had
pub value-kept : (changed : Key → Bool) (old new : VolumeView) → Rewrites changed old new → KeepsBut (either is_table_key changed) old new
    → (f kind : ℕ) (name : List ℕ) → is_table_key (key_of f kind name) ≡ false → changed (key_of f kind name) ≡ false
    → value_on new (parts_at new f kind name) ≡ value_on old (parts_at old f kind name)
value-kept changed old new w keeps f kind name table free =
    value-other changed old new w f kind name free ((keeps f).clusters kind name (neither table free))
  where
    neither : {a b : Bool} → a ≡ false → b ≡ false → (a || b) ≡ false
    neither x y = rw (x, y) refl

-- A REWRITE
module _ (changed : Key → Bool) (old new : VolumeView) (w : Rewrites changed old new) (sound : IsSound old) (apart : LiesApart old) where
  keeps : KeepsBut (either is_table_key changed) old new
  keeps = kept changed old new w apart.owners apart.some apart.unnamed

  cluster-boot : changed (key_of BOOT DATA []) ≡ false → new.cluster 0 ≡ old.cluster 0
  cluster-boot free =
      let b = has-boot old apart in
      part-kept changed old new w apart.owners apart.some BOOT b.part 0 b.among
      (ap (λ k. changed (key_of BOOT k b.part.name)) b.kind ∙ ap (λ n. changed (key_of BOOT DATA n)) b.name ∙ free) b.covered
      (inr boot-other)

  pub rewritten : NamesNoneOf changed MFT → NamesNoneOf changed VOLUME → changed (key_of BOOT DATA []) ≡ false
      → changed (key_of LOG_FILE DATA []) ≡ false → LeavesAlone old new
  rewritten no_table no_volume no_boot no_log = record {
    layout = w.layout;
    table = (first-kept changed old new w sound MFT (omega arith) no_table).block;
    volume = (first-kept changed old new w sound VOLUME (omega arith) no_volume).block;
    boot = cluster-boot no_boot;
    log = at-other changed old new w LOG_FILE DATA [] no_log;
    emptied = log-bytes changed old new new w no_log;
    log_clusters = clusters-kept changed old new w apart.owners apart.some LOG_FILE DATA [] no_log
        (inr ((λ q. omega (arith, q)), (λ q. omega (arith, q))));
  }

-- ONE EDIT AFTER ANOTHER
pub both : (old mid new : VolumeView) → LeavesAlone old mid → LeavesAlone mid new → LeavesAlone old new
both old mid new a b = record {
  layout = b.layout ∙ a.layout;
  table = b.table ∙ a.table;
  volume = b.volume ∙ a.volume;
  boot = b.boot ∙ a.boot;
  log = b.log ∙ a.log;
  emptied = b.emptied ∙ a.emptied;
  log_clusters = λ vcn c at.
      b.log_clusters vcn c (ap (λ xs. spot_at xs vcn) a.log ∙ at) ∙ a.log_clusters vcn c at;
}
