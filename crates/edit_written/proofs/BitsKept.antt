-- THE STORED BITS AND THE TABLE OF CASE are those that were staged, behind the first mark too.
use Rattle.std.proofs.Common.{◌≡◌, ℕ, Bool, false, List, [], refl, sym, ap, ◌∙◌}
use Rattle.list_laws.specs.Bits.{flags_in}
use Rattle.ntfs_def.specs.declared.kinds.TheConstants.{BITMAP, DATA}
use Rattle.ntfs_def.specs.declared.records.TheConstants.{CLUSTER_BITMAP, MFT, UPCASE}
use Rattle.volume_def.specs.BitmapClauses.{cluster_bits, record_bits}
use Rattle.volume_def.specs.Files.{parts_at}
use Rattle.volume_def.specs.Table.{TableLayout}
use Rattle.volume_def.specs.Values.{value_on}
use Rattle.volume_def.specs.View.{VolumeView}
use Rattle.edit_def.specs.Edited.{is_table_key}
use Rattle.edit_def.specs.Kept.{key_of}
use Rattle.session_def.specs.FirstMark.{is_first_key}
use Rattle.mft_table.specs.HeldTables.{AreStored}
use Rattle.value_owed.specs.Behind.{MarksBehind}
use Rattle.edit_written.proofs.LeftAlone.{value-kept}

-- what the first mark does not name has the value that it had
value-marked : (new next : VolumeView) → MarksBehind new next → (f kind : ℕ) (name : List ℕ)
    → is_table_key (key_of f kind name) ≡ false → is_first_key (key_of f kind name) ≡ false
    → value_on next (parts_at next f kind name) ≡ value_on new (parts_at new f kind name)
value-marked new next marks = value-kept is_first_key new next marks.rewrites marks.marked.kept

pub bits-stored : (new next : VolumeView) (clusters records : List Bool) (upcase : List ℕ) → MarksBehind new next
    → AreStored new clusters records upcase → AreStored next clusters records upcase
bits-stored new next clusters records upcase marks stored =
    let layout : next.layout ≡ new.layout = marks.rewrites.layout in
    record {
      clusters_are = stored.clusters_are
          ∙ sym (ap (flags_in (value_on next (cluster_bits next))) (ap (λ (l : TableLayout). l.clusters) layout)
          ∙ ap (λ value. flags_in value new.layout.clusters) (value-marked new next marks CLUSTER_BITMAP DATA [] refl refl));
      records_are = stored.records_are
          ∙ sym (ap (flags_in (value_on next (record_bits next))) (ap (λ (l : TableLayout). l.count) layout)
          ∙ ap (λ value. flags_in value new.layout.count) (value-marked new next marks MFT BITMAP [] refl refl));
      upcase_is = stored.upcase_is ∙ sym (value-marked new next marks UPCASE DATA [] refl refl);
    }
