-- BEFORE THE RECORD IS WRITTEN a run was taken, and bytes were put into its clusters, in which no attribute lay.
use Rattle.std.proofs.Common.{◌≡◌, ◌/◌, ◌≤◌, ℕ, List, [], ◌∷◌, Some, refl, ap, ◌∙◌, arith}
use Rattle.std.proofs.lemmas.List.Sums.{count_by-le-length}
use Rattle.ntfs_def.specs.Runs.{spot_of}
use Rattle.ntfs_def.specs.declared.kinds.TheConstants.{DATA}
use Rattle.ntfs_def.specs.declared.run_text.Run.{Run}
use Rattle.ntfs_def.specs.declared.run_text.Spot.TheVariants.{At}
use Rattle.volume_def.specs.Coverage.{has_cluster}
use Rattle.volume_def.specs.Files.{Records, records_of}
use Rattle.volume_def.specs.OwnersClause.{times_owned}
use Rattle.volume_def.specs.Table.{cluster_bytes}
use Rattle.volume_def.specs.View.{VolumeView}
use Rattle.volume_def.proofs.RunPlaces.{times_in-spot_of}
use Rattle.edit_def.specs.Kept.{key_of}
use Rattle.record_edits.specs.InPlace.{is_bits_key}
use Rattle.record_edits.proofs.PlaceEdits.{same}
use Rattle.value_edits.specs.ValueEdits.{PreparesEdit, WritesBehind}
use Rattle.value_edits.proofs.GivenBack.{nothing-given}

module _ (old flagged mid : VolumeView) (f : ℕ) (name : List ℕ) (run : Run) (put : List ℕ)
    (fills : WritesBehind old flagged mid [] (Some run) 0 put) where
  records : records_of flagged ≡ records_of old
  records = same is_bits_key old flagged fills.takes.writes

  not-put : (c : ℕ) → 1 ≤ times_owned (records_of flagged) c → (vcn : ℕ) → spot_of (run ∷ []) vcn ≡ At c → ⊥
  not-put c owned vcn at =
      let its = times_in-spot_of (run ∷ []) vcn c at in
      let none = ap (λ (r : Records). times_owned r c) records ∙ fills.unowned c its in
      absurd (omega (arith, none, owned))

  pub moved-prepared : PreparesEdit (key_of f DATA name) old mid [] (run ∷ [])
  moved-prepared = record {
    freed = old;
    gives = nothing-given old;
    flagged = flagged;
    takes = fills.takes;
    fills = record {
      told = fills.writes.told;
      layout = fills.writes.layout;
      blocks = fills.writes.blocks;
      copies = fills.writes.copies;
      rest = fills.writes.rest;
      clusters = λ c owned free. fills.writes.clusters c (λ k within. not-put c owned (k / cluster_bytes flagged.layout));
    };
    inside = fills.inside;
    unowned = fills.unowned;
    once = λ c. count_by-le-length (has_cluster c) (run ∷ []);
    differ = λ c got. refl;
  }
