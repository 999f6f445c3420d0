-- A RUN WAS TAKEN, and bytes were put into the clusters of a stream and into those of the run: the records are as they were, and the volume
-- can be read.
use Rattle.std.proofs.Common.{◌≡◌, ◌+◌, ◌*◌, ◌-◌, ◌/◌, ◌<◌, ◌≤◌, ◌==◌, ℕ, true, List, ◌++◌, Option, filter, refl, sym, ap}
use Rattle.std.proofs.Common.{subst, inl, inr, ◌∙◌, arith}
use Rattle.std.specs.Option.{option_to_list}
use Rattle.std.specs.Prelude.{IsSomeAnd, IsTrue, is_some}
use Rattle.std.specs.Str.{bytes_eq}
use Rattle.std.proofs.lemmas.Bool.{and_from, cases_lt, eq-eqb}
use Rattle.std.proofs.lemmas.Slice.Eq.{bytes_eq-Decides}
use Rattle.ntfs_def.specs.Runs.{spot_of, total_clusters}
use Rattle.ntfs_def.specs.declared.kinds.TheConstants.{DATA}
use Rattle.ntfs_def.specs.declared.run_text.Run.{Run}
use Rattle.ntfs_def.specs.declared.run_text.Spot.TheVariants.{At}
use Rattle.volume_def.specs.Coverage.{IsApart, times_covered}
use Rattle.volume_def.specs.Files.{Records, file_of, is_base, is_of, parts, parts_at, records_of}
use Rattle.volume_def.specs.OwnersClause.{times_owned}
use Rattle.volume_def.specs.Readable.{IsFile, IsReadableVolume}
use Rattle.volume_def.specs.Table.{IsWellFormed, TableLayout, cluster_bytes}
use Rattle.volume_def.specs.Values.{spot_at}
use Rattle.volume_def.specs.View.{VolumeView}
use Rattle.volume_def.proofs.RunPieces.{spot_of-back, spot_of-front}
use Rattle.volume_def.proofs.RunPlaces.{times_in-spot_of}
use Rattle.volume_edits.specs.Clusters.{WritesStream}
use Rattle.volume_edits.proofs.StreamClusters.{records-written}
use Rattle.edit_def.specs.Kept.{key_of, same_key}
use Rattle.edit_def.specs.Marks.{Marks}
use Rattle.file_record.specs.Records.{IsRecordOf}
use Rattle.record_edits.specs.Between.{IsReady, MayBeEdited}
use Rattle.record_edits.specs.Given.{TakesRuns}
use Rattle.record_edits.specs.InPlace.{IsUnnamed, WritesInPlace, is_bits_key}
use Rattle.record_edits.proofs.PlaceCalls.{ready-place}
use Rattle.record_edits.proofs.PlaceEdits.{same}
use Rattle.value_edits.proofs.Below.{marks-right, right_marks}
use Rattle.value_edits.proofs.EditedRecord.{ready-sound}
use Rattle.value_edits.proofs.GivenBack.{ready-taken}
use Rattle.value_edits.proofs.Prepared.{no-room}
use Rattle.tree_edit.specs.Below.{IsInitialized}
use Rattle.tree_edit.specs.Links.{CanWrite, CanWriteFile}
use Rattle.tree_edit.proofs.Below.{node-file}
use Rattle.tree_edit.proofs.LinkLaws.{initialized}

-- RECORDS are as they were, and lie where they lay.
module _ (old mid : VolumeView) (f : ℕ) (can : CanWriteFile old f) (records : records_of mid ≡ records_of old)
    (layout : mid.layout ≡ old.layout) (blocks : (n : ℕ) → mid.block n ≡ old.block n) where
  pub file-still : IsFile mid f
  file-still = subst (λ (r : Records). IsSomeAnd (r.record_at f) (λ its. IsTrue (is_base its))) (sym records)
      (node-file old f can.node can.can.there)

  pub apart-still : IsApart mid.layout
  apart-still = subst IsApart (sym layout) can.write.apart

  write-still : CanWrite mid
  write-still = record {
    apart = apart-still;
    written = λ n used. subst (λ (l : TableLayout). 1024 * n + 1024 ≤ l.initialized) (sym layout)
        (can.write.written n (subst (λ (r : Records). IsTrue (is_some (r.record_at n))) records used));
  }

  pub initialized-still : IsInitialized mid f
  initialized-still = initialized mid f write-still

  pub own-still : (n : ℕ) → IsRecordOf mid f n → IsRecordOf old f n
  own-still n own = record {
    belongs = subst (λ (r : Records). IsSomeAnd (r.record_at n) (λ its. file_of n its ≡ f)) records own.belongs;
    well_formed = subst IsWellFormed (blocks n) own.well_formed;
  }

-- THE RUN, AND THE BYTES
module _ (old flagged mid : VolumeView) (f : ℕ) (name : List ℕ) (can : CanWriteFile old f) (may : MayBeEdited f) (runs : List Run)
    (run : Option Run) (from : ℕ) (bytes : List ℕ)
    (spots : (vcn : ℕ) → spot_at (parts_at old f DATA name) vcn ≡ spot_of runs vcn) (takes : TakesRuns old flagged (option_to_list run))
    (writes : WritesStream flagged mid (spot_of (runs ++ option_to_list run)) from bytes)
    (inside : (c : ℕ) → 1 ≤ times_covered (option_to_list run) c → c < old.layout.clusters)
    (unowned : (c : ℕ) → 1 ≤ times_covered (option_to_list run) c → times_owned (records_of old) c ≡ 0) where
  pub records-flagged : records_of flagged ≡ records_of old
  records-flagged = same is_bits_key old flagged takes.writes

  pub records-mid : records_of mid ≡ records_of old
  records-mid = records-written flagged mid (spot_of (runs ++ option_to_list run)) from bytes writes ∙ records-flagged

  pub layout-mid : mid.layout ≡ old.layout
  layout-mid = writes.layout ∙ takes.writes.layout

  pub blocks-mid : (n : ℕ) → mid.block n ≡ old.block n
  blocks-mid n = writes.blocks n ∙ takes.writes.blocks n

  itself : same_key (key_of f DATA name) (key_of f DATA name) ≡ true
  itself = and_from (DATA == DATA) _ refl
      (and_from (f == f) (bytes_eq name name) (eq-eqb f f refl) ((bytes_eq-Decides name name).1 refl))

  -- where bytes were put no other attribute lies
  not-put : (c : ℕ) → 1 ≤ times_owned (records_of flagged) c → IsUnnamed (same_key (key_of f DATA name)) flagged c → (vcn : ℕ)
      → spot_of (runs ++ option_to_list run) vcn ≡ At c → ⊥
  not-put c owned free vcn at = elim (cases_lt vcn (total_clusters runs)) [
    | inl low ↦
        free f DATA name itself vcn (ap (λ (r : Records). spot_at (filter (is_of DATA name) (parts r f)) vcn) records-flagged ∙ spots vcn
        ∙ sym (spot_of-front runs (option_to_list run) vcn low) ∙ at)
    | inr past ↦
        let its = times_in-spot_of (option_to_list run) (vcn - total_clusters runs) c
        (sym (spot_of-back runs (option_to_list run) vcn past) ∙ at) in
        let none = ap (λ (r : Records). times_owned r c) records-flagged ∙ unowned c its in
        absurd (omega (arith, none, owned))
  ]

  fills : WritesInPlace (same_key (key_of f DATA name)) flagged mid
  fills = record {
    told = writes.told;
    layout = writes.layout;
    blocks = writes.blocks;
    copies = writes.copies;
    rest = writes.rest;
    clusters = λ c owned free. writes.clusters c (λ k within. not-put c owned free (k / cluster_bytes flagged.layout));
  }

  abbrev marks : Marks
  marks = right_marks old

  ready-flagged : IsReady flagged marks
  ready-flagged = ready-taken old flagged (option_to_list run) takes marks
      (ready-sound old marks can.can.sound can.can.apart (marks-right old)) inside

  pub readable-mid : IsReadableVolume mid
  readable-mid = (ready-place (same_key (key_of f DATA name)) flagged mid fills marks ready-flagged
      (no-room (key_of f DATA name) refl may)).editable.readable
