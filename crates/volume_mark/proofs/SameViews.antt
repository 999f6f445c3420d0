-- The same volume, but for a value of which no clause asks, and clusters at which neither a clause nor the reading looks.
use Rattle.std.proofs.Common.{◌≡◌, ◌≤◌, ℕ, List, refl, ◌∙◌}
use Rattle.std.specs.Prelude.{Contains}
use Rattle.ntfs_def.specs.declared.records.TheConstants.{VOLUME}
use Rattle.volume_def.specs.Coverage.{times_covered}
use Rattle.volume_def.specs.Files.{Part, file_of, part_runs, parts, records_of}
use Rattle.volume_def.specs.Looked.{IsLookedAt}
use Rattle.volume_def.specs.Sound.{IsSound}
use Rattle.volume_def.specs.View.{VolumeView}
use Rattle.tree_model.specs.Reading.{read}
use Rattle.volume_def.specs.Looked.{with_clusters}
use Rattle.volume_edits.specs.Quiet.{EditsQuietly, with_blocks}
use Rattle.volume_def.proofs.LookedLaws as looked
use Rattle.volume_edits.proofs.QuietClauses.{sound-kept}
use Rattle.volume_edits.proofs.RecordEdits.{covering-stood}
use Rattle.volume_mark.specs.Shown.{KeepsShown}
use Rattle.volume_mark.proofs.ReadingClusters.{read-clusters}
use Rattle.volume_mark.proofs.ReadingKept.{read-version}

module _ (view : VolumeView) (block copy cluster rest : ℕ → List ℕ) (n : ℕ) (was now : Part) (e : EditsQuietly view block copy n was now)
    (kept : (c : ℕ) → IsLookedAt view c → cluster c ≡ view.cluster c) (shown : KeepsShown view cluster) where
  abbrev mid : VolumeView
  mid = with_blocks view block copy

  abbrev other : VolumeView
  other = with_clusters mid copy cluster rest

  -- a part that covers a cluster stood there before
  stood : (f : ℕ) (part : Part) (c : ℕ) → Contains (parts (records_of mid) f) part → 1 ≤ times_covered (part_runs part) c
      → Contains (parts (records_of view) f) part
  stood = covering-stood view block copy n was now e

  looked-mid : (c : ℕ) → IsLookedAt mid c → cluster c ≡ mid.cluster c
  looked-mid c l = kept c (record {
    file = l.file;
    part = l.part;
    among = stood l.file l.part c l.among l.covered;
    looked = l.looked;
    covered = l.covered;
  })

  pub shown-mid : KeepsShown mid cluster
  shown-mid f told c o =
      shown f told c (record { part = o.part; among = stood f o.part c o.among o.covered; covered = o.covered })

  pub sound-other : IsSound view → IsSound other
  sound-other sound clause m =
      looked.clause-kept mid copy cluster rest (λ k few. refl) looked-mid clause m (sound-kept view block copy n was now e sound clause m)

  pub reads-other : file_of n e.edit.was_record ≡ VOLUME → read other ≡ read view
  reads-other file = read-clusters mid copy cluster rest shown-mid ∙ read-version view block copy n was now e file
