-- The clause on owners of clusters, S7, by the number of a cluster.
-- Layout: Linux-NTFS documentation, files $Boot and $BadClus; Carrier, File System Forensic Analysis, chapter 11.
use Rattle.std.specs.Prelude.{◌≡◌, ℕ, ◌≤◌, List, [], filter, Option, Some, None}
use Rattle.std.specs.List.{flat_map, range_with_len}
use Rattle.ntfs_def.specs.declared.kinds.TheConstants.{DATA}
use Rattle.ntfs_def.specs.declared.records.TheConstants.{BOOT}
use Rattle.ntfs_def.specs.declared.run_text.Run.{Run}
use Rattle.volume_def.specs.Files.{Record, Records, is_of, joined_runs, parts}
use Rattle.volume_def.specs.Coverage.{times_covered}

-- the runs of all attributes of a record, packed ones too
abbrev pub record_runs : Option Record → List Run
record_runs None = []
record_runs (Some r) = joined_runs r.parts

-- the runs of all records in use
unfoldable pub all_runs : Records → List Run
all_runs records = flat_map (λ n. record_runs (records.record_at n)) (range_with_len 0 records.count)

-- how often a cluster is owned
unfoldable pub times_owned : Records → ℕ → ℕ
times_owned records cluster = times_covered (all_runs records) cluster

-- the runs of the unnamed $DATA of $Boot
abbrev pub boot_runs : Records → List Run
boot_runs records = joined_runs (filter (is_of DATA []) (parts records BOOT))

-- The clause, on a volume of so many clusters: no cluster behind the last one is owned and none twice, and the boot file has
-- cluster 0.
pub record MeetsOwners (records : Records) (clusters n : ℕ) : Type 0 where
  pub boot : n ≡ 0 → 1 ≤ times_covered (boot_runs records) 0
  pub inside : clusters ≤ n → times_owned records n ≡ 0
  pub once : times_owned records n ≤ 1
