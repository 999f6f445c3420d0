-- The blocks of the table, their copies in the mirror, and the clusters of a volume, by its sectors.
-- Layout: Linux-NTFS documentation, files $MFT and $MFTMirr; Carrier, File System Forensic Analysis, chapter 11.
-- A cluster has whole sectors, so a sector lies in one cluster, and what is said of sectors needs no byte.
use Rattle.std.specs.Prelude.{ℕ, ◌+◌, ◌-◌, ◌*◌, ◌/◌, ◌%◌, List, ◌++◌, take, replicate, length, Option, Some, None}
use Rattle.std.specs.List.{flat_map, range_with_len}
use Rattle.ntfs_def.specs.declared.run_text.Spot.{Spot}
use Rattle.ntfs_def.specs.declared.run_text.Spot.TheVariants.{Outside, Hole, At}
use Rattle.ntfs_def.specs.Runs.{spot_of}
use Rattle.volume_def.specs.Table.{TableLayout, two_sectors}

-- where sector k of the table lies on the disk; `None` in a hole, and behind the runs
abbrev pub place_at : TableLayout → ℕ → Spot → Option ℕ
place_at layout k Outside = None
place_at layout k Hole = None
place_at layout k (At cluster) = Some (cluster * layout.cluster_sectors + k % layout.cluster_sectors)

abbrev pub table_place : TableLayout → ℕ → Option ℕ
table_place layout k = place_at layout k (spot_of layout.runs (k / layout.cluster_sectors))

-- bytes from n on read as zero
abbrev pub cut_off : ℕ → List ℕ → List ℕ
cut_off n bytes = take n bytes ++ replicate (length bytes - n) 0

-- what sector k of the table shows that lies at this place: zeros in a hole, and past the bytes that were written
abbrev pub shown_at : (ℕ → List ℕ) → TableLayout → ℕ → Option ℕ → List ℕ
shown_at disk layout k None = replicate 512 0
shown_at disk layout k (Some place) = cut_off (layout.initialized - 512 * k) (disk place)

abbrev pub table_sector : (ℕ → List ℕ) → TableLayout → ℕ → List ℕ
table_sector disk layout k = shown_at disk layout k (table_place layout k)

-- block n of the table, as stored: bytes 1024 n to 1024 n + 1023 of the unnamed $DATA of record 0
unfoldable pub block_of : (ℕ → List ℕ) → TableLayout → ℕ → List ℕ
block_of disk layout n = table_sector disk layout (2 * n) ++ table_sector disk layout (2 * n + 1)

-- the first sector of the mirror
abbrev pub mirror_sector : TableLayout → ℕ
mirror_sector layout = layout.mirror * layout.cluster_sectors

-- copy n of the mirror, as stored: the copies of the records 0 to 3 lie one behind the other
unfoldable pub copy_of : (ℕ → List ℕ) → TableLayout → ℕ → List ℕ
copy_of disk layout n = two_sectors disk (mirror_sector layout + 2 * n)

-- the bytes of cluster c
unfoldable pub cluster_of : (ℕ → List ℕ) → TableLayout → ℕ → List ℕ
cluster_of disk layout c = flat_map (λ i. disk (c * layout.cluster_sectors + i)) (range_with_len 0 layout.cluster_sectors)
