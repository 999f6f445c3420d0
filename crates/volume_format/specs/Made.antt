-- The bytes of a new volume that are made in memory.
use Rattle.std.specs.Prelude.{◌≡◌, ℕ, ◌+◌, ◌*◌, ◌<◌, ◌≤◌, List, length, slice_range, None}
use Rattle.ntfs_def.specs.Boot.{boot_failing}
use Rattle.volume_format.specs.NewBoot.{HasGeometry}
use Rattle.volume_format.specs.Options.{Options, plan_of}
use Rattle.volume_format.specs.Plan.{Plan, record_count, record_in_list, record_list, table_len}
use Rattle.volume_format.specs.Planned.{IsRootRecord}
use Rattle.volume_format.specs.StoredRecord.{IsStoredRecord}

-- the block of record n in the bytes of a table
abbrev pub block_in : List ℕ → ℕ → List ℕ
block_in table n = slice_range table (1024 * n) (1024 * n + 1024)

-- These are the bytes of the table: the blocks of its records, one behind the other.
pub record IsTable (p : Plan) (table : List ℕ) : Type 0 where
  pub len : length table ≡ table_len
  pub blocks : (n : ℕ) → n < record_count → IsStoredRecord n (record_in_list (record_list p) n) (block_in table n)

-- The boot sector, the table and the index record of the root are those of the volume that the options choose.
pub record AreMade (o : Options) (boot table root : List ℕ) : Type 0 where
  pub boot_len : length boot ≡ 512
  pub geometry : HasGeometry o boot
  pub clause : (disk : ℕ) → o.sectors ≤ disk → boot_failing boot disk ≡ None
  pub is_table : IsTable (plan_of o) table
  pub is_root : IsRootRecord root
