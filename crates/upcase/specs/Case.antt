-- Why bytes are no table of case.
use Rattle.std.specs.Prelude.{◌≢◌, ℕ, List, length}
use Rattle.ntfs_def.specs.KeyOrder.{case_table_len}
use Rattle.upcase.specs.declared.UpCaseNo.{UpCaseNo}
use Rattle.upcase.specs.declared.UpCaseNo.TheVariants.{Length, Memory}

abbrev pub Refuses : List ℕ → UpCaseNo → Type 0
Refuses bytes Length = length bytes ≢ case_table_len
Refuses bytes Memory = Unit {0}
