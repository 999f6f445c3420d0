-- THE NEED of a command: the clusters and records that have to be free before it is tried, by its bill. `size` is the bytes of a
-- cluster, `free` the records that are free. That room is asked for beforehand, and how much, is this project's choice.
use Rattle.std.specs.Prelude.{ℕ, ◌+◌, ◌*◌, nat_le, List, [], length, sum_by, Option, if◌then◌else◌}
use Rattle.std.specs.List.{range_with_len}
use Rattle.ntfs_def.specs.declared.lengths.TheConstants.{INDEX_RECORD, RECORD}
use Rattle.ntfs_def.specs.Rounded.{clusters_for}

-- A file that a command touches: its number, `None` of a new one; the bytes of an attribute list that names all its attributes;
-- and the units of its longest attribute name, one that the command adds too.
pub record Touched : Type 0 where
  pub file : Option ℕ
  pub list_len : ℕ
  pub name_units : ℕ

-- The entries of one index that count: the file that holds the index, the depth of the index, and how many entries.
pub record Counted : Type 0 where
  pub file : ℕ
  pub depth : ℕ
  pub entries : ℕ

-- THE BILL of a command. A command that asks for no room has the empty one.
pub record Bill : Type 0 where
  -- files that it makes
  pub new_files : ℕ
  -- clusters that its stream, or its reparse point, may come to own
  pub clusters : ℕ
  pub touched : List Touched
  pub counted : List Counted

abbrev pub empty_bill : Bill
empty_bill = record { new_files = 0; clusters = 0; touched = []; counted = [] }

-- An entry may split each node on its way, and deepen the index. The next one of the same index finds it one deeper.
abbrev pub entry_levels : Counted → ℕ
entry_levels counted = sum_by (λ i. counted.depth + i + 3) (range_with_len 0 counted.entries)

abbrev pub levels_of : Bill → ℕ
levels_of bill = sum_by entry_levels bill.counted

-- the records that the command may take
abbrev pub records_wanted : Bill → ℕ
records_wanted bill = bill.new_files + 8 * length bill.touched + bill.clusters + 2 * levels_of bill

-- the parts that it may add to a file
abbrev pub parts_wanted : Bill → ℕ
parts_wanted bill = 8 + bill.clusters + 2 * levels_of bill

-- the bytes by which the attribute list of a file may grow
abbrev pub list_growth : Bill → Touched → ℕ
list_growth bill touched = parts_wanted bill * (32 + 2 * touched.name_units)

-- the clusters that the list may then fill
abbrev pub list_clusters : ℕ → Bill → Touched → ℕ
list_clusters size bill touched = clusters_for (touched.list_len + list_growth bill touched) size + 1

-- the clusters of the index records that its entries may take
abbrev pub index_clusters : ℕ → Bill → ℕ
index_clusters size bill = clusters_for INDEX_RECORD size * levels_of bill

-- the clusters by which the table of records, and its bitmap, may grow
abbrev pub table_growth : ℕ → ℕ → Bill → ℕ
table_growth size free bill = if nat_le (records_wanted bill) free then 0 else clusters_for (records_wanted bill * RECORD) size + 2

-- THE NEED, in clusters
abbrev pub need_of : ℕ → ℕ → Bill → ℕ
need_of size free bill =
    bill.clusters + index_clusters size bill + sum_by (list_clusters size bill) bill.touched + table_growth size free bill
