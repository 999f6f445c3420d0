-- The room of a volume, from its records: each owned cluster is in one purse.
use Rattle.std.specs.Prelude.{◌≡◌, ℕ, ◌+◌, ◌-◌, ◌*◌, ◌≤◌, ◌==◌, ◌&&◌, ◌||◌, not, nat_le, nat_lt, Bool, true, false, List, [], length}
use Rattle.std.specs.Prelude.{filter, sum_by, Option, Some, None, is_some, max, if◌then◌else◌}
use Rattle.std.specs.List.{flat_map, range_with_len}
use Rattle.ntfs_def.specs.declared.kinds.TheConstants.{BITMAP, DATA, STANDARD_INFORMATION}
use Rattle.ntfs_def.specs.declared.records.TheConstants.{FIRST_ORDINARY, MFT}
use Rattle.ntfs_def.specs.declared.run_text.Run.{Run}
use Rattle.volume_def.specs.Files.{Part, Record, Records, file_of, is_of, part_runs, parts, records_of}
use Rattle.volume_def.specs.ListsClause.{is_list}
use Rattle.volume_def.specs.Table.{cluster_bytes}
use Rattle.volume_def.specs.View.{VolumeView}
use Rattle.volume_def.specs.ListsClause.{listed_parts}
use Rattle.edit_def.specs.Account.{entry_bytes, is_among, Plan, Room, Wants}
use Rattle.ntfs_def.specs.Rounded.{clusters_for}
use Rattle.volume_def.specs.Room.{list_entry_len, longest_name}

-- the clusters of a run; a hole has none
abbrev pub run_size : Run → ℕ
run_size run = if is_some run.lcn then run.len else 0

-- the clusters that a part owns
abbrev pub part_size : Part → ℕ
part_size part = sum_by run_size (part_runs part)

-- the parts of a record of file f that a test of the file and the part chooses
abbrev pub chosen : (ℕ → Part → Bool) → ℕ → Option Record → List Part
chosen test n None = []
chosen test n (Some r) = filter (test (file_of n r)) r.parts

unfoldable pub all_chosen : (ℕ → Part → Bool) → Records → List Part
all_chosen test records = flat_map (λ n. chosen test n (records.record_at n)) (range_with_len 0 records.count)

abbrev pub is_list_of : ℕ → ℕ → Part → Bool
is_list_of f g part = (g == f) && is_list part

abbrev pub is_table_data : ℕ → Part → Bool
is_table_data g part = (g == MFT) && is_of DATA [] part

abbrev pub is_table_bits : ℕ → Part → Bool
is_table_bits g part = (g == MFT) && is_of BITMAP [] part

-- what is neither the list of a file of the plan, nor the table or its bitmap
abbrev pub is_value : List ℕ → ℕ → Part → Bool
is_value files g part = not (is_table_data g part) && (not (is_table_bits g part) && not (is_list part && is_among files g))

abbrev pub one_if : Bool → ℕ
one_if b = if b then 1 else 0

-- the ordinary records that are in use
abbrev pub in_use : Records → ℕ
in_use records = sum_by (λ n. one_if (is_some (records.record_at n))) (range_with_len FIRST_ORDINARY (records.count - FIRST_ORDINARY))

-- $STANDARD_INFORMATION and the list stay in the base record
abbrev pub can_leave : Part → Bool
can_leave part = not (is_list part || (part.kind == STANDARD_INFORMATION))

-- a base record with a list that holds no part that can leave it; no part comes back there
abbrev pub is_emptied : Option Record → Bool
is_emptied None = false
is_emptied (Some r) = nat_lt 0 (length (filter is_list r.parts)) && nat_le (length (filter can_leave r.parts)) 0

-- the bytes of an attribute list that names all parts of a file
abbrev pub list_len_in : Records → ℕ → ℕ
list_len_in records f = sum_by list_entry_len (listed_parts (parts records f))

abbrev pub room_in : Records → ℕ → ℕ → Plan → Room
room_in records clusters size plan = record {
  size = size;
  clusters = clusters;
  values = sum_by part_size (all_chosen (is_value plan.files) records);
  list = λ f. sum_by part_size (all_chosen (is_list_of f) records);
  table = sum_by part_size (all_chosen is_table_data records);
  bitmap = sum_by part_size (all_chosen is_table_bits records);
  length = λ f. list_len_in records f;
  name = λ f. longest_name (parts records f);
  records = records.count;
  claimed = FIRST_ORDINARY + in_use records + 4 * sum_by (λ f. one_if (not (is_emptied (records.record_at f)))) plan.files;
}

-- THE ROOM of a volume by a plan
abbrev pub room_of : VolumeView → Plan → Room
room_of view plan = room_in (records_of view) view.layout.clusters (cluster_bytes view.layout) plan

-- the lists of the files of a plan
abbrev pub is_listfile : List ℕ → ℕ → Part → Bool
is_listfile files g part = is_list part && is_among files g

-- all clusters that parts own, each as often as a run has it
abbrev pub all_owned : Records → ℕ
all_owned records = sum_by part_size (all_chosen (λ g part. true) records)

-- WHAT AN EDIT OF ONE RECORD COSTS: file f has the parts `now` in place of `was`, which are no lists, nor the table's or its bitmap's.
-- Names that come are of so many units at most, and entries of a list grow by whole entries of the longest name.
pub record Costs (old new : Records) (n f : ℕ) (was now : List Part) (wants : Wants) : Type 0 where
  pub no_list_was : filter is_list was ≡ []
  pub no_list_now : filter is_list now ≡ []
  pub no_data_was : filter (is_table_data f) was ≡ []
  pub no_data_now : filter (is_table_data f) now ≡ []
  pub no_bits_was : filter (is_table_bits f) was ≡ []
  pub no_bits_now : filter (is_table_bits f) now ≡ []
  pub clusters : sum_by part_size now ≤ sum_by part_size was + wants.clusters
  pub names : longest_name now ≤ max (longest_name (parts old f)) (wants.units f)
  pub entries : (most : ℕ) → max (longest_name (parts old f)) (wants.units f) ≤ most
      → sum_by list_entry_len now ≤ sum_by list_entry_len was + wants.parts f * entry_bytes most
  pub emptied : is_emptied (old.record_at n) ≡ true → is_emptied (new.record_at n) ≡ true

-- What it costs to write the list of file f anew, make it, or move it to clusters: it owns at most what it owned, or what serves its length
-- and one cluster more, of so many bytes.
pub record ListCosts (old new : Records) (n f size : ℕ) (was now : List Part) : Type 0 where
  pub was_lists : filter (λ part. not (is_list part)) was ≡ []
  pub now_lists : filter (λ part. not (is_list part)) now ≡ []
  pub only : sum_by part_size (all_chosen (is_list_of f) old) ≡ sum_by part_size was
  pub bound : sum_by part_size now ≤ max (sum_by part_size was) (clusters_for (list_len_in old f) size + 1)
  pub unnamed : longest_name now ≡ 0
  pub emptied : is_emptied (old.record_at n) ≡ true → is_emptied (new.record_at n) ≡ true
