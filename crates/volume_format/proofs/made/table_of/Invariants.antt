use Rattle.std.proofs.Common.{◌≡◌, ℕ, ◌*◌, ◌<◌, length}
use Rattle.volume_format.specs.Made.{block_in}
use Rattle.volume_format.specs.Plan.{record_in_list, record_list}
use Rattle.volume_format.specs.StoredRecord.{IsStoredRecord}
use Rattle.volume_format.proofs.made.table_of.Given as goal

abbrev pub invariant-loop-n : goal.invariant-loop-n
invariant-loop-n l = record {
  len : length l.table.items ≡ 1024 * l.n;
  long : length l.block ≡ 1024;
  blocks : (m : ℕ) → m < l.n → IsStoredRecord m (record_in_list (record_list l.fn.places) m) (block_in l.table.items m);
}
