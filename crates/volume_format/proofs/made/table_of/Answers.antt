use Rattle.std.proofs.Common.{◌≡◌, ℕ, List, length, arith, ap, ◌∙◌, subst, sym, length-append}
use Rattle.volume_format.specs.Made.{block_in}
use Rattle.volume_format.specs.Plan.{record_in_list, record_list}
use Rattle.volume_format.specs.StoredRecord.{IsStoredRecord}
use Rattle.volume_format.proofs.TableBlocks.{blocks-more}
use Rattle.volume_format.proofs.made.table_of.Goals as goal

pub loop-n-preserved : goal.loop-n-preserved
loop-n-preserved c =
    let before = c.loop-n.invariant in
    let table : List ℕ = c.loop-n.table.items in
    let block : List ℕ = c.fill_stored.new.block in
    let long : length block ≡ 1024 = c.fill_stored.array_long in
    let P = λ (m : ℕ) (stored : List ℕ). IsStoredRecord m (record_in_list (record_list c.args.places.now) m) stored in
    let each = blocks-more P table block c.loop-n.n before.len long before.blocks c.in_ok-fill_stored.ensures in
    let items = c.in_ok-extend_from_slice.ensures.items in
    record {
      len = ap length items ∙ length-append table block ∙ omega (arith, before.len, long);
      long = long;
      blocks = λ m lt. subst (λ all. P m (block_in all m)) (sym items) (each m lt);
    }
