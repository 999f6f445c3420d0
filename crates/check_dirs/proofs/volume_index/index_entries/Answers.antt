use Rattle.std.proofs.Common.{ℕ, List, Option, None, Some, ap, cond}
use Rattle.list_laws.proofs.OptionLaws.{ok-weaker}
use Rattle.mft_table.specs.Mft.{view}
use Rattle.index_store.specs.Index.{index_held}
use Rattle.index_store.specs.IndexRecords.{index_record_on}
use Rattle.check_dirs.proofs.volume_index.index_entries.Goals as goal

pub returns-clause-index : goal.returns-clause-index
returns-clause-index g c =
    let records : ℕ → Option (List ℕ) = index_record_on (view g.D.Disk c.args.mft.now) (index_held c.args.file.now c.args.index.name.now) in
    ok-weaker c.check_index.result
    (λ found tells told. tells records (ap (λ b. cond b (Some records) None) told))
    c.check_index.ensures.index
