use Rattle.std.proofs.Common.{◌≡◌, ℕ, List, Option, Some, refl, sym, ap, subst, ◌∙◌}
use Rattle.vol_disk.specs.Contents.{IsTold, sector_in}
use Rattle.volume_def.specs.Blocks.{block_of}
use Rattle.volume_def.specs.Table.{TableLayout}
use Rattle.vol_stage.specs.Staged.{image}
use Rattle.mft_table.specs.Tables.{reader_layout, table_layout}
use Rattle.shell.proofs.label.read_volume_record.Goals as goal

pub returns-clause-ok : goal.returns-clause-ok
returns-clause-ok g c all told =
    let found = c.in_ok-table.ensures.ok all told in
    let same : image g.D.Disk c.find_table.new.stage ≡ Some all = c.in_ok-table.ensures.reads.only_reads.image ∙ told in
    let tells : IsTold (image g.D.Disk c.find_table.new.stage) = subst (λ (o : Option (List ℕ)). IsTold o) (sym same) refl in
    record {
      boot = found.boot;
      layout = table_layout c.in_ok-table.table;
      clause = found.clause;
      block =
          c.in_ok-read_block.ensures.read tells
          ∙ ap (λ (o : Option (List ℕ)). block_of (sector_in o) (reader_layout c.blocks-2.result) 3) same
          ∙ ap (λ (l : TableLayout). block_of (sector_in (Some all)) l 3) c.blocks-2.ensures;
    }
