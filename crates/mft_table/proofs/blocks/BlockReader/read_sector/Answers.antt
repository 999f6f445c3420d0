use Rattle.std.proofs.Common.{sym, arith}
use Rattle.vol_stage.specs.Staged.{disk_of}
use Rattle.mft_table.specs.Tables.{reader_layout}
use Rattle.mft_table.proofs.Places.{table_place-on_disk}
use Rattle.mft_table.proofs.blocks.BlockReader.read_sector.Goals as goal

pub place-requires-clause-fits : goal.place-requires-clause-fits
place-requires-clause-fits g c place at =
    let below = table_place-on_disk (reader_layout c.args.self.now) _ c.args.sector place c.requires.table at in
    omega (arith, below, g.met.D.Disk.size_fits (disk_of g.D.Disk c.args.stage.now))

pub read-requires : goal.read-requires
read-requires g c =
    table_place-on_disk (reader_layout c.args.self.now) _ c.args.sector c.in-Some.place c.requires.table (sym c.in-Some.ensures)
