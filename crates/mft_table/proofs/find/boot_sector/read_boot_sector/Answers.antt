use Rattle.std.proofs.Common.{◌≡◌, ◌<◌, sym, arith}
use Rattle.mft_table.proofs.BootSectors.{boot_sector-none, boot_sector-read}
use Rattle.mft_table.proofs.find.boot_sector.read_boot_sector.Goals as goal

pub returns-in_ok-read-clause-sector : goal.returns-in_ok-read-clause-sector
returns-in_ok-read-clause-sector g c image told =
    let some : 0 < c.sectors.result = omega (arith, c.if-sectors-gt0.true) in
    boot_sector-read _ image _ _ c.sectors.ensures.length some c.in_ok-read.ensures.read told

pub returns-else-sectors-gt0-clause-sector : goal.returns-else-sectors-gt0-clause-sector
returns-else-sectors-gt0-clause-sector g c image told =
    let none : c.sectors.result ≡ 0 = omega (arith, c.if-sectors-gt0.false) in
    sym (boot_sector-none _ image _ c.sectors.ensures.length none told)
