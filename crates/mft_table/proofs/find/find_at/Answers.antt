use Rattle.std.proofs.Common.{◌+◌, ◌*◌, ◌<◌, ap, subst, arith, ◌∙◌}
use Rattle.ntfs_def.specs.Boot.{cluster_sectors, mft_cluster}
use Rattle.mft_table.specs.Tables.{table_layout}
use Rattle.mft_table.proofs.BootSectors.{length-told}
use Rattle.mft_table.proofs.TableLaws.{first_record-past, first_record-read, first_sector, has_table, lies_on, meets_clause}
use Rattle.mft_table.proofs.find.find_at.Goals as goal

pub returns-then-sector-sectors-clause-err : goal.returns-then-sector-sectors-clause-err
returns-then-sector-sectors-clause-err g c image told boot is layout clause =
    let size = c.sectors.result in
    let len = length-told _ image size c.sectors.ensures.length told in
    let place = ap (λ n. c.args.geometry.now.mft * n) c.from.ensures ∙ first_sector c.args.geometry.now boot is in
    let past : size < mft_cluster boot * cluster_sectors boot + 2 = subst (λ n. size < n + 2) place c.if-sector-sectors.true in
    first_record-past image boot size len past clause.readable

pub returns-in-Some-clause-ok : goal.returns-in-Some-clause-ok
returns-in-Some-clause-ok g c image told boot is =
    let (geometry, has) = rw c.in-Some.is at c.in_ok-table.ensures.some in
    let place = ap (λ n. c.args.geometry.now.mft * n) c.from.ensures in
    let read = first_record-read _ image _ boot c.args.geometry.now _ told c.in_ok-read_two_sectors.ensures.read place is in
    meets_clause _ boot _ c.args.geometry.now (table_layout c.in-Some.table) is read has

pub returns-in-Some-clause-lies : goal.returns-in-Some-clause-lies
returns-in-Some-clause-lies g c =
    let (geometry, has) = rw c.in-Some.is at c.in_ok-table.ensures.some in
    lies_on c.args.geometry.now _ _ (table_layout c.in-Some.table) c.requires has.tells

pub returns-in-None-clause-err : goal.returns-in-None-clause-err
returns-in-None-clause-err g c image told boot is layout clause =
    let none = rw c.in-None.is at c.in_ok-table.ensures.none in
    let place = ap (λ n. c.args.geometry.now.mft * n) c.from.ensures in
    let read = first_record-read _ image _ boot c.args.geometry.now _ told c.in_ok-read_two_sectors.ensures.read place is in
    none layout (has_table _ boot _ c.args.geometry.now layout is read clause)

pub returns-in-Some-clause-records : goal.returns-in-Some-clause-records
returns-in-Some-clause-records g c =
    let (geometry, has) = rw c.in-Some.is at c.in_ok-table.ensures.some in
    omega (arith, has.tells.table.count, has.tells.table.fits.least)
