use Rattle.std.proofs.Common.{sym, subst}
use Rattle.std.specs.Prelude.{IsTrue}
use Rattle.volume_def.specs.View.{VolumeView}
use Rattle.mft_table.specs.Mft.{view}
use Rattle.mft_table.proofs.DiskKept.{KeepsDisk-reads, KeepsDisk-then}
use Rattle.file_record.specs.Held.{file_number}
use Rattle.file_record.proofs.ReadLaws.{view-kept}
use Rattle.file_makes.proofs.UnderLaws.{enters-name, staged-entry}
use Rattle.file_makes.proofs.under.put_under.Goals as goal

pub returns-in_err-put_in_index-clause-places : goal.returns-in_err-put_in_index-clause-places
returns-in_err-put_in_index-clause-places g c told =
    let same = view-kept g.D.Disk c.args.mft.now c.load.new.mft 20678 c.in_ok-directory.ensures.reads in
    staged-entry g.D.Disk c.args.mft.now c.load.new.mft c.put_in_index.new.mft 20678 c.in_ok-directory.ensures.reads
    (file_number c.in_ok-directory.directory) c.args.dir c.in_ok-directory.ensures.number
    (c.put_in_index.ensures.places (subst (λ (v : VolumeView). IsTrue v.told) (sym same) told))

pub returns-clause-enters : goal.returns-clause-enters
returns-clause-enters g c told =
    let same = view-kept g.D.Disk c.args.mft.now c.load.new.mft 20678 c.in_ok-directory.ensures.reads in
    enters-name (view g.D.Disk c.args.mft.now) (view g.D.Disk c.load.new.mft) (view g.D.Disk c.put_in_index.new.mft) c.args.dir
    (file_number c.in_ok-directory.directory) c.args.file c.args.key.now c.in_ok-entry.entry.items c.deref.result.now same
    c.in_ok-directory.ensures.number c.deref.ensures.value c.in_ok-entry.ensures
    (c.in_ok-put_in_index.ensures.enters (subst (λ (v : VolumeView). IsTrue v.told) (sym same) told))

pub returns-clause-places : goal.returns-clause-places
returns-clause-places g c told =
    let same = view-kept g.D.Disk c.args.mft.now c.load.new.mft 20678 c.in_ok-directory.ensures.reads in
    staged-entry g.D.Disk c.args.mft.now c.load.new.mft c.put_in_index.new.mft 20678 c.in_ok-directory.ensures.reads
    (file_number c.in_ok-directory.directory) c.args.dir c.in_ok-directory.ensures.number
    (c.put_in_index.ensures.places (subst (λ (v : VolumeView). IsTrue v.told) (sym same) told))

pub returns-clause-disk : goal.returns-clause-disk
returns-clause-disk g c =
    KeepsDisk-then g.D.Disk c.args.mft.now c.load.new.mft c.put_in_index.new.mft
    (KeepsDisk-reads g.D.Disk c.args.mft.now c.load.new.mft 20678 c.in_ok-directory.ensures.reads) c.put_in_index.ensures.disk
