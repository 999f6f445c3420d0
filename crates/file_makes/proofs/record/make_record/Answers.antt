use Rattle.mft_table.specs.Mft.{mounted_of}
use Rattle.file_record.specs.Held.{file_number}
use Rattle.file_makes.proofs.RecordSteps.{least-once, made-places}
use Rattle.file_makes.proofs.record.make_record.Goals as goal

pub returns-in_err-fill_record-clause-places : goal.returns-in_err-fill_record-clause-places
returns-in_err-fill_record-clause-places g c n least =
    made-places g.D.Disk c.args.mft.now c.create.new.mft c.fill_record.new.mft n (file_number c.in_ok-file.file)
    (least-once (mounted_of g.D.Disk c.args.mft.now).records (file_number c.in_ok-file.file) n c.in_ok-file.ensures.least least)
    c.in_ok-file.ensures.least
    c.in_ok-file.ensures.bits c.in_ok-file.ensures.stages.places c.fill_record.ensures.places

pub returns-clause-places : goal.returns-clause-places
returns-clause-places g c n least =
    made-places g.D.Disk c.args.mft.now c.create.new.mft c.fill_record.new.mft n (file_number c.in_ok-file.file)
    (least-once (mounted_of g.D.Disk c.args.mft.now).records (file_number c.in_ok-file.file) n c.in_ok-file.ensures.least least)
    c.in_ok-file.ensures.least
    c.in_ok-file.ensures.bits c.in_ok-file.ensures.stages.places c.fill_record.ensures.places
