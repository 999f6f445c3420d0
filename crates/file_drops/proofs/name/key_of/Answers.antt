use Rattle.std.proofs.Common.{ap, ◌∙◌}
use Rattle.ntfs_def.specs.FileName.{key_units}
use Rattle.mft_table.specs.Mft.{view}
use Rattle.file_drops.proofs.NamedLaws.{value-units}
use Rattle.file_drops.proofs.name.key_of.Goals as goal

pub returns-clause-units : goal.returns-clause-units
returns-clause-units g c told its =
    let given = c.in_ok-file.ensures in
    ap key_units (c.from_vec.ensures ∙ c.in_ok-key.ensures.items)
    ∙ value-units (view g.D.Disk c.args.mft.now) c.in_ok-file.file c.args.n
    (given.parts told its.ready.editable.readable its.is_file) given.number its.name its.only c.in-Some.value.now c.in-Some.ensures.held
