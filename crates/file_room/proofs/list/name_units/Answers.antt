use Rattle.std.proofs.Common.{length, ap, arith}
use Rattle.file_room.proofs.ListLaws.{name-short}
use Rattle.file_room.proofs.list.name_units.Goals as goal

pub returns-clause-few : goal.returns-clause-few
returns-clause-few c = omega (arith, ap length c.name.ensures, name-short c.args.attribute.now)
