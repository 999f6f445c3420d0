use Rattle.std.proofs.Common.{length, ap, arith}
use Rattle.file_room.proofs.ListLaws.{name-short}
use Rattle.file_room.proofs.list.listed_len.Goals as goal

pub entry_len-requires : goal.entry_len-requires
entry_len-requires c = omega (arith, ap length c.name.ensures, name-short c.args.attribute.now)

pub returns-clause-few : goal.returns-clause-few
returns-clause-few c = omega (arith, c.entry_len.ensures, ap length c.name.ensures, name-short c.args.attribute.now)
