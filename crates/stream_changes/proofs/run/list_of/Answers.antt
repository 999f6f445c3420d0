use Rattle.std.proofs.Common.{◌≡◌, [], ap, refl, arith}
use Rattle.ntfs_def.specs.Runs.{total_clusters}
use Rattle.stream_changes.proofs.LeftRecord.{few-placed}
use Rattle.stream_changes.proofs.run.list_of.Goals as goal

pub append-requires-clause-total : goal.append-requires-clause-total
append-requires-clause-total c =
    let none : total_clusters [] ≡ 0 = refl in
    omega (
      arith,
      none,
      ap total_clusters c.new-list.ensures,
      few-placed c.args.run.len c.args.run.lcn c.requires.placed c.requires.new.reach,
    )
