use Rattle.std.proofs.Common.{◌<◌, ◌∙◌, arith}
use Rattle.volume_def.specs.Table.{cluster_bytes}
use Rattle.mft_table.specs.Mft.{mounted_of, view}
use Rattle.list_laws.proofs.OptionLaws.{ok-weaker}
use Rattle.index_puts.proofs.DepthLaws.{held_depth, held_tree}
use Rattle.index_puts.proofs.HeldLaws.{has-index}
use Rattle.index_puts.proofs.depth.index_depth.Goals as goal

pub returns-in_default-clause-depth : goal.returns-in_default-clause-depth
returns-in_default-clause-depth g c = λ told.
    let volume = view g.D.Disk c.args.mft.now in
    let holds = c.requires.held told in
    absurd (has-index volume c.args.dir.now (mounted_of g.D.Disk c.args.mft.now).upcase holds.items holds.held c.in_default.ensures.none)

pub depth_found-requires-clause-tree : goal.depth_found-requires-clause-tree
depth_found-requires-clause-tree g c = λ told.
    let volume = view g.D.Disk c.args.mft.now in
    let some : 0 < cluster_bytes volume.layout = omega (arith, c.args.mft.now.stands.table.some) in
    let holds = c.requires.held told in
    held_tree volume c.args.dir.now (mounted_of g.D.Disk c.args.mft.now).upcase holds.items holds.held some c.in-Some.index
    c.in-Some.ensures.found c.in-Some.ensures.name

pub returns-clause-depth : goal.returns-clause-depth
returns-clause-depth g c =
    let volume = view g.D.Disk c.args.mft.now in
    let table = (mounted_of g.D.Disk c.args.mft.now).upcase in
    let some : 0 < cluster_bytes volume.layout = omega (arith, c.args.mft.now.stands.table.some) in
    let index = c.in-Some.index in
    let its = c.in-Some.ensures in
    ok-weaker c.depth_found.result (λ depth is told.
    let holds = c.requires.held told in
    is told (held_tree volume c.args.dir.now table holds.items holds.held some index its.found its.name)
    ∙ held_depth volume c.args.dir.now table holds.items holds.held some index its.found its.name) c.depth_found.ensures.depth
