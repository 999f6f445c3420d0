use Rattle.std.proofs.Common.{◌<◌, arith}
use Rattle.volume_def.specs.Table.{cluster_bytes}
use Rattle.list_laws.proofs.OptionLaws.{ok-weaker}
use Rattle.mft_table.specs.Mft.{fetched_of, view}
use Rattle.mft_table.proofs.StreamReads.{MftReads-within}
use Rattle.view_index.proofs.IdLaws.{can-find-id, entry-said, id-costs}
use Rattle.view_index.proofs.ids.find_in.Goals as goal

pub find_key-requires-clause-rising : goal.find_key-requires-clause-rising
find_key-requires-clause-rising g c told =
    let volume = view g.D.Disk c.args.mft.now in
    let some : 0 < cluster_bytes volume.layout = omega (arith, c.args.mft.now.stands.table.some) in
    can-find-id volume c.args.file.now (c.requires.held told) some c.args.index c.requires.found c.requires.name _

pub returns-clause-found : goal.returns-clause-found
returns-clause-found g c =
    let volume = view g.D.Disk c.args.mft.now in
    let some : 0 < cluster_bytes volume.layout = omega (arith, c.args.mft.now.stands.table.some) in
    ok-weaker c.find_key.result
    (λ entry finds told. entry-said volume c.args.file.now (c.requires.held told) some c.args.index c.requires.found c.requires.name
    c.args.id _ entry c.put_u32.ensures.value (finds told))
    c.find_key.ensures.found

pub returns-clause-fetched : goal.returns-clause-fetched
returns-clause-fetched g c told =
    let volume = view g.D.Disk c.args.mft.now in
    let some : 0 < cluster_bytes volume.layout = omega (arith, c.args.mft.now.stands.table.some) in
    let costs = id-costs volume c.args.file.now (c.requires.held told) some c.args.index c.requires.found c.requires.name _
    (fetched_of g.D.Disk c.args.mft.now) (fetched_of g.D.Disk c.find_key.new.mft) (c.find_key.ensures.fetched told) in
    MftReads-within g.D.Disk c.args.mft.now c.find_key.new.mft _ _ c.find_key.ensures.reads.1 costs
