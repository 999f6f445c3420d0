use Rattle.std.proofs.Common.{◌≡◌, ◌+◌, ◌-◌, Some, length, suc, sym, ap, ◌∙◌, arith}
use Rattle.ntfs_def.specs.Node.{Node, entry_place, first_entry, node_in, room_end, whole_of}
use Rattle.ntfs_def.specs.declared.index.NodeForm.TheVariants.{Names}
use Rattle.index_node.specs.View.{node_of_view}
use Rattle.list_laws.proofs.OptionLaws.{some_same}
use Rattle.index_puts.proofs.BytesLaws.{room-is, stands_at}
use Rattle.index_puts.proofs.bytes.room_behind.Goals as goal

pub overflow_sub-result : goal.overflow_sub-result
overflow_sub-result c =
    let block = c.args.block.now in
    let said = node_of_view c.in-Ok.node in
    let is : node_in Names block ≡ Some said = ap whole_of c.in-Ok.ensures.ok in
    let s = stands_at block said is (length said.entries) (omega arith) in
    let room = room-is block c.told-block in
    let place = c.behind_place.ensures ∙ ap (λ n. entry_place block (first_entry block) (suc n)) c.entries.ensures in
    let have = c.u32_at-room.ensures in
    omega (arith, s.behind, room, place, have)

pub returns : goal.returns
returns c = λ said is.
    let block = c.args.block.now in
    let same : node_of_view c.in-Ok.node ≡ said = some_same (sym (ap whole_of c.in-Ok.ensures.ok) ∙ is) in
    let count = c.entries.ensures ∙ ap (λ (n : Node). length n.entries) same in
    let room = room-is block c.told-block in
    let place = c.behind_place.ensures ∙ ap (λ n. entry_place block (first_entry block) (suc n)) count in
    let have = c.u32_at-room.ensures in
    ap (λ n. n - c.behind_place.result) (ap (λ n. 24 + n) have ∙ room) ∙ ap (λ n. room_end block - n) place
