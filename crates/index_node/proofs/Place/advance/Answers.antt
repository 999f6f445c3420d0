use Rattle.std.proofs.Common.{ap, arith, add-one}
use Rattle.ntfs_def.specs.Node.{entry_len}
use Rattle.index_node.proofs.NodeLaws.{entry_place-next}
use Rattle.index_node.proofs.PlaceLaws.{count_is, there}
use Rattle.index_node.proofs.Place.advance.Goals as goal

pub entry_len-requires : goal.entry_len-requires
entry_len-requires c =
    let place = c.args.self.now in
    let inside = place.view.inside in
    let whole = there place in
    omega (arith, whole.header, inside)

pub overflow_add-self-2 : goal.overflow_add-self-2
overflow_add-self-2 c = let all = count_is c.args.self.now in omega (arith, all, c.requires)

pub invariant_of-self : goal.invariant_of-self
invariant_of-self c =
    let place = c.args.self.now in
    let all = count_is place in
    let next = entry_place-next place.view.node.now place.view.first place.number in
    let len = ap (entry_len place.view.node.now) place.stands in
    record {
      within = omega (arith, all, c.requires);
      stands = rw add-one (omega (arith, place.stands, len, next, c.entry_len.ensures));
    }
