use Rattle.std.proofs.Common.{ℕ, List, Option, subst}
use Rattle.std.specs.Prelude.{IfSome}
use Rattle.ntfs_def.specs.Node.{short_node}
use Rattle.ntfs_def.specs.declared.index.NodeForm.TheVariants.{Names}
use Rattle.index_tree.specs.Edit.{short_nodes}
use Rattle.index_tree.proofs.EditMemory.{is_some_of}
use Rattle.index_puts.specs.declared.leaf.Leaf.{Leaf}
use Rattle.index_puts.specs.Leaf.{EndsIn, ReadsLeaf}
use Rattle.tree_model.specs.LeafRoom.{leaf_of}
use Rattle.index_puts.proofs.RoomLaws.{leaf_room, no_leaf}
use Rattle.index_puts.proofs.room.room_in_leaf.Goals as goal

pub room_behind-requires : goal.room_behind-requires
room_behind-requires g c =
    let order = g.C.Collation.order c.args.order.now in
    let ends = subst (λ (leaf : Option Leaf). IfSome leaf (EndsIn order c.args.key.now c.find_leaf.new.block)) c.in-Some.is
    c.in_ok-find_leaf.ensures.ends in
    is_some_of ends.place.is

pub returns-in-Some-clause-room : goal.returns-in-Some-clause-room
returns-in-Some-clause-room g c = λ r told.
    let order = g.C.Collation.order c.args.order.now in
    let side : List ℕ → _ = λ x. order x c.args.key.now in
    let root = short_node Names c.args.root.now in
    leaf_room side r root c.find_leaf.new.block c.in-Some.field-0
    (subst (λ (leaf : Option Leaf). ReadsLeaf r (leaf_of side (short_nodes Names r) root) leaf c.find_leaf.new.block) c.in-Some.is
    (c.in_ok-find_leaf.ensures.leaf r told)) c.args.len c.room_behind.result c.room_behind.ensures

pub returns-in-None-clause-room : goal.returns-in-None-clause-room
returns-in-None-clause-room g c = λ r told.
    let order = g.C.Collation.order c.args.order.now in
    let side : List ℕ → _ = λ x. order x c.args.key.now in
    let root = short_node Names c.args.root.now in
    no_leaf side r root c.find_leaf.new.block c.args.len
    (subst (λ (leaf : Option Leaf). ReadsLeaf r (leaf_of side (short_nodes Names r) root) leaf c.find_leaf.new.block) c.in-None.is
    (c.in_ok-find_leaf.ensures.leaf r told))
