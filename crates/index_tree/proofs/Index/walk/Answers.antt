use Rattle.std.proofs.Common.{ap, sym, subst}
use Rattle.ntfs_def.specs.Node.{Node, node_in, whole_of}
use Rattle.index_node.specs.View.{node_of_view}
use Rattle.index_tree.specs.Search.{nodes_of}
use Rattle.index_tree.specs.Walk.{HasSpread, WalksNode}
use Rattle.index_tree.proofs.WalkLaws.{root_spread, root_walk}
use Rattle.index_tree.proofs.Index.walk.Goals as goal

pub walk_node-requires : goal.walk_node-requires
walk_node-requires g c =
    let form = c.args.self.now.form in
    let n : Node = node_of_view c.in-Ok.node in
    record {
      ready = c.requires.ready;
      spread = λ r e. subst (λ k. HasSpread (nodes_of k r) n 15) (sym c.in-Ok.ensures.form)
          (root_spread (nodes_of form r) (node_in form c.args.root.now) n (ap whole_of c.in-Ok.ensures.ok) (c.requires.index r e));
    }

pub returns-clause-walked : goal.returns-clause-walked
returns-clause-walked g c r e =
    let form = c.args.self.now.form in
    let n : Node = node_of_view c.in-Ok.node in
    let entries = c.walk_node.new.out.items in
    root_walk (nodes_of form r) (node_in form c.args.root.now) n (ap whole_of c.in-Ok.ensures.ok) entries
    (subst (λ first. WalksNode (nodes_of form r) n first entries) c.new-out.ensures.items
    (subst (λ k. WalksNode (nodes_of k r) n c.new-out.result.items entries) c.in-Ok.ensures.form (c.in_ok-walk_node.ensures.walked r e)))
