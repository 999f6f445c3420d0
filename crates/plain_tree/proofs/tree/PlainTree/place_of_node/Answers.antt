use Rattle.std.proofs.Common.{◌≤◌, length, subst}
use Rattle.plain_tree.specs.Plain.{tree_of}
use Rattle.plain_tree.proofs.EffectLaws.{found-none}
use Rattle.plain_tree.proofs.tree.PlainTree.place_of_node.Goals as goal

pub returns : goal.returns
unfolding tree_of
returns c =
    found-none c.args.self.now.nodes.items c.args.file c.nodes.place
    (subst (λ nodes. length nodes ≤ c.nodes.place) c.deref-number-items.ensures.value c.nodes-test.false) c.nodes.invariant
