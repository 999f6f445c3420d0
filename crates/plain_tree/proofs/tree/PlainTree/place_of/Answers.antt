use Rattle.std.proofs.Common.{ap, sym, ◌∙◌}
use Rattle.ntfs_def.specs.KeyOrder.{fold_of}
use Rattle.tree_model.specs.Tree.{link_above}
use Rattle.tree_model.proofs.PlaceLaws.{put-here, put-last}
use Rattle.plain_tree.proofs.tree.PlainTree.place_of.Goals as goal

pub returns-then-not-is_behind-clause-place : goal.returns-then-not-is_behind-clause-place
returns-then-not-is_behind-clause-place c =
    put-here (link_above (fold_of c.args.self.now.case)) c.args.link.now c.args.links.now c.links.place c.index-links-place.result
    c.links-test.true
    (ap (link_above (fold_of c.args.self.now.case) c.args.link.now) (sym c.index-links-place.is) ∙ sym c.is_behind.ensures
    ∙ c.if-not-is_behind.true)
    c.links.invariant

pub returns-clause-place : goal.returns-clause-place
returns-clause-place c =
    put-last (link_above (fold_of c.args.self.now.case)) c.args.link.now c.args.links.now c.links.place c.links-test.false
    c.links.auto.place-end c.links.invariant
