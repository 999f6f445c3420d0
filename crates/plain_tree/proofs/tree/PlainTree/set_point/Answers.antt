use Rattle.tree_model.specs.Effects.{stamped}
use Rattle.plain_tree.proofs.EffectLaws.{put-changed}
use Rattle.plain_tree.proofs.tree.PlainTree.set_point.Goals as goal

pub returns-in-Some : goal.returns-in-Some
returns-in-Some c =
    put-changed c.args.self.now c.args.file c.in-Some.place c.index_mut.result.now
    (λ node. stamped c.args.now (record node { point = c.args.point })) c.in-Some.ensures c.index_mut.ensures.value
