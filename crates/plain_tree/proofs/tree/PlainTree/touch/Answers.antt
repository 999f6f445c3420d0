use Rattle.tree_model.specs.Effects.{touched}
use Rattle.plain_tree.proofs.EffectLaws.{put-changed}
use Rattle.plain_tree.proofs.tree.PlainTree.touch.Goals as goal

pub returns-in-Some : goal.returns-in-Some
returns-in-Some c =
    put-changed c.args.self.now c.args.file c.in-Some.place c.index_mut.result.now
    (touched c.args.now) c.in-Some.ensures c.index_mut.ensures.value
