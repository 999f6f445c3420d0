use Rattle.std.proofs.Common.{ap, option_map, sym, ◌∙◌}
use Rattle.ntfs_def.specs.KeyOrder.{fold_of}
use Rattle.plain_tree.specs.Plain.{lent, tree_of}
use Rattle.tree_model.specs.Subjects.{content_named}
use Rattle.tree_model.specs.Tree.{sought_stream}
use Rattle.tree_model.specs.declared.tree.Stream.{Stream}
use Rattle.plain_tree.proofs.tree.PlainTree.content.Goals as goal

pub returns-in-Some : goal.returns-in-Some
unfolding tree_of
returns-in-Some c =
    c.held.ensures
    ∙ ap (option_map (λ (stream : Stream). stream.content))
    (c.stream.ensures ∙ ap (λ streams. sought_stream (fold_of c.args.self.now.case) streams c.args.name.now) c.as_slice.ensures)
    ∙ ap (λ node. content_named (tree_of c.args.self.now) c.args.name.now (lent node)) (sym c.in-Some.is)
