use Rattle.std.proofs.Common.{Ok, ap, sym, ◌∙◌}
use Rattle.tree_model.specs.declared.reply.Answer.TheVariants as a
use Rattle.tree_read.proofs.NodeLaws.{attr-held}
use Rattle.tree_read.proofs.node.attr.Goals as goal

pub returns : goal.returns
returns c = λ view n. attr-held view c.args.held.now n ∙ ap (λ flags. Ok (a.Attr flags)) (sym c.read_standard.ensures.flags)
