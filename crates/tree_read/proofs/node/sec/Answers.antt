use Rattle.std.proofs.Common.{Ok, ap, sym, ◌∙◌}
use Rattle.tree_model.specs.declared.reply.Answer.TheVariants as a
use Rattle.tree_read.proofs.NodeLaws.{sec-held}
use Rattle.tree_read.proofs.node.sec.Goals as goal

pub returns : goal.returns
returns c = λ view n. sec-held view c.args.held.now n ∙ ap (λ security. Ok (a.Sec security)) (sym c.read_standard.ensures.security)
