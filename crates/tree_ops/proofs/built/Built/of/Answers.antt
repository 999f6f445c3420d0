use Rattle.tree_ops.proofs.UnbuiltLaws.{unbuilt}
use Rattle.tree_ops.proofs.built.Built.of.Goals as goal

pub returns-in_default-clause-none : goal.returns-in_default-clause-none
returns-in_default-clause-none c = λ e.
    let other = c.in_default in
    unbuilt c.args.command.now other.not-Df other.not-Ls other.not-Stat other.not-Links other.not-Cat other.not-Read other.not-Streams
    other.not-Attr other.not-Sec other.not-Reparse other.not-Objid other.not-Time other.not-Open other.not-Hread
    other.not-Close other.not-Sd
