use Rattle.std.proofs.Common.{◌≡◌, sym, ◌∙◌, arith}
use Rattle.ntfs_def.specs.declared.records.TheConstants.{ROOT}
use Rattle.tree_read.specs.Nodes.{number_of}
use Rattle.tree_read.proofs.LinkCounts.{held-count, held-root}
use Rattle.tree_read.proofs.node.link_count.Goals as goal

pub returns-then-number-eq-ROOT : goal.returns-then-number-eq-ROOT
returns-then-number-eq-ROOT c = λ view n.
    let root : number_of c.args.held.now ≡ ROOT = omega (arith, c.number.ensures, c.if-number-eq-ROOT.true) in
    sym (held-root view c.args.held.now n root)

pub returns : goal.returns
returns c = λ view n.
    c.count_names.ensures
    ∙ sym (held-count view c.args.held.now n (λ root. absurd (omega (arith, root, c.number.ensures, c.if-number-eq-ROOT.false))))
