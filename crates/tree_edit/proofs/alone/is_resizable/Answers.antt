use Rattle.std.proofs.Common.{sym, ◌∙◌}
use Rattle.tree_edit.proofs.AloneFound.{resize-not, resize-so}
use Rattle.tree_edit.proofs.alone.is_resizable.Goals as goal

pub returns-then-not-branch-clause-is : goal.returns-then-not-branch-clause-is
returns-then-not-branch-clause-is c = λ view mounts sound n name is.
    resize-not view c.args.mounted.now c.args.held.now mounts sound n name c.args.stream.now is c.args.size
    (sym c.if-not-branch.true ∙ c.in_ok-is_alone.ensures.is view mounts sound n name is)

pub returns-clause-is : goal.returns-clause-is
returns-clause-is c = λ view mounts sound n name is.
    resize-so view c.args.mounted.now c.args.held.now mounts sound n name c.args.stream.now is c.args.size
    (sym c.if-not-branch.false ∙ c.in_ok-is_alone.ensures.is view mounts sound n name is) c.look_at_names.ensures c.fits_value.result
    c.fits_value.ensures
